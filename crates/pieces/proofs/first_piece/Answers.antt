use Rattle.std.proofs.Common.{◌<◌, length, arith, true-eqb, false-eqb}
use Rattle.pieces.proofs.Cuts.{no_piece, cut_piece}
use Rattle.pieces.proofs.first_piece.Goals as goal

pub returns-then-is_empty : goal.returns-then-is_empty
returns-then-is_empty g c =
    let p = g.P.Gaps in
    let gaps = c.split_run.ensures in
    no_piece p.next p.is_gap p.start _ _ _ gaps.whole gaps.each (true-eqb _ 0 c.if-is_empty.ensures)

pub returns : goal.returns
returns g c =
    let p = g.P.Gaps in
    let gaps = c.split_run.ensures in
    let piece = c.split_run-2.ensures in
    let some : 0 < length c.split_run.result.1.now = omega (arith, false-eqb _ 0 c.if-is_empty.ensures) in
    cut_piece p.next p.is_gap p.start _ _ _ gaps.whole gaps.each g.met.P.Gaps.laws some gaps.stops _ _ piece.whole piece.each piece.stops
