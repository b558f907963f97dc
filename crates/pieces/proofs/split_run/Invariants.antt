use Rattle.std.proofs.Common.{◌≡◌, take}
use Rattle.pieces.specs.Pieces.{behind}
use Rattle.pieces.specs.Laws.{Each}
use Rattle.pieces.proofs.split_run.Given as goal

abbrev pub invariant-loop-i : goal.invariant-loop-i
invariant-loop-i g l =
    let p = g.P.Gaps in
    record { each : Each p.next p.is_gap l.gaps p.start (take l.i l.text); state : l.state ≡ behind p.next p.start (take l.i l.text) }
