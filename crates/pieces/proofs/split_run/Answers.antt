use Rattle.std.proofs.Common.{◌≡◌, ◌∙◌, get_or, rules}
use Rattle.pieces.proofs.Cuts.{each_more, behind_more}
use Rattle.pieces.proofs.split_run.Goals as goal

pub loop-i-preserved : goal.loop-i-preserved
loop-i-preserved g c =
    let p = g.P.Gaps in
    let xs = c.args.text.now in
    let is = c.loop-i.invariant in
    let same : p.is_gap c.loop-i.state (get_or xs c.loop-i.i 0) ≡ c.args.gaps = search rules in
    record {
      each = each_more p.next p.is_gap c.args.gaps p.start _ xs c.loop-i.i is.each is.state c.loop-i-test.true same;
      state = c.next-state.ensures ∙ behind_more p.next p.is_gap c.args.gaps p.start _ xs c.loop-i.i is.each is.state c.loop-i-test.true;
    }
