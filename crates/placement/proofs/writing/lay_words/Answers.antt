use Rattle.std.proofs.Common.{Some, None, arith}
use Rattle.placement.proofs.Laying.{laid, over}
use Rattle.placement.proofs.writing.lay_words.Goals as goal

pub loop-word-preserved-in-Some-end : goal.loop-word-preserved-in-Some-end
loop-word-preserved-in-Some-end g c =
    laid _ _ _ _ _ _ (rw c.in_ok-word.was at c.in-Some.ensures.steps) c.in-Some-end.at (omega arith) (rw c.in-Some-end.is at c.loop-word.invariant)

pub loop-word-preserved-in_default : goal.loop-word-preserved-in_default
loop-word-preserved-in_default g c =
    over _ _ _ _ _ _ (rw c.in_ok-word.was at c.in-Some.ensures.steps) (Some c.in-Some-end.at) (omega arith) (rw c.in-Some-end.is at c.loop-word.invariant)

pub loop-word-preserved : goal.loop-word-preserved
loop-word-preserved g c =
    over _ _ _ _ _ _ (rw c.in_ok-word.was at c.in-Some.ensures.steps) None tt (rw c.in_default.is at c.loop-word.invariant)
