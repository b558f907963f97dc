use Rattle.std.proofs.Common.{length}
use Rattle.placement.specs.Placing.{answers}
use Rattle.placement.proofs.Laying.{Sofar}
use Rattle.placement.proofs.writing.lay_words.Given as goal

abbrev pub invariant-loop-word : goal.invariant-loop-word
invariant-loop-word g l =
    Sofar (answers (g.L.Labels.valued l.initial.words.site.labels.now) l.initial.words.words)
    (answers (g.L.Labels.valued l.word-iterator.site.labels.now) l.word-iterator.words) (length l.initial.out) l.end l.out
