use Rattle.std.proofs.Common.{◌≡◌, ℕ, ◌+◌, ◌∷◌, List, length, Ok, Err, Result, refl, sym, ap, ◌∙◌, add-zero, arith}
use Rattle.faults.specs.Chains.{then, under, gathered}
use Rattle.operands.specs.Texts.{characters}
use Rattle.operations.proofs.fields.count_characters.Goals as goal

none_yet : {E : Type 0} (r : Result (List ℕ) E) → under (λ cs. length cs + 0) r ≡ under length r
none_yet (Ok cs) = ap Ok (add-zero (length cs))
none_yet (Err e) = refl

one_more : {E : Type 0} (c k : ℕ) (r : Result (List ℕ) E) → under (λ cs. length cs + (k + 1)) r ≡ under (λ cs. length cs + k) (then r (λ cs. Ok (c ∷ cs)))
one_more c k (Ok cs) = let same : length cs + (k + 1) ≡ length (c ∷ cs) + k = omega arith in ap Ok same
one_more c k (Err e) = refl

pub loop-character-init : goal.loop-character-init
loop-character-init c = rw c.into_iter-character-iterator.ensures.into_iter_gives (none_yet _, omega arith)

pub loop-character-preserved : goal.loop-character-preserved
loop-character-preserved c =
    let h = rw c.in_ok-character.was at c.in-Some.ensures.steps in
    let counted = ap (λ rs. under (λ cs. length cs + c.loop-character.count) (gathered rs)) (sym h.0) in
    (one_more c.in_ok-character.field-0 c.loop-character.count (gathered (characters c.next.new.self.rest.now)) ∙ counted ∙ c.loop-character.invariant.0, omega (arith, h.1))
