-- How many words a chain reads off the tokens left.
use Rattle.std.proofs.Common.{◌≡◌, ℕ, suc, List, [], ◌∷◌, length, Some, None, Option, sym, ap, ◌∙◌}
use Rattle.std.specs.Borrow.{Bor}
use Rattle.std.specs.Iterator.{Yields, YieldsFirstRef, Drains}
use Rattle.std.specs.Iterator.Adapters.{map_while_source, map_while_steps}
use Rattle.std.specs.declared.iter.MapWhile.{MapWhile}
use denote.Param.Members.{Mut, Called}
use Rattle.numbers.specs.Reading.{reading}
use Rattle.text_port.specs.Tokens.{before, words_of}

module _ {I F : Type 0} (left : I → List (List ℕ)) (g : Mut F (Bor (List ℕ) × Unit {0}) (Option ℕ))
    (reads : (f after : F) (t : Bor (List ℕ)) (r : Option ℕ) → Called g f (t, tt) r after → r ≡ reading 16 t.now) where
  abbrev steps : MapWhile I F → Option ℕ → MapWhile I F → Type 0
  steps = map_while_steps (YieldsFirstRef left) g

  abbrev words : MapWhile I F → List ℕ
  words s = words_of (left (map_while_source s))

  no_word : (s t : MapWhile I F) → steps s None t → words s ≡ []
  no_word s t (None, step, end) = ap words_of step.0
  no_word s t (Some x, step, call) = ap words_of step ∙ ap (λ r. before r (words t)) (sym (reads _ _ x None call))

  one_word : (s t : MapWhile I F) (word : ℕ) → steps s (Some word) t → words s ≡ word ∷ words t
  one_word s t word (None, step, end) = absurd (let z : ◌≡◌ {A = Option ℕ} (Some word) None = end.0 in cc)
  one_word s t word (Some x, step, call) = ap words_of step ∙ ap (λ r. before r (words t)) (sym (reads _ _ x (Some word) call))

  all_words : (xs : List ℕ) (s t u : MapWhile I F) → Yields steps s xs t → steps t None u → length xs ≡ length (words s)
  all_words [] s t u here end = sym (ap (λ p. length (words p)) here ∙ ap length (no_word t u end))
  all_words (x ∷ xs) s t u (j, step, more) end = ap suc (all_words xs j t u more end) ∙ sym (ap length (one_word s j x step))

  pub drained : (s : MapWhile I F) (xs : List ℕ) → Drains steps s xs → length xs ≡ length (words s)
  drained s xs (u, (t, gave, end)) = all_words xs s t u gave end
