-- The tests of branches, and the sign of an extended immediate.
use Rattle.std.proofs.Common.{◌≡◌, ℕ, ◌<◌, true, false, ⊎_elim, arith}
use Rattle.std.proofs.lemmas.Int.{ints}
use Rattle.std.proofs.lemmas.Bool.Decides.{nat_tests}
use Rattle.std.proofs.lemmas.Bool.{cases_Bool}
use Rattle.words.specs.declared.Imm.{Imm}
use Rattle.words.specs.declared.Test.{Test}
use Rattle.words.specs.declared.Test.TheVariants.{Equal, NotEqual, Greater, GreaterEqual, Less, LessEqual}
use Rattle.words.specs.Values.{passes}
use Rattle.words.specs.Immediates.{extended}
use Rattle.effects.specs.Whole.{signed, value}
use Rattle.effects.specs.Effects.{Holds}

module _ (w : ℕ) (small : w < 65536) where
  pub holds_if : (t : Test) → passes t w ≡ true → Holds t (signed w)
  holds_if Equal e = grind (arith, ints, nat_tests)
  holds_if NotEqual e = λ z. grind (arith, ints, nat_tests)
  holds_if Greater e = grind (arith, ints, nat_tests)
  holds_if GreaterEqual e = grind (arith, ints, nat_tests)
  holds_if Less e = grind (arith, ints, nat_tests)
  holds_if LessEqual e = grind (arith, ints, nat_tests)

  pub passes_if : (t : Test) → Holds t (signed w) → passes t w ≡ true
  passes_if Equal n = grind (arith, ints, nat_tests)
  passes_if NotEqual n = grind (arith, ints, nat_tests)
  passes_if Greater n = grind (arith, ints, nat_tests)
  passes_if GreaterEqual n = grind (arith, ints, nat_tests)
  passes_if Less n = grind (arith, ints, nat_tests)
  passes_if LessEqual n = grind (arith, ints, nat_tests)

  pub fails_if : (t : Test) → (Holds t (signed w) → ⊥) → passes t w ≡ false
  fails_if t n = ⊎_elim (λ e. absurd (n (holds_if t e))) (λ e. e) (cases_Bool (passes t w))

-- sign extension keeps the value
pub extended_signed : {MAX : ℕ} (i : Imm MAX) → MAX < 65536 → signed (extended i) ≡ value i
extended_signed {MAX} i h = grind (arith, ints, nat_tests)
