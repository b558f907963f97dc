-- Shifts as products and quotients by powers of two, and bits of conjunctions and disjunctions.
use Rattle.std.proofs.Common.{◌≡◌, ℕ, ◌*◌, ◌/◌, ◌%◌, ◌^◌, ◌<◌, ◌≤◌, min, max, ◌⊎◌, pos, neg_ℤ, ◌∙◌, ⊎_elim, arith}
use lib.Bits.{bit_and, bit_or, and_step, or_step}
use Rattle.std.proofs.lemmas.Int.{ints}
use Rattle.std.proofs.lemmas.Nat.{and_shr, or_shr}
use Rattle.std.proofs.lemmas.Bool.Decides.{nat_tests}
use Rattle.words.specs.Values.{shifted}
use Rattle.words.proofs.Shifts.{product_gone, quotient_gone}
use Rattle.effects.specs.Whole.{signed_from}
use Rattle.effects.specs.Effects.{bit}

pub and_bit : (a b k : ℕ) → bit (bit_and a b) k ≡ min (bit a k) (bit b k)
and_bit a b k = grind (arith, and_shr, and_step)

pub or_bit : (a b k : ℕ) → bit (bit_or a b) k ≡ max (bit a k) (bit b k)
or_bit a b k = grind (arith, or_shr, or_step)

module _ (a bits n : ℕ) (word : a < 65536) (six : bits < 64) where
  pub left : signed_from 63 bits ≡ pos n → shifted a bits ≡ a * 2 ^ n % 65536
  left e = grind (arith, ints, nat_tests)

  pub right : signed_from 63 bits ≡ neg_ℤ (pos n) → shifted a bits ≡ a / 2 ^ n
  right e = grind (arith, ints, nat_tests)

  pub gone : (signed_from 63 bits ≡ pos n) ⊎ (signed_from 63 bits ≡ neg_ℤ (pos n)) → 16 ≤ n → shifted a bits ≡ 0
  gone e h = ⊎_elim (λ l. left l ∙ product_gone a n h) (λ r. right r ∙ quotient_gone a n word h) e
