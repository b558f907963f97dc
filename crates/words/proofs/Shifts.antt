-- Shifts by sixteen places and more leave nothing of a word.
use Rattle.std.proofs.Common.{◌≡◌, ℕ, ◌-◌, ◌*◌, ◌/◌, ◌%◌, ◌^◌, ◌<◌, ◌≤◌, sym, ap, ◌∙◌, mul_assoc, arith}
use Rattle.std.proofs.lemmas.Nat.{pow-add}
use Rattle.std.proofs.Math.Pow.{pow_mono}

pub product_gone : (a n : ℕ) → 16 ≤ n → a * 2 ^ n % 65536 ≡ 0
product_gone a n h =
    let split : 2 ^ n ≡ 2 ^ (n - 16) * 65536 = ap (λ k. 2 ^ k) (omega arith) ∙ pow-add 2 (n - 16) 16 in
    let e : a * 2 ^ n ≡ a * 2 ^ (n - 16) * 65536 = ap (λ k. a * k) split ∙ sym (mul_assoc a (2 ^ (n - 16)) 65536) in
    omega arith

pub quotient_gone : (a n : ℕ) → a < 65536 → 16 ≤ n → a / 2 ^ n ≡ 0
quotient_gone a n word h =
    let above = pow_mono h in
    grind arith
