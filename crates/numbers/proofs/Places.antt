-- Decimal digits written from the last to the first.
use Rattle.std.proofs.Common.{◌≡◌, ℕ, suc, ◌+◌, ◌/◌, ◌%◌, ◌^◌, ◌<◌, ◌≤◌, List, [], ◌∷◌, ◌++◌, length, drop, set, decimal, sym, ap, ◌∙◌, append_assoc, pow-suc, arith}
use Rattle.std.proofs.lemmas.Nat.{div_below}
use Rattle.std.proofs.lemmas.Fmt.{decimal_digit, decimal_step}
use Rattle.std.proofs.lemmas.List.{drop-set}

pub fewer : (left at : ℕ) → left < 10 ^ (at + 1) → left / 10 < 10 ^ at
fewer left at h = div_below left 10 (10 ^ at) (omega arith) (let e : at + 1 ≡ suc at = omega arith in rw (e, pow-suc) at h)

-- a digit before those that are written, at a place counted from the front
module _ (n left at : ℕ) (places : List ℕ) (so_far : decimal n ≡ decimal left ++ drop (at + 1) places) (room : at < length places) where
  -- the first digit
  pub last_place : left < 10 → decimal n ≡ drop at (set places at (48 + left % 10))
  last_place few =
      let digit : left ≡ left % 10 = omega arith in
      so_far ∙ ap (λ ds. ds ++ drop (at + 1) places) (decimal_digit left few ∙ ap (λ d. (48 + d) ∷ []) digit)
      ∙ sym (drop-set places at (48 + left % 10) room)

  -- one more
  pub one_place : 10 ≤ left → left < 2 ^ 64 → decimal n ≡ decimal (left / 10) ++ drop at (set places at (48 + left % 10))
  one_place more fits =
      so_far ∙ ap (λ ds. ds ++ drop (at + 1) places) (decimal_step left more fits)
      ∙ append_assoc (decimal (left / 10)) ((48 + left % 10) ∷ []) (drop (at + 1) places)
      ∙ ap (λ ds. decimal (left / 10) ++ ds) (sym (drop-set places at (48 + left % 10) room))
