-- A sum of digits that stops at 65,536 tells what the whole sum tells.
use Rattle.std.proofs.Common.{◌≡◌, ℕ, ◌+◌, ◌*◌, ◌<◌, ◌≤◌, min, Bool, true, false, cond, ltb, List, [], ◌∷◌, Some, None, Option, refl, ap, ⊎_elim, le-mul_of_pos_right, arith}
use Rattle.std.specs.Option.{option_map}
use Rattle.std.specs.Char.{digit_value}
use Rattle.std.proofs.lemmas.Bool.{cases_lt, lt-ltb}
use Rattle.numbers.specs.Reading.{digits_from}

abbrev pub capped : Option ℕ → Option ℕ
capped o = option_map (λ n. min n 65536) o

one_more : (base m n d : ℕ) → 0 < base → min m 65536 ≡ min n 65536 → min (m * base + d) 65536 ≡ min (n * base + d) 65536
one_more base m n d pos same =
    ⊎_elim
    (λ lt. let e : m ≡ n = omega arith in ap (λ x. min (x * base + d) 65536) e)
    (λ ge. let p : m ≤ m * base = le-mul_of_pos_right m pos in let q : n ≤ n * base = le-mul_of_pos_right n pos in omega arith)
    (cases_lt m 65536)

same_from : (base : ℕ) (cs : List ℕ) (m n : ℕ) → 0 < base → min m 65536 ≡ min n 65536 → capped (digits_from base m cs) ≡ capped (digits_from base n cs)
same_from base [] m n pos same = ap Some same
same_from base (c ∷ cs) m n pos same = by (ltb (digit_value c) base) (same_from base cs (m * base + digit_value c) (n * base + digit_value c) pos (one_more base m n (digit_value c) pos same))
  where
    by : (b : Bool) → capped (digits_from base (m * base + digit_value c) cs) ≡ capped (digits_from base (n * base + digit_value c) cs) → capped (cond b (digits_from base (m * base + digit_value c) cs) None) ≡ capped (cond b (digits_from base (n * base + digit_value c) cs) None)
    by true rest = rest
    by false rest = refl

-- one digit more
pub capped_more : (base n c : ℕ) (rest : List ℕ) → 0 < base → digit_value c < base → capped (digits_from base (min (n * base + digit_value c) 65536) rest) ≡ capped (digits_from base n (c ∷ rest))
capped_more base n c rest pos lt =
    rw (lt-ltb (digit_value c) base lt) (same_from base rest (min (n * base + digit_value c) 65536) (n * base + digit_value c) pos (omega arith))
