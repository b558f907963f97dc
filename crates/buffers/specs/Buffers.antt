-- What stands in a lent buffer: zeros behind a list, a text written at a place, and what appending leaves.
-- Assumes nothing.
use Rattle.std.specs.Prelude.{ℕ, ◌+◌, ◌-◌, cond, List, ◌++◌, length, take, drop, replicate, Some, None, Option, nat_lt}

-- so many zeros
abbrev pub blank : ℕ → List ℕ
blank n = replicate n 0

-- a list, and zeros behind it up to n in all
abbrev pub padded : List ℕ → ℕ → List ℕ
padded front n = front ++ blank (n - length front)

-- a buffer with a text written at a place: all before it and all behind it as it was
abbrev pub overlaid : List ℕ → ℕ → List ℕ → List ℕ
overlaid buffer at text = take at buffer ++ (text ++ drop (at + length text) buffer)

-- what appending answers, and the buffer after it
pub record Appended : Type 0 where
  pub answer : Option ℕ
  pub after : List ℕ

-- a text at a place: the place behind it, or none and the buffer as it was where it does not fit
abbrev pub appending : List ℕ → ℕ → List ℕ → Appended
appending text at buffer =
    cond (nat_lt (length buffer) (at + length text)) (record { answer = None; after = buffer })
    (record { answer = Some (at + length text); after = overlaid buffer at text })
