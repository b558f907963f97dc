-- When a text is accepted, and for which cause and with which number it is refused. Assumes nothing.
use Rattle.std.specs.Prelude.{◌≡◌, ℕ, ◌+◌, ◌<◌, ◌≤◌, cond, List, [], ◌∷◌, length, Some, None, Ok, Err, Option, Result, ◌≢◌, nat_le, slice_index_or}
use Rattle.numbers.specs.Reading.{reading}
use Rattle.text_port.specs.Tokens.{tokens}
use Rattle.text_port.specs.declared.checks.Refusal.{Refusal}
use Rattle.text_port.specs.declared.checks.Refusal.TheVariants.{Length, Token}

-- the number of each refusal
abbrev pub number_of : Refusal → ℕ
number_of Length = 1
number_of (Token at) = 15

-- a token that was read to a word, or to none, and what is said of the tokens behind it
abbrev pub first_of : Option ℕ → ℕ → Result Unit Refusal → Result Unit Refusal
first_of None at behind = Err (Token at)
first_of (Some word) at behind = behind

-- refused with the number of the first token that is no 16-bit number, where the first token has this number
abbrev pub judging : ℕ → List (List ℕ) → Result Unit Refusal
judging at [] = Ok tt
judging at (t ∷ ts) = first_of (reading 16 t) at (judging (at + 1) ts)

-- at most 65,536 bytes, then every token a 16-bit number; the tokens are counted from 1
abbrev pub checking : List ℕ → Result Unit Refusal
checking text = cond (nat_le (length text) 65536) (judging 1 (tokens text)) (Err Length)

-- the first so many tokens are 16-bit numbers
abbrev pub Numbers : ℕ → List (List ℕ) → Type 0
Numbers count ts = (k : ℕ) → k < count → reading 16 (slice_index_or ts k []) ≢ None

-- the token at a place, counted from 0, is the first that is no 16-bit number
pub record FirstBad (ts : List (List ℕ)) (place : ℕ) : Type 0 where
  pub within : place < length ts
  pub before : Numbers place ts
  pub none : reading 16 (slice_index_or ts place []) ≡ None

-- each cause gives its answer, and each answer comes from its cause
pub record Caused (text : List ℕ) (r : Result Unit Refusal) : Type 0 where
  pub long : 65536 < length text → r ≡ Err Length
  pub if_long : r ≡ Err Length → 65536 < length text
  pub bad : (place : ℕ) → length text ≤ 65536 → FirstBad (tokens text) place → r ≡ Err (Token (place + 1))
  pub if_bad : (at : ℕ) → r ≡ Err (Token at) → (length text ≤ 65536) × ((place : ℕ) × (at ≡ place + 1) × FirstBad (tokens text) place)
  pub good : length text ≤ 65536 → Numbers (length (tokens text)) (tokens text) → r ≡ Ok tt
  pub if_good : r ≡ Ok tt → (length text ≤ 65536) × Numbers (length (tokens text)) (tokens text)
