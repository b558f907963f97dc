-- Which texts are numbers of a width, and of which word. Assumes nothing.
use Rattle.std.specs.Prelude.{◌≡◌, ℕ, zero, suc, ◌+◌, ◌-◌, ◌/◌, ◌%◌, ◌^◌, ◌<◌, ◌≤◌, List, [], ◌∷◌, ◌++◌, length, replicate, Some, decimal, Option}
use Rattle.std.specs.Str.Parse.{IsNumeral, digits_value}
use Rattle.std.specs.Char.{digit_value}
use Rattle.numbers.specs.Reading.{reading}

-- one digit or more of a base, either case, leading zeros too, and the number that they write
abbrev pub Writes : ℕ → List ℕ → ℕ → Type 0
Writes base ds n = IsNumeral base ds × (digits_value base ds ≡ n)

-- the texts of a width, each with its word: decimals in the width's range, as two's complement,
-- and bit patterns that fit, in no more digits than the width can need
pub data Text (bits : ℕ) : List ℕ → ℕ → Type 0 where
  plain : {ds : List ℕ} {n : ℕ} → Writes 10 ds n → n < 2 ^ (bits - 1) → Text bits ds n
  plus : {ds : List ℕ} {n : ℕ} → Writes 10 ds n → n < 2 ^ (bits - 1) → Text bits (43 ∷ ds) n
  minus : {ds : List ℕ} {n : ℕ} → Writes 10 ds n → n ≤ 2 ^ (bits - 1) → Text bits (45 ∷ ds) ((2 ^ bits - n) % 2 ^ bits)
  hexadecimal : {ds : List ℕ} {n : ℕ} → Writes 16 ds n → length ds ≤ (bits + 3) / 4 → n < 2 ^ bits → Text bits (48 ∷ 120 ∷ ds) n
  binary : {ds : List ℕ} {n : ℕ} → Writes 2 ds n → length ds ≤ bits → n < 2 ^ bits → Text bits (48 ∷ 98 ∷ ds) n

-- exactly these texts are read, each to its word
pub record ReadsTexts (bits : ℕ) (text : List ℕ) (r : Option ℕ) : Type 0 where
  pub every : (w : ℕ) → Text bits text w → r ≡ Some w
  pub only : (w : ℕ) → r ≡ Some w → Text bits text w

-- the usual decimal text of a number, behind any number of zeros
abbrev pub usual : ℕ → ℕ → List ℕ
usual zeros n = replicate zeros 48 ++ decimal n

-- so many digits of a base, each written by a character for it
abbrev pub digits_of : (ℕ → ℕ) → ℕ → ℕ → ℕ → List ℕ
digits_of char base zero n = []
digits_of char base (suc count) n = digits_of char base count (n / base) ++ char (n % base) ∷ []

-- a character for each digit: in a lower or an upper case, or mixed
abbrev pub Spells : ℕ → (ℕ → ℕ) → Type 0
Spells base char = (d : ℕ) → d < base → digit_value (char d) ≡ d

-- each number of the range has its usual text, and each word its hexadecimal and binary text
pub record HasTexts (bits : ℕ) : Type 0 where
  pub from_zero : (n zeros : ℕ) → n < 2 ^ (bits - 1) → reading bits (usual zeros n) ≡ Some n
  pub with_plus : (n zeros : ℕ) → n < 2 ^ (bits - 1) → reading bits (43 ∷ usual zeros n) ≡ Some n
  pub below_zero : (n zeros : ℕ) → n ≤ 2 ^ (bits - 1) → reading bits (45 ∷ usual zeros n) ≡ Some ((2 ^ bits - n) % 2 ^ bits)
  pub in_hexadecimal : (char : ℕ → ℕ) → Spells 16 char → (w : ℕ) → w < 2 ^ bits → reading bits (48 ∷ 120 ∷ digits_of char 16 ((bits + 3) / 4) w) ≡ Some w
  pub in_binary : (char : ℕ → ℕ) → Spells 2 char → (w : ℕ) → w < 2 ^ bits → reading bits (48 ∷ 98 ∷ digits_of char 2 bits w) ≡ Some w
