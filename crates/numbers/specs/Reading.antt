-- The word that a number's text is read to, over the number of bits. Assumes nothing.
use Rattle.std.specs.Prelude.{ℕ, ◌+◌, ◌-◌, ◌*◌, ◌/◌, ◌%◌, ◌^◌, Bool, cond, ◌&&◌, ltb, leb, List, [], ◌∷◌, length, drop, Some, None, Option, ◌==◌, nat_le, nat_lt, slice_index}
use Rattle.std.specs.Char.{digit_value}
use Rattle.numbers.specs.declared.Width.{Width}
use Rattle.numbers.specs.declared.Width.TheVariants.{Six, Eight, Sixteen}

-- the bits of each width
abbrev pub bits_of : Width → ℕ
bits_of Six = 6
bits_of Eight = 8
bits_of Sixteen = 16

-- the number that digits write behind the digits of n; none where a character is no digit of the base
abbrev pub digits_from : ℕ → ℕ → List ℕ → Option ℕ
digits_from base n [] = Some n
digits_from base n (c ∷ cs) = cond (nat_lt (digit_value c) base) (digits_from base (n * base + digit_value c) cs) None

-- the word of a number that passes a test
abbrev pub taken_if : (ℕ → Bool) → (ℕ → ℕ) → Option ℕ → Option ℕ
taken_if test word None = None
taken_if test word (Some n) = cond (test n) (Some (word n)) None

-- one digit or more, and at most so many
abbrev pub counted : ℕ → List ℕ → Bool
counted most ds = nat_le 1 (length ds) && nat_le (length ds) most

-- a bit pattern, which must fit
abbrev pub pattern : ℕ → ℕ → ℕ → List ℕ → Option ℕ
pattern bits base most ds = cond (counted most ds) (taken_if (λ n. ltb n (2 ^ bits)) (λ n. n) (digits_from base 0 ds)) None

-- a decimal number from 0 on, and one below 0, as its two's complement
abbrev pub positive : ℕ → List ℕ → Option ℕ
positive bits ds = cond (nat_le 1 (length ds)) (taken_if (λ n. ltb n (2 ^ (bits - 1))) (λ n. n) (digits_from 10 0 ds)) None

abbrev pub negative : ℕ → List ℕ → Option ℕ
negative bits ds = cond (nat_le 1 (length ds)) (taken_if (λ n. leb n (2 ^ (bits - 1))) (λ n. (2 ^ bits - n) % 2 ^ bits) (digits_from 10 0 ds)) None

-- behind a minus, a plus, or no sign
abbrev pub after_sign : ℕ → List ℕ → Option ℕ
after_sign bits text =
    cond (slice_index text 0 == 45) (negative bits (drop 1 text))
    (cond (slice_index text 0 == 43) (positive bits (drop 1 text)) (positive bits text))

-- the text's first two characters
abbrev pub begins : ℕ → ℕ → List ℕ → Bool
begins a b text = slice_index text 0 == a && slice_index text 1 == b

-- 0x begins a hexadecimal number, 0b a binary one; others are decimal
abbrev pub reading : ℕ → List ℕ → Option ℕ
reading bits text =
    cond (begins 48 120 text) (pattern bits 16 ((bits + 3) / 4) (drop 2 text))
    (cond (begins 48 98 text) (pattern bits 2 bits (drop 2 text)) (after_sign bits text))
