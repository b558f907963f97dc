-- The texts that one would write for a number, and that they are read.
use Rattle.std.proofs.Common.{◌≡◌, ℕ, zero, suc, ◌+◌, ◌-◌, ◌*◌, ◌/◌, ◌%◌, ◌^◌, ◌<◌, List, [], ◌∷◌, ◌++◌, length, replicate, Some, decimal, refl, ap, ◌∙◌, pow-suc, arith}
use native.Mathlib.Nat.{pow-zero}
use Rattle.std.specs.Str.Parse.{AllDigits, digits_value as value}
use Rattle.std.specs.Char.{digit_value, digit_char}
use Rattle.std.proofs.lemmas.Nat.{div-add-mod', div_below, mod_below}
use Rattle.std.proofs.lemmas.Int.Digits.{digits_value_push, digits_push}
use Rattle.std.proofs.lemmas.Fmt.{decimal_is_IsNumeral}
use Rattle.std.proofs.lemmas.List.{length-append}
use Rattle.std.proofs.lemmas.Bool.Decides.{nat_tests}
use Rattle.numbers.specs.declared.Width.{Width}
use Rattle.numbers.specs.declared.Width.TheVariants.{Six, Eight, Sixteen}
use Rattle.numbers.specs.Reading.{bits_of, reading}
use Rattle.numbers.specs.Hex.{hex4}
use Rattle.numbers.specs.Texts.{Writes, plain, plus, minus, hexadecimal, binary, usual, digits_of, Spells, HasTexts}
use Rattle.numbers.proofs.Told.{read_as}

behind_zeros : (zeros : ℕ) (ds : List ℕ) (n : ℕ) → Writes 10 ds n → Writes 10 (replicate zeros 48 ++ ds) n
behind_zeros zero ds n h = h
behind_zeros (suc zeros) ds n h =
    let rest = behind_zeros zeros ds n h in
    ((omega arith, (omega arith, rest.0.1)), rest.1)

usual_writes : (zeros n : ℕ) → n < 2 ^ 64 → Writes 10 (usual zeros n) n
usual_writes zeros n h = let d = decimal_is_IsNumeral n h in behind_zeros zeros (decimal n) n (d.0, d.1)

module _ (char : ℕ → ℕ) (base : ℕ) (pos : 0 < base) (spells : Spells base char) where
  digits_length : (count n : ℕ) → length (digits_of char base count n) ≡ count
  digits_length zero n = refl
  digits_length (suc count) n = length-append (digits_of char base count (n / base)) (char (n % base) ∷ []) ∙ (let e = digits_length count (n / base) in omega arith)

  digit_is : (n : ℕ) → digit_value (char (n % base)) ≡ n % base
  digit_is n = spells (n % base) (mod_below n base pos)

  digits_good : (count n : ℕ) → AllDigits base (digits_of char base count n)
  digits_good zero n = tt
  digits_good (suc count) n =
      digits_push base (digits_of char base count (n / base)) (char (n % base)) (digits_good count (n / base)) (let e = digit_is n in let m = mod_below n base pos in omega arith)

  digits_value : (count n : ℕ) → n < base ^ count → value base (digits_of char base count n) ≡ n
  digits_value zero n h = omega (arith, pow-zero base)
  digits_value (suc count) n h =
      let less : n / base < base ^ count = div_below n base (base ^ count) pos (rw pow-suc at h) in
      digits_value_push base (digits_of char base count (n / base)) (char (n % base))
      ∙ ap (λ q. q * base + digit_value (char (n % base))) (digits_value count (n / base) less)
      ∙ ap (λ d. n / base * base + d) (digit_is n)
      ∙ div-add-mod' n base

  digits_write : (count n : ℕ) → 0 < count → n < base ^ count → Writes base (digits_of char base count n) n
  digits_write count n h k = ((let e = digits_length count n in omega arith, digits_good count n), digits_value count n k)

-- what is asked of the number of bits
record Sized (bits : ℕ) : Type 0 where
  low : 2 ^ (bits - 1) < 2 ^ 64
  some : 0 < bits
  hex : (w : ℕ) → w < 2 ^ bits → w < 16 ^ ((bits + 3) / 4)

sized : (width : Width) → Sized (bits_of width)
sized Six = record { low = omega arith; some = omega arith; hex = λ w h. omega arith }
sized Eight = record { low = omega arith; some = omega arith; hex = λ w h. omega arith }
sized Sixteen = record { low = omega arith; some = omega arith; hex = λ w h. omega arith }

texts : (bits : ℕ) → Sized bits → HasTexts bits
texts bits s = record {
  from_zero = λ n zeros h. read_as bits _ n (plain (usual_writes zeros n (omega (arith, s.low))) h);
  with_plus = λ n zeros h. read_as bits _ n (plus (usual_writes zeros n (omega (arith, s.low))) h);
  below_zero = λ n zeros h. read_as bits _ _ (minus (usual_writes zeros n (omega (arith, s.low))) h);
  in_hexadecimal = λ char spells w h.
      read_as bits _ w (hexadecimal (digits_write char 16 (omega arith) spells ((bits + 3) / 4) w (omega (arith, s.some)) (s.hex w h)) (let e = digits_length char 16 (omega arith) spells ((bits + 3) / 4) w in omega arith) h);
  in_binary = λ char spells w h.
      read_as bits _ w (binary (digits_write char 2 (omega arith) spells bits w s.some h) (let e = digits_length char 2 (omega arith) spells bits w in omega arith) h);
}

pub has_texts : (width : Width) → HasTexts (bits_of width)
has_texts width = texts (bits_of width) (sized width)

char_is : Spells 16 digit_char
char_is d h = grind (arith, nat_tests)

pub hex_reads : (w : ℕ) → w < 65536 → reading 16 (48 ∷ 120 ∷ hex4 w) ≡ Some w
hex_reads w h =
    let first : w / 4096 ≡ w / 16 / 16 / 16 % 16 = omega arith in
    let second : w / 256 % 16 ≡ w / 16 / 16 % 16 = omega arith in
    ap (λ d. reading 16 (48 ∷ 120 ∷ digit_char d ∷ digit_char (w / 256 % 16) ∷ digit_char (w / 16 % 16) ∷ digit_char (w % 16) ∷ [])) first
    ∙ ap (λ d. reading 16 (48 ∷ 120 ∷ digit_char (w / 16 / 16 / 16 % 16) ∷ digit_char d ∷ digit_char (w / 16 % 16) ∷ digit_char (w % 16) ∷ [])) second
    ∙ (has_texts Sixteen).in_hexadecimal digit_char char_is w h
