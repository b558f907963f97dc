-- Exactly the texts of a width are read, each to its word.
use Rattle.std.proofs.Common.{◌≡◌, ℕ, ◌+◌, ◌-◌, ◌/◌, ◌^◌, ◌<◌, ◌≤◌, true, cond, ◌&&◌, eqb, List, [], ◌∷◌, length, get_or, drop, Some, Option, sym, ap, ◌∙◌, subst, mod-lt, arith, pow_pos, pow_mono}
use Rattle.std.specs.Str.Parse.{AllDigits}
use Rattle.std.specs.Char.{digit_value}
use Rattle.std.proofs.lemmas.Bool.{eqb-true, and_parts, cond_both}
use Rattle.std.proofs.lemmas.Bool.Decides.{nat_tests}
use Rattle.numbers.specs.Reading.{pattern, positive, negative, begins, after_sign, reading}
use Rattle.numbers.specs.Texts.{Text, plain, plus, minus, hexadecimal, binary, ReadsTexts}
use Rattle.numbers.proofs.Values.{positive_told, positive_only, negative_told, negative_only, pattern_told, pattern_only}

decimal_digit : (c : ℕ) → digit_value c < 10 → (48 ≤ c) × (c ≤ 57)
decimal_digit c h = (grind (arith, nat_tests), grind (arith, nat_tests))

-- a text of digits begins with no sign, and its second character is none of the prefixes'
unsigned : (bits : ℕ) (ds : List ℕ) → 0 < length ds → AllDigits 10 ds → after_sign bits ds ≡ positive bits ds
unsigned bits [] h d = absurd (omega arith)
unsigned bits (c ∷ cs) h d = let k = decimal_digit c d.0 in grind (arith, nat_tests)

second : (ds : List ℕ) → AllDigits 10 ds → (get_or ds 1 0 ≡ 120 → ⊥) × (get_or ds 1 0 ≡ 98 → ⊥)
second [] d = (λ e. omega arith, λ e. omega arith)
second (c ∷ []) d = (λ e. omega arith, λ e. omega arith)
second (c ∷ b ∷ cs) d = let k = decimal_digit b d.1.0 in (λ e. omega arith, λ e. omega arith)

neither : {X : Type 0} (a b k m n : ℕ) (x y z : X) → (a ≡ k → (b ≡ m → ⊥) × (b ≡ n → ⊥)) → cond (eqb a k && eqb b m) x (cond (eqb a k && eqb b n) y z) ≡ z
neither a b k m n x y z p = grind (arith, nat_tests)

unprefixed : (bits : ℕ) (ds : List ℕ) → AllDigits 10 ds → reading bits ds ≡ after_sign bits ds
unprefixed bits ds d = neither (get_or ds 0 0) (get_or ds 1 0) 48 120 98 _ _ _ (λ _. second ds d)

pub read_as : (bits : ℕ) (text : List ℕ) (w : ℕ) → Text bits text w → reading bits text ≡ Some w
read_as bits text w (plain {ds} {n} h lt) = unprefixed bits ds h.0.1 ∙ unsigned bits ds h.0.0 h.0.1 ∙ positive_told bits ds n h lt
read_as bits text w (plus {ds} {n} h lt) = positive_told bits ds n h lt
read_as bits text w (minus {ds} {n} h le) = negative_told bits ds n h le
read_as bits text w (hexadecimal {ds} {n} h few lt) = pattern_told bits ds 16 ((bits + 3) / 4) n h few lt
read_as bits text w (binary {ds} {n} h few lt) = pattern_told bits ds 2 bits n h few lt

-- what a text's first characters are, where they pass a test
one_first : (a : ℕ) (text : List ℕ) → 0 < a → eqb (get_or text 0 0) a ≡ true → text ≡ a ∷ drop 1 text
one_first a [] pos e = let z = eqb-true 0 a e in absurd (omega arith)
one_first a (c ∷ cs) pos e = ap (λ x. x ∷ cs) (eqb-true c a e)

two_first : (a b : ℕ) (text : List ℕ) → 0 < b → begins a b text ≡ true → text ≡ a ∷ b ∷ drop 2 text
two_first a b [] pos e = let z = eqb-true 0 b (and_parts (eqb 0 a) (eqb 0 b) e).1 in absurd (omega arith)
two_first a b (c ∷ []) pos e = let z = eqb-true 0 b (and_parts (eqb c a) (eqb 0 b) e).1 in absurd (omega arith)
two_first a b (c ∷ d ∷ cs) pos e =
    let p = and_parts (eqb c a) (eqb d b) e in
    ap (λ x. x ∷ d ∷ cs) (eqb-true c a p.0) ∙ ap (λ x. a ∷ x ∷ cs) (eqb-true d b p.1)

module _ (bits : ℕ) (text : List ℕ) (w : ℕ) where
  abbrev Owed : Option ℕ → Type 0
  Owed r = r ≡ Some w → Text bits text w

  named : (front : List ℕ) → text ≡ front → Text bits front w → Text bits text w
  named front e t = subst (λ x. Text bits x w) (sym e) t

  from_hexadecimal : begins 48 120 text ≡ true → Owed (pattern bits 16 ((bits + 3) / 4) (drop 2 text))
  from_hexadecimal b e =
      let p = pattern_only bits (drop 2 text) 16 ((bits + 3) / 4) w e in
      named (48 ∷ 120 ∷ drop 2 text) (two_first 48 120 text (omega arith) b) (hexadecimal p.0 p.1 p.2)

  from_binary : begins 48 98 text ≡ true → Owed (pattern bits 2 bits (drop 2 text))
  from_binary b e =
      let p = pattern_only bits (drop 2 text) 2 bits w e in
      named (48 ∷ 98 ∷ drop 2 text) (two_first 48 98 text (omega arith) b) (binary p.0 p.1 p.2)

  from_minus : eqb (get_or text 0 0) 45 ≡ true → Owed (negative bits (drop 1 text))
  from_minus b e =
      let p = negative_only bits (drop 1 text) w e in
      named (45 ∷ drop 1 text) (one_first 45 text (omega arith) b) (subst (Text bits (45 ∷ drop 1 text)) p.word_is (minus p.writes p.reach))

  from_plus : eqb (get_or text 0 0) 43 ≡ true → Owed (positive bits (drop 1 text))
  from_plus b e =
      let p = positive_only bits (drop 1 text) w e in
      named (43 ∷ drop 1 text) (one_first 43 text (omega arith) b) (plus p.0 p.1)

  from_digits : Owed (positive bits text)
  from_digits e = let p = positive_only bits text w e in plain p.0 p.1

  only : Owed (reading bits text)
  only =
      cond_both (begins 48 120 text) _ _ Owed from_hexadecimal
      (λ _. cond_both (begins 48 98 text) _ _ Owed from_binary
      (λ _. cond_both (eqb (get_or text 0 0) 45) _ _ Owed from_minus
      (λ _. cond_both (eqb (get_or text 0 0) 43) _ _ Owed from_plus (λ _. from_digits))))

pub told_texts : (bits : ℕ) (text : List ℕ) (r : Option ℕ) → r ≡ reading bits text → ReadsTexts bits text r
told_texts bits text r is = rw is (record { every = read_as bits text; only = only bits text })

below_half : (bits n : ℕ) → n < 2 ^ (bits - 1) → n < 2 ^ bits
below_half bits n h = let le : bits - 1 ≤ bits = omega arith in let more : 2 ^ (bits - 1) ≤ 2 ^ bits = pow_mono le in omega arith

-- a word that is read fits its bits
pub reads_below : (bits : ℕ) (text : List ℕ) (w : ℕ) → reading bits text ≡ Some w → w < 2 ^ bits
reads_below bits text w e = by (only bits text w e)
  where
    by : {text : List ℕ} {w : ℕ} → Text bits text w → w < 2 ^ bits
    by (plain {ds} {n} h lt) = below_half bits n lt
    by (plus {ds} {n} h lt) = below_half bits n lt
    by (minus {ds} {n} h le) = mod-lt (2 ^ bits - n) (pow_pos bits)
    by (hexadecimal h few lt) = lt
    by (binary h few lt) = lt
