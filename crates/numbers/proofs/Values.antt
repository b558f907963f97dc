-- Digits and the number that they write, both ways.
use Rattle.std.proofs.Common.{◌≡◌, ℕ, ◌+◌, ◌-◌, ◌*◌, ◌%◌, ◌^◌, ◌<◌, ◌≤◌, Bool, true, false, cond, ltb, leb, List, [], ◌∷◌, length, Some, None, Option, sym, refl, ap, ◌∙◌}
use Rattle.std.specs.Str.Parse.{AllDigits, digits_value, digits_value_after}
use Rattle.std.specs.Char.{digit_value}
use Rattle.std.proofs.lemmas.Bool.{lt-ltb, ltb-true, le-leb, leb-true, and_parts, and_from}
use Rattle.numbers.specs.Reading.{digits_from, taken_if, counted, pattern, positive, negative}
use Rattle.numbers.specs.Texts.{Writes}

pub none_not : {P : Type 0} (w : ℕ) → None ≡ Some w → P
none_not w e = absurd (cc)

pub digits_told : (base acc : ℕ) (ds : List ℕ) → AllDigits base ds → digits_from base acc ds ≡ Some (digits_value_after base acc ds)
digits_told base acc [] h = refl
digits_told base acc (c ∷ cs) h = rw (lt-ltb (digit_value c) base h.0) (digits_told base (acc * base + digit_value c) cs h.1)

digits_only : (base acc n : ℕ) (ds : List ℕ) → digits_from base acc ds ≡ Some n → AllDigits base ds × (digits_value_after base acc ds ≡ n)
digits_only base acc n [] e = (tt, cc)
digits_only base acc n (c ∷ cs) e = by (ltb (digit_value c) base) refl e (λ q. digits_only base (acc * base + digit_value c) n cs q)
  where
    by : (b : Bool) → ltb (digit_value c) base ≡ b → cond b (digits_from base (acc * base + digit_value c) cs) None ≡ Some n → (digits_from base (acc * base + digit_value c) cs ≡ Some n → AllDigits base cs × (digits_value_after base (acc * base + digit_value c) cs ≡ n)) → AllDigits base (c ∷ cs) × (digits_value_after base acc (c ∷ cs) ≡ n)
    by true t q rest = ((ltb-true (digit_value c) base t, (rest q).0), (rest q).1)
    by false t q rest = none_not n q

-- what was read of digits, by a test and a word
pub record Read (base : ℕ) (test : ℕ → Bool) (word : ℕ → ℕ) (ds : List ℕ) (w : ℕ) : Type 0 where
  pub number : ℕ
  pub digits : AllDigits base ds
  pub is : digits_value base ds ≡ number
  pub passes : test number ≡ true
  pub word_is : word number ≡ w

taken_only : (base : ℕ) (test : ℕ → Bool) (word : ℕ → ℕ) (ds : List ℕ) (w : ℕ) (o : Option ℕ) → o ≡ digits_from base 0 ds → taken_if test word o ≡ Some w → Read base test word ds w
taken_only base test word ds w None p e = none_not w e
taken_only base test word ds w (Some n) p e = by (test n) refl e
  where
    by : (b : Bool) → test n ≡ b → cond b (Some (word n)) None ≡ Some w → Read base test word ds w
    by true t q = let d = digits_only base 0 n ds (sym p) in record { number = n; digits = d.0; is = d.1; passes = t; word_is = cc }
    by false t q = none_not w q

taken_told : (base : ℕ) (test : ℕ → Bool) (word : ℕ → ℕ) (ds : List ℕ) (n : ℕ) → Writes base ds n → test n ≡ true → taken_if test word (digits_from base 0 ds) ≡ Some (word n)
taken_told base test word ds n h t =
    ap (taken_if test word) (digits_told base 0 ds h.0.1 ∙ ap Some h.1) ∙ rw t

-- under a test on the number of digits
guarded : {A : Type 0} (b : Bool) (x : Option A) (w : A) → cond b x None ≡ Some w → (b ≡ true) × (x ≡ Some w)
guarded true x w e = (refl, e)
guarded false x w e = absurd (cc)

module _ (bits : ℕ) (ds : List ℕ) where
  pub positive_told : (n : ℕ) → Writes 10 ds n → n < 2 ^ (bits - 1) → positive bits ds ≡ Some n
  positive_told n h lt = rw (le-leb 1 (length ds) h.0.0) (taken_told 10 (λ n. ltb n (2 ^ (bits - 1))) (λ n. n) ds n h (lt-ltb n (2 ^ (bits - 1)) lt))

  pub positive_only : (w : ℕ) → positive bits ds ≡ Some w → Writes 10 ds w × (w < 2 ^ (bits - 1))
  positive_only w e =
      let g = guarded (leb 1 (length ds)) _ w e in
      let r = taken_only 10 (λ n. ltb n (2 ^ (bits - 1))) (λ n. n) ds w _ refl g.1 in
      (((leb-true 1 (length ds) g.0, r.digits), r.is ∙ r.word_is), rw r.word_is at (ltb-true r.number (2 ^ (bits - 1)) r.passes))

  pub negative_told : (n : ℕ) → Writes 10 ds n → n ≤ 2 ^ (bits - 1) → negative bits ds ≡ Some ((2 ^ bits - n) % 2 ^ bits)
  negative_told n h le = rw (le-leb 1 (length ds) h.0.0) (taken_told 10 (λ n. leb n (2 ^ (bits - 1))) (λ n. (2 ^ bits - n) % 2 ^ bits) ds n h (le-leb n (2 ^ (bits - 1)) le))

  pub record Below (w : ℕ) : Type 0 where
    pub number : ℕ
    pub writes : Writes 10 ds number
    pub reach : number ≤ 2 ^ (bits - 1)
    pub word_is : (2 ^ bits - number) % 2 ^ bits ≡ w

  pub negative_only : (w : ℕ) → negative bits ds ≡ Some w → Below w
  negative_only w e =
      let g = guarded (leb 1 (length ds)) _ w e in
      let r = taken_only 10 (λ n. leb n (2 ^ (bits - 1))) (λ n. (2 ^ bits - n) % 2 ^ bits) ds w _ refl g.1 in
      record { number = r.number; writes = ((leb-true 1 (length ds) g.0, r.digits), r.is); reach = leb-true r.number (2 ^ (bits - 1)) r.passes; word_is = r.word_is }

  pub pattern_told : (base most n : ℕ) → Writes base ds n → length ds ≤ most → n < 2 ^ bits → pattern bits base most ds ≡ Some n
  pattern_told base most n h few lt =
      rw (and_from (leb 1 (length ds)) (leb (length ds) most) (le-leb 1 (length ds) h.0.0) (le-leb (length ds) most few))
      (taken_told base (λ n. ltb n (2 ^ bits)) (λ n. n) ds n h (lt-ltb n (2 ^ bits) lt))

  pub pattern_only : (base most w : ℕ) → pattern bits base most ds ≡ Some w → Writes base ds w × (length ds ≤ most) × (w < 2 ^ bits)
  pattern_only base most w e =
      let g = guarded (counted most ds) _ w e in
      let r = taken_only base (λ n. ltb n (2 ^ bits)) (λ n. n) ds w _ refl g.1 in
      let few = and_parts (leb 1 (length ds)) (leb (length ds) most) g.0 in (
        ((leb-true 1 (length ds) few.0, r.digits), r.is ∙ r.word_is),
        leb-true (length ds) most few.1,
        rw r.word_is at (ltb-true r.number (2 ^ bits) r.passes),
      )
