-- The causes of a check's answers.
use Rattle.std.proofs.Common.{◌≡◌, ℕ, zero, suc, ◌+◌, ◌<◌, ◌≤◌, ◌⊎◌, List, [], ◌∷◌, map, length, get_or, Some, None, Ok, Err, Option, sym, refl, ap, ◌∙◌, inl, inr, ⊎_elim, arith}
use Rattle.std.proofs.lemmas.Bool.{le-leb, lt-leb, cases_lt}
use Rattle.numbers.specs.Reading.{reading}
use Rattle.text_port.specs.Tokens.{tokens, before, words_of}
use Rattle.text_port.specs.Checking.{first_of, judging, checking, Numbers, FirstBad, Caused}
use Rattle.text_port.specs.declared.checks.Refusal.TheVariants.{Length, Token}

cases_option : (o : Option ℕ) → (o ≡ None) ⊎ ((n : ℕ) × (o ≡ Some n))
cases_option None = inl refl
cases_option (Some n) = inr (n, refl)

one_more : (count : ℕ) (t : List ℕ) (ts : List (List ℕ)) (n : ℕ) → reading 16 t ≡ Some n → Numbers count ts → Numbers (suc count) (t ∷ ts)
one_more count t ts n is good zero h e = absurd cc
one_more count t ts n is good (suc k) h e = good k (omega arith) e

one_less : (count : ℕ) (t : List ℕ) (ts : List (List ℕ)) → Numbers (suc count) (t ∷ ts) → Numbers count ts
one_less count t ts good k h e = good (suc k) (omega arith) e

-- every token is a number, or one is the first that is none
found : (ts : List (List ℕ)) → Numbers (length ts) ts ⊎ ((place : ℕ) × FirstBad ts place)
found [] = inl (λ k h e. omega arith)
found (t ∷ ts) =
    ⊎_elim
    (λ e. inr (0, record { within = omega arith; before = λ k h z. omega arith; none = e }))
    (λ s. ⊎_elim
    (λ good. inl (one_more (length ts) t ts s.0 s.1 good))
    (λ b. inr (suc b.0, record { within = omega (arith, b.1.within); before = one_more b.0 t ts s.0 s.1 b.1.before; none = b.1.none }))
    (found ts))
    (cases_option (reading 16 t))

judged_good : (at : ℕ) (ts : List (List ℕ)) → Numbers (length ts) ts → judging at ts ≡ Ok tt
judged_good at [] good = refl
judged_good at (t ∷ ts) good =
    ⊎_elim
    (λ e. absurd (good 0 (omega arith) e))
    (λ s. ap (λ o. first_of o at (judging (at + 1) ts)) s.1 ∙ judged_good (at + 1) ts (one_less (length ts) t ts good))
    (cases_option (reading 16 t))

judged_bad : (at place : ℕ) (ts : List (List ℕ)) → place < length ts → Numbers place ts → reading 16 (get_or ts place []) ≡ None → judging at ts ≡ Err (Token (at + place))
judged_bad at place [] h good e = absurd (omega arith)
judged_bad at zero (t ∷ ts) h good e =
    let same : at ≡ at + 0 = omega arith in
    ap (λ o. first_of o at (judging (at + 1) ts)) e ∙ ap (λ n. Err (Token n)) same
judged_bad at (suc place) (t ∷ ts) h good e =
    let same : (at + 1) + place ≡ at + suc place = omega arith in
    ⊎_elim
    (λ z. absurd (good 0 (omega arith) z))
    (λ s. ap (λ o. first_of o at (judging (at + 1) ts)) s.1 ∙ judged_bad (at + 1) place ts (omega arith) (one_less place t ts good) e ∙ ap (λ n. Err (Token n)) same)
    (cases_option (reading 16 t))

module _ (text : List ℕ) where
  pub when_short : length text ≤ 65536 → checking text ≡ judging 1 (tokens text)
  when_short le = rw (le-leb (length text) 65536 le)

  when_long : 65536 < length text → checking text ≡ Err Length
  when_long lt = rw (lt-leb (length text) 65536 lt)

  when_bad : (place : ℕ) → length text ≤ 65536 → FirstBad (tokens text) place → checking text ≡ Err (Token (place + 1))
  when_bad place le b =
      let same : 1 + place ≡ place + 1 = omega arith in
      when_short le ∙ judged_bad 1 place (tokens text) b.within b.before b.none ∙ ap (λ n. Err (Token n)) same

  when_good : length text ≤ 65536 → Numbers (length (tokens text)) (tokens text) → checking text ≡ Ok tt
  when_good le good = when_short le ∙ judged_good 1 (tokens text) good

  by_cause : {P : Type 0} → (65536 < length text → P) → (length text ≤ 65536 → Numbers (length (tokens text)) (tokens text) → P) → (length text ≤ 65536 → (place : ℕ) → FirstBad (tokens text) place → P) → P
  by_cause l g b = ⊎_elim l (λ le. ⊎_elim (g le) (λ f. b le f.0 f.1) (found (tokens text))) (cases_lt 65536 (length text))

pub caused : (text : List ℕ) → Caused text (checking text)
caused text = record {
  long = when_long text;
  if_long = λ e. by_cause text
      (λ h. h)
      (λ le good. absurd (cc (when_good text le good)))
      (λ le place b. absurd (cc (when_bad text place le b)));
  bad = when_bad text;
  if_bad = λ at e. by_cause text
      (λ h. absurd (cc (when_long text h)))
      (λ le good. absurd (cc (when_good text le good)))
      (λ le place b. (le, (place, cc (when_bad text place le b), b)));
  good = when_good text;
  if_good = λ e. by_cause text
      (λ h. absurd (cc (when_long text h)))
      (λ le good. (le, good))
      (λ le place b. absurd (cc (when_bad text place le b)));
}

-- where every token is a number, the words are as many
words_all : (ts : List (List ℕ)) → Numbers (length ts) ts → map Some (words_of ts) ≡ map (reading 16) ts
words_all [] good = refl
words_all (t ∷ ts) good =
    ⊎_elim
    (λ e. absurd (good 0 (omega arith) e))
    (λ s.
    ap (λ o. map Some (before o (words_of ts))) s.1
    ∙ ap (λ os. Some s.0 ∷ os) (words_all ts (one_less (length ts) t ts good))
    ∙ ap (λ o. o ∷ map (reading 16) ts) (sym s.1))
    (cases_option (reading 16 t))

pub words_accepted : (text : List ℕ) → checking text ≡ Ok tt → map Some (words_of (tokens text)) ≡ map (reading 16) (tokens text)
words_accepted text e = words_all (tokens text) ((caused text).if_good e).1
