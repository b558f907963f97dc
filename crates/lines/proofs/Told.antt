-- The laws of lines and of parts.
use Rattle.std.proofs.Common.{◌≡◌, ℕ, Bool, true, false, eqb, ◌⊎◌, List, [], ◌∷◌, ◌++◌, sym, refl, ap, ◌∙◌, inl, inr, ⊎_elim}
use Rattle.std.specs.List.{concat}
use Rattle.std.proofs.lemmas.List.{append_assoc}
use Rattle.std.proofs.lemmas.Bool.{cases_Bool, eqb-true}
use Rattle.pieces.specs.Pieces.{joined, begun, pieces}
use Rattle.pieces.proofs.Cuts.{piece_laws}
use Rattle.lines.specs.declared.Place.{Place}
use Rattle.lines.specs.declared.Place.TheVariants.{Outside}
use Rattle.lines.specs.Lines.{lines, ended}
use Rattle.lines.specs.Places.{after, gap}
use Rattle.lines.specs.Laws.{OneLine, EachOneLine, LineLaws, kept_from, PartLaws}

-- a byte at the front of the first line
at_front : (c : ℕ) (l : List ℕ) (ls : List (List ℕ)) → ended (joined c true (l ∷ ls)) ≡ c ∷ ended (l ∷ ls)
at_front c l ls = refl

-- a source with a byte has a line
pub record SomeLine (source : List ℕ) : Type 0 where
  pub line : List ℕ
  pub rest : List (List ℕ)
  pub is : lines source ≡ line ∷ rest

put_before : (c : ℕ) (ls : List (List ℕ)) → (l : List ℕ) × ((rest : List (List ℕ)) × (joined c true ls ≡ l ∷ rest))
put_before c [] = (c ∷ [], ([], refl))
put_before c (l ∷ ls) = (c ∷ l, (ls, refl))

some_line : (c : ℕ) (cs : List ℕ) → SomeLine (c ∷ cs)
some_line c cs =
    ⊎_elim
    (λ e. record { line = []; rest = lines cs; is = rw e })
    (λ e. let p = put_before c (lines cs) in record { line = p.0; rest = p.1.0; is = rw e p.1.1 })
    (cases_Bool (eqb c 10))

-- the lines of a source, joined again
abbrev Whole : List ℕ → Type 0
Whole source = (ended (lines source) ≡ source) ⊎ (ended (lines source) ≡ source ++ (10 ∷ []))

whole_end : (c : ℕ) (cs : List ℕ) → eqb c 10 ≡ true → Whole cs → Whole (c ∷ cs)
whole_end c cs e h =
    let is : c ≡ 10 = eqb-true c 10 e in
    rw is (⊎_elim (λ p. inl (ap (λ l. 10 ∷ l) p)) (λ p. inr (ap (λ l. 10 ∷ l) p)) h)

whole_last : (c : ℕ) → eqb c 10 ≡ false → Whole (c ∷ [])
whole_last c e = rw e (inr refl)

whole_front : (c d : ℕ) (ds : List ℕ) → eqb c 10 ≡ false → Whole (d ∷ ds) → Whole (c ∷ d ∷ ds)
whole_front c d ds e h =
    let s = some_line d ds in
    let put : ended (joined c true (lines (d ∷ ds))) ≡ c ∷ ended (lines (d ∷ ds)) = ap (λ ls. ended (joined c true ls)) s.is ∙ ap (λ ls. c ∷ ended ls) (sym s.is) in
    rw e (⊎_elim (λ p. inl (put ∙ ap (λ l. c ∷ l) p)) (λ p. inr (put ∙ ap (λ l. c ∷ l) p)) h)

whole : (source : List ℕ) → Whole source
whole [] = inl refl
whole (c ∷ []) = ⊎_elim (λ e. whole_end c [] e (inl refl)) (whole_last c) (cases_Bool (eqb c 10))
whole (c ∷ d ∷ ds) = ⊎_elim (λ e. whole_end c (d ∷ ds) e (whole (d ∷ ds))) (λ e. whole_front c d ds e (whole (d ∷ ds))) (cases_Bool (eqb c 10))

front_single : (c : ℕ) (ls : List (List ℕ)) → eqb c 10 ≡ false → EachOneLine ls → EachOneLine (joined c true ls)
front_single c [] e h = ((e, tt), tt)
front_single c (l ∷ ls) e h = ((e, h.0), h.1)

single : (source : List ℕ) → EachOneLine (lines source)
single [] = tt
single (c ∷ cs) = ⊎_elim (λ e. rw e (tt, single cs)) (λ e. rw e (front_single c (lines cs) e (single cs))) (cases_Bool (eqb c 10))

-- a line and its end before a rest
line_before : (l rest : List ℕ) → OneLine l → lines (l ++ (10 ∷ rest)) ≡ l ∷ lines rest
line_before [] rest h = refl
line_before (c ∷ cs) rest h = rw h.0 (ap (joined c true) (line_before cs rest h.1))

found : (ls : List (List ℕ)) → EachOneLine ls → lines (ended ls) ≡ ls
found [] h = refl
found (l ∷ ls) h = line_before l (ended ls) h.0 ∙ ap (λ more. l ∷ more) (found ls h.1)

last_line : (c : ℕ) (cs : List ℕ) → OneLine (c ∷ cs) → lines (c ∷ cs) ≡ (c ∷ cs) ∷ []
last_line c [] h = rw h.0
last_line c (d ∷ ds) h = rw h.0 (ap (joined c true) (last_line d ds h.1))

found_last : (ls : List (List ℕ)) (c : ℕ) (cs : List ℕ) → EachOneLine ls → OneLine (c ∷ cs) → lines (ended ls ++ (c ∷ cs)) ≡ ls ++ ((c ∷ cs) ∷ [])
found_last [] c cs h k = last_line c cs k
found_last (l ∷ ls) c cs h k =
    ap lines (append_assoc l (10 ∷ ended ls) (c ∷ cs))
    ∙ line_before l (ended ls ++ (c ∷ cs)) h.0
    ∙ ap (λ more. l ∷ more) (found_last ls c cs h.1 k)

pub line_laws : LineLaws
line_laws = record { whole = whole; single = single; found = found; found_last = found_last }

concat_joined : (c : ℕ) (b : Bool) (ps : List (List ℕ)) → concat (joined c b ps) ≡ c ∷ concat ps
concat_joined c true [] = refl
concat_joined c true (p ∷ ps) = refl
concat_joined c false ps = refl

kept : (p : Place) (line : List ℕ) → concat (pieces after gap p line) ≡ kept_from p line
kept p [] = refl
kept p (c ∷ cs) =
    ⊎_elim
    (λ e. rw e (kept (after p c) cs))
    (λ e. rw e (concat_joined c (begun after gap (after p c) cs) (pieces after gap (after p c) cs) ∙ ap (λ l. c ∷ l) (kept (after p c) cs)))
    (cases_Bool (gap p c))

pub part_laws : PartLaws
part_laws = record { kept = kept Outside; cut = piece_laws after gap }
