-- A line can be cut behind each of its parts. Assumes nothing.
use Rattle.std.specs.Prelude.{◌≡◌, ℕ, Bool, true, false, ◌||◌, ◌⊎◌, List, [], ◌∷◌, ◌==◌, refl}
use Rattle.std.proofs.Common.{sym, ◌∙◌, ap, subst, inl, inr, ⊎_elim}
use Rattle.std.proofs.lemmas.Bool.{false≢true, both_ways, cases_Bool, cond_both, eqb-true, or_from, or_parts}
use Rattle.pieces.specs.Pieces.{white, behind, begun, pieces}
use Rattle.pieces.specs.Laws.{Each, GapLaws}
use Rattle.lines.specs.declared.Place.{Place}
use Rattle.lines.specs.declared.Place.TheVariants.{Outside, Text, Escape, Comment}
use Rattle.lines.specs.Places.{after, gap, parts}

-- white space leaves the place as it is
pub white_stays : (c : ℕ) → white c ≡ true → after Outside c ≡ Outside
white_stays c h = ⊎_elim (at 32 refl) (λ m. ⊎_elim (at 9 refl) (at 13 refl) (or_cases (c == 9) (c == 13) m)) (or_cases (c == 32) (c == 9 || c == 13) h)
  where
    at : (k : ℕ) → after Outside k ≡ Outside → (c == k) ≡ true → after Outside c ≡ Outside
    at k stays e = ap (after Outside) (eqb-true c k e) ∙ stays

    or_cases : (a b : Bool) → (a || b) ≡ true → (a ≡ true) ⊎ (b ≡ true)
    or_cases true b e = inl refl
    or_cases false b e = inr e

-- what a byte outside is: white space, a comment's start, or a byte of a part
pub kinds : (c : ℕ) → (white c ≡ true) ⊎ ((c ≡ 35) ⊎ (gap Outside c ≡ false))
kinds c = ⊎_elim inl (λ w. inr (⊎_elim (λ e. inl (eqb-true c 35 e)) (λ e. inr (or_from (white c) (c == 35) w e)) (cases_Bool (c == 35)))) (cases_Bool (white c))

-- a comment lasts to the line's end
comment_stays : (gs : List ℕ) → behind after Comment gs ≡ Comment
comment_stays [] = refl
comment_stays (g ∷ gs) = comment_stays gs

-- so no part begins in it
none_begun : (rest : List ℕ) → begun after gap Comment rest ≡ false
none_begun [] = refl
none_begun (c ∷ cs) = refl

-- behind gaps a part begins outside
begins_outside : (gs rest : List ℕ) → Each after gap true Outside gs → begun after gap (behind after Outside gs) rest ≡ true → behind after Outside gs ≡ Outside
begins_outside [] rest e b = refl
begins_outside (g ∷ gs) rest e b =
    let at : Place → Type 0 = λ p. Each after gap true p gs × (begun after gap (behind after p gs) rest ≡ true) in
    ⊎_elim
    (λ w. (let h = subst at (white_stays g w) (e.1, b) in ap (λ p. behind after p gs) (white_stays g w) ∙ begins_outside gs rest h.0 h.1))
    (⊎_elim
    (λ c. (let h = subst at (ap (after Outside) c) (e.1, b) in absurd (false≢true (sym (none_begun rest) ∙ ap (λ p. begun after gap p rest) (sym (comment_stays gs)) ∙ h.1))))
    (λ f. absurd (false≢true (sym f ∙ e.0))))
    (kinds g)

-- where a part may stand
abbrev pub Open : Place → Type 0
Open Outside = Unit {0}
Open Text = Unit {0}
Open Escape = Unit {0}
Open Comment = ⊥

-- a byte of a part leaves it open
pub stays_open : (p : Place) (c : ℕ) → Open p → gap p c ≡ false → Open (after p c)
stays_open Outside c o g =
    cond_both (c == 34) Text _ Open (λ e. tt)
    (λ e. cond_both (c == 35) Comment Outside Open (λ t. absurd (both_ways (c == 35) (or_parts (white c) (c == 35) g).1 t)) (λ t. tt))
stays_open Text c o g = cond_both (c == 34) Outside _ Open (λ e. tt) (λ e. cond_both (c == 92) Escape Text Open (λ t. tt) (λ t. tt))
stays_open Escape c o g = tt
stays_open Comment c o g = o

-- a part ends outside, or with the line
part_ends : (p : Place) (cs rest : List ℕ) → Open p → Each after gap false p cs → begun after gap (behind after p cs) rest ≡ false
    → pieces after gap (behind after p cs) rest ≡ parts rest
part_ends p (c ∷ cs) rest o e b = part_ends (after p c) cs rest (stays_open p c o e.0) e.1 b
part_ends p [] [] o e b = refl
part_ends Outside [] (c ∷ cs) o e b = refl
part_ends Text [] (c ∷ cs) o e b = absurd (false≢true (sym b))
part_ends Escape [] (c ∷ cs) o e b = absurd (false≢true (sym b))
part_ends Comment [] (c ∷ cs) o e b = absurd o

-- so a line is cut into its parts one by one
pub place_laws : GapLaws after gap Outside
place_laws = record { gaps = begins_outside; piece = λ cs rest. part_ends Outside cs rest tt }
