-- The parts of a line whose bytes may stand where they stand.
use Rattle.std.proofs.Common.{◌≡◌, ℕ, Bool, true, false, List, [], ◌∷◌, sym, refl, ◌∙◌, subst, ⊎_elim}
use Rattle.std.proofs.lemmas.Bool.{false≢true, cases_Bool, and_parts, and_from}
use Rattle.pieces.specs.Pieces.{joined, begun, pieces}
use Rattle.lines.specs.declared.Place.{Place}
use Rattle.lines.specs.declared.Place.TheVariants.{Outside, Text, Escape, Comment}
use Rattle.lines.specs.Places.{after, allows, allowed_from, allowed, gap, parts}
use Rattle.lines.specs.Cuts.{Open, kinds, white_stays, stays_open}
use Rattle.lines.proofs.Spaces.{comment_none}

abbrev pub AllAllowed : List (List ℕ) → Type 0
AllAllowed [] = Unit {0}
AllAllowed (q ∷ qs) = (allowed q ≡ true) × AllAllowed qs

-- where the first piece begins at a place
abbrev From : Place → Bool → List (List ℕ) → Type 0
From p true [] = Unit {0}
From p true (q ∷ qs) = (allowed_from p q ≡ true) × AllAllowed qs
From p false qs = AllAllowed qs

from_outside : (b : Bool) (qs : List (List ℕ)) → From Outside b qs → AllAllowed qs
from_outside true [] h = tt
from_outside true (q ∷ qs) h = h
from_outside false qs h = h

-- one byte of a part more
put : (p : Place) (c : ℕ) (b : Bool) (ps : List (List ℕ)) → allows p c ≡ true → From (after p c) b ps → From p true (joined c b ps)
put p c true [] a h = (and_from (allows p c) true a refl, tt)
put p c true (q ∷ qs) a h = (and_from (allows p c) (allowed_from (after p c) q) a h.0, h.1)
put p c false ps a h = (and_from (allows p c) true a refl, h)

-- behind a gap
gap_then : (p : Place) (c : ℕ) (cs : List ℕ) → Open p → gap p c ≡ true → (after p c ≡ Outside → AllAllowed (pieces after gap Outside cs)) → AllAllowed (pieces after gap (after p c) cs)
gap_then Outside c cs o g more =
    ⊎_elim
    (λ w. subst (λ q. AllAllowed (pieces after gap q cs)) (sym (white_stays c w)) (more (white_stays c w)))
    (⊎_elim (λ e. rw e (subst AllAllowed (sym (comment_none cs)) tt)) (λ e. absurd (false≢true (sym e ∙ g))))
    (kinds c)
gap_then Text c cs o g more = absurd (false≢true g)
gap_then Escape c cs o g more = absurd (false≢true g)
gap_then Comment c cs o g more = absurd o

pieces_allowed : (p : Place) (xs : List ℕ) → Open p → allowed_from p xs ≡ true → From p (begun after gap p xs) (pieces after gap p xs)
pieces_allowed p [] o h = tt
pieces_allowed p (c ∷ cs) o h =
    let both = and_parts (allows p c) (allowed_from (after p c) cs) h in
    ⊎_elim
    (λ g. rw g (gap_then p c cs o g (λ e. from_outside (begun after gap Outside cs) (pieces after gap Outside cs) (pieces_allowed Outside cs tt (subst (λ q. allowed_from q cs ≡ true) e both.1)))))
    (λ g. rw g (put p c (begun after gap (after p c) cs) (pieces after gap (after p c) cs) both.0 (pieces_allowed (after p c) cs (stays_open p c o g) both.1)))
    (cases_Bool (gap p c))

pub parts_allowed : (line : List ℕ) → allowed line ≡ true → AllAllowed (parts line)
parts_allowed line h = from_outside (begun after gap Outside line) (parts line) (pieces_allowed Outside line tt h)
