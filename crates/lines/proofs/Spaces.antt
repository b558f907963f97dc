-- White space and comments that change no part.
use Rattle.std.proofs.Common.{◌≡◌, ℕ, true, false, not, ◌&&◌, List, [], ◌∷◌, ◌++◌, sym, refl, ap, ◌∙◌}
use Rattle.std.proofs.lemmas.List.{append-nil}
use Rattle.std.proofs.lemmas.Bool.{or_left}
use Rattle.std.proofs.Math.Bool.{and_assoc}
use Rattle.pieces.specs.Pieces.{white, behind, begun, pieces}
use Rattle.pieces.specs.Laws.{Each}
use Rattle.pieces.proofs.Cuts.{behind_gaps, behind_front}
use Rattle.lines.specs.declared.Place.{Place}
use Rattle.lines.specs.declared.Place.TheVariants.{Outside, Comment}
use Rattle.lines.specs.Places.{after, allows, allowed_from, allowed, gap, parts}
use Rattle.lines.specs.Laws.{White, EndsOutside, between, at_start, at_end, comment, Alike, SpaceLaw}
use Rattle.lines.specs.Cuts.{white_stays}

white_allowed : (c : ℕ) → white c ≡ true → allows Outside c ≡ true
white_allowed c w = or_left (white c) _ w

white_gap : (c : ℕ) → white c ≡ true → gap Outside c ≡ true
white_gap c w = or_left (white c) _ w

whites_stay : (ws : List ℕ) → White ws → behind after Outside ws ≡ Outside
whites_stay [] h = refl
whites_stay (w ∷ ws) h = ap (λ p. behind after p ws) (white_stays w h.0) ∙ whites_stay ws h.1

whites_gap : (ws : List ℕ) → White ws → Each after gap true Outside ws
whites_gap [] h = tt
whites_gap (w ∷ ws) h = (white_gap w h.0, rw (white_stays w h.0) (whites_gap ws h.1))

-- the check of a front and of the rest behind it
check_append : (p : Place) (front rest : List ℕ) → allowed_from p (front ++ rest) ≡ (allowed_from p front && allowed_from (behind after p front) rest)
check_append p [] rest = refl
check_append p (c ∷ cs) rest = ap (λ t. allows p c && t) (check_append (after p c) cs rest) ∙ sym (and_assoc (allows p c) _ _)

whites_pass : (ws rest : List ℕ) → White ws → allowed (ws ++ rest) ≡ allowed rest
whites_pass [] rest h = refl
whites_pass (w ∷ ws) rest h = rw (white_allowed w h.0, white_stays w h.0) (whites_pass ws rest h.1)

comment_passes : (any : List ℕ) → allowed_from Comment any ≡ true
comment_passes [] = refl
comment_passes (c ∷ cs) = comment_passes cs

pub comment_none : (any : List ℕ) → pieces after gap Comment any ≡ []
comment_none [] = refl
comment_none (c ∷ cs) = comment_none cs

-- two rests behind a front that ends outside
alike : (front xs ys : List ℕ) → EndsOutside front → allowed xs ≡ allowed ys → parts xs ≡ parts ys → begun after gap Outside xs ≡ begun after gap Outside ys → Alike (front ++ xs) (front ++ ys)
alike front xs ys out checks same begins = record {
  same_check = check_append Outside front xs ∙ ap (λ t. allowed front && t) (at_out allowed_from checks) ∙ sym (check_append Outside front ys);
  same_parts = behind_front after gap Outside front xs ys (at_out (pieces after gap) same) (at_out (begun after gap) begins);
}
  where
    at_out : {Y : Type 0} (f : Place → List ℕ → Y) → f Outside xs ≡ f Outside ys → f (behind after Outside front) xs ≡ f (behind after Outside front) ys
    at_out f e = ap (λ p. f p xs) out ∙ e ∙ sym (ap (λ p. f p ys) out)

whites_parts : (ws rest : List ℕ) → White ws → parts (ws ++ rest) ≡ parts rest
whites_parts ws rest h = behind_gaps after gap Outside ws rest (whites_gap ws h) ∙ ap (λ p. pieces after gap p rest) (whites_stay ws h)

whites_begin : (ws : List ℕ) → White ws → begun after gap Outside ws ≡ false
whites_begin [] h = refl
whites_begin (w ∷ ws) h = ap not (white_gap w h.0)

ended : {line : List ℕ} (front : List ℕ) → Alike line (front ++ []) → Alike line front
ended front h = record { same_check = h.same_check ∙ ap allowed (append-nil front); same_parts = h.same_parts ∙ ap parts (append-nil front) }

-- of equal lines
equal : {one two three four : List ℕ} → one ≡ two → three ≡ four → Alike two four → Alike one three
equal p q h = record { same_check = ap allowed p ∙ h.same_check ∙ sym (ap allowed q); same_parts = ap parts p ∙ h.same_parts ∙ sym (ap parts q) }

pub space_law : SpaceLaw
space_law one other (between front rest v w vs ws out hv hw p q) =
    equal p q
    (alike front ((v ∷ vs) ++ rest) ((w ∷ ws) ++ rest) out
    (whites_pass (v ∷ vs) rest hv ∙ sym (whites_pass (w ∷ ws) rest hw))
    (whites_parts (v ∷ vs) rest hv ∙ sym (whites_parts (w ∷ ws) rest hw))
    (ap not (white_gap v hv.0) ∙ sym (ap not (white_gap w hw.0))))
space_law one other (at_start ws h p) = equal p refl (record { same_check = whites_pass ws other h; same_parts = whites_parts ws other h })
space_law one other (at_end ws out h p) =
    equal p refl
    (ended other
    (alike other ws [] out (ap allowed (sym (append-nil ws)) ∙ whites_pass ws [] h) (ap parts (sym (append-nil ws)) ∙ whites_parts ws [] h) (whites_begin ws h)))
space_law one other (comment any out p) = equal p refl (ended other (alike other (35 ∷ any) [] out (comment_passes any) (comment_none any) refl))
