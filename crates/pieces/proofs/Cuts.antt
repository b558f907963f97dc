-- The first piece of a text and the text behind it, and the laws of pieces.
use Rattle.std.proofs.Common.{◌≡◌, ℕ, ◌+◌, ◌<◌, Bool, true, false, cond, not, List, [], ◌∷◌, ◌++◌, length, get_or, take, sym, refl, ap, ◌∙◌, arith, length-append}
use Rattle.std.proofs.lemmas.List.{nil_from_length, take_more}
use Rattle.std.proofs.lemmas.Bool.{false≢true}
use Rattle.pieces.specs.Pieces.{behind, begun, joined, pieces}
use Rattle.pieces.specs.Laws.{StopsAt, Each, PieceLaws, GapLaws}

module _ {S : Type 0} (after : S → ℕ → S) (gap : S → ℕ → Bool) where
  -- one byte more
  behind_push : (s : S) (xs : List ℕ) (c : ℕ) → behind after s (xs ++ c ∷ []) ≡ after (behind after s xs) c
  behind_push s [] c = refl
  behind_push s (x ∷ xs) c = behind_push (after s x) xs c

  each_push : (is : Bool) (s : S) (xs : List ℕ) (c : ℕ) → Each after gap is s xs → gap (behind after s xs) c ≡ is → Each after gap is s (xs ++ c ∷ [])
  each_push is s [] c e h = (h, tt)
  each_push is s (x ∷ xs) c e h = (e.0, each_push is (after s x) xs c e.1 h)

  -- a scan of xs that has not stopped before i
  module _ (is : Bool) (start s : S) (xs : List ℕ) (i : ℕ) (each : Each after gap is start (take i xs)) (state : s ≡ behind after start (take i xs)) (lt : i < length xs) where
    pub each_more : gap s (get_or xs i 0) ≡ is → Each after gap is start (take (i + 1) xs)
    each_more h = rw (take_more xs i 0 lt) (each_push is start (take i xs) (get_or xs i 0) each (ap (λ t. gap t (get_or xs i 0)) (sym state) ∙ h))

    pub behind_more : after s (get_or xs i 0) ≡ behind after start (take (i + 1) xs)
    behind_more = rw (take_more xs i 0 lt, behind_push, state)

  gaps_none : (s : S) (gs : List ℕ) → Each after gap true s gs → pieces after gap s gs ≡ []
  gaps_none s [] h = refl
  gaps_none s (g ∷ gs) h = rw h.0 (gaps_none (after s g) gs h.1)

  pub behind_gaps : (s : S) (gs rest : List ℕ) → Each after gap true s gs → pieces after gap s (gs ++ rest) ≡ pieces after gap (behind after s gs) rest
  behind_gaps s [] rest h = refl
  behind_gaps s (g ∷ gs) rest h = rw h.0 (behind_gaps (after s g) gs rest h.1)

  one_piece : (s : S) (c : ℕ) (cs rest : List ℕ) → Each after gap false s (c ∷ cs) → begun after gap (behind after s (c ∷ cs)) rest ≡ false
      → pieces after gap s (c ∷ cs ++ rest) ≡ (c ∷ cs) ∷ pieces after gap (behind after s (c ∷ cs)) rest
  one_piece s c [] rest h b = rw (h.0, b)
  one_piece s c (d ∷ ds) rest h b =
      rw h.0
      (ap (λ t. joined c (not t) (pieces after gap (after s c) (d ∷ ds ++ rest))) h.1.0
      ∙ ap (joined c true) (one_piece (after s c) d ds rest h.1 b))

  -- what stands where a scan stops
  begun_free : (s : S) (ys : List ℕ) → 0 < length ys → StopsAt gap true s ys → begun after gap s ys ≡ true
  begun_free s [] some h = absurd (omega arith)
  begun_free s (c ∷ cs) some h = ap not h

  not_begun : (s : S) (rest : List ℕ) → StopsAt gap false s rest → begun after gap s rest ≡ false
  not_begun s [] h = refl
  not_begun s (c ∷ cs) h = ap not h

  some_piece : (s : S) (piece rest : List ℕ) → begun after gap s (piece ++ rest) ≡ true → begun after gap (behind after s piece) rest ≡ false → 0 < length piece
  some_piece s [] rest t f = absurd (false≢true (sym f ∙ t))
  some_piece s (c ∷ cs) rest t f = omega arith

  the_piece : (s : S) (piece rest : List ℕ) → 0 < length piece → Each after gap false s piece → begun after gap (behind after s piece) rest ≡ false
      → pieces after gap s (piece ++ rest) ≡ piece ∷ pieces after gap (behind after s piece) rest
  the_piece s [] rest some e f = absurd (omega arith)
  the_piece s (c ∷ cs) rest some e f = one_piece s c cs rest e f

  -- ys is what stands behind the gaps
  module _ (start : S) (xs gs ys : List ℕ) (xs_is : xs ≡ gs ++ ys) (gaps : Each after gap true start gs) where
    past : pieces after gap start xs ≡ pieces after gap (behind after start gs) ys
    past = ap (pieces after gap start) xs_is ∙ behind_gaps start gs ys gaps

    pub no_piece : length ys ≡ 0 → pieces after gap start xs ≡ []
    no_piece z = past ∙ ap (pieces after gap (behind after start gs)) (nil_from_length ys z)

    pub cut_piece : GapLaws after gap start → 0 < length ys → StopsAt gap true (behind after start gs) ys
        → (piece rest : List ℕ) → ys ≡ piece ++ rest → Each after gap false start piece → StopsAt gap false (behind after start piece) rest
        → (pieces after gap start xs ≡ piece ∷ pieces after gap start rest) × (length rest < length xs)
    cut_piece laws some free piece rest ys_is each stop =
        let begins = begun_free (behind after start gs) ys some free in
        let back = laws.gaps gs ys gaps begins in
        let here : begun after gap start (piece ++ rest) ≡ true = ap (begun after gap start) (sym ys_is) ∙ ap (λ s. begun after gap s ys) (sym back) ∙ begins in
        let ends = not_begun (behind after start piece) rest stop in
        let long = some_piece start piece rest here ends in (
          past ∙ ap (λ s. pieces after gap s ys) back ∙ ap (pieces after gap start) ys_is
              ∙ the_piece start piece rest long each ends
              ∙ ap (λ ps. piece ∷ ps) (laws.piece piece rest each ends),
          omega (arith, ap length xs_is, length-append gs ys, ap length ys_is, length-append piece rest),
        )

  -- two rests with the same pieces that begin alike, behind one front
  pub behind_front : (s : S) (front xs ys : List ℕ)
      → pieces after gap (behind after s front) xs ≡ pieces after gap (behind after s front) ys
      → begun after gap (behind after s front) xs ≡ begun after gap (behind after s front) ys
      → pieces after gap s (front ++ xs) ≡ pieces after gap s (front ++ ys)
  behind_front s [] xs ys same alike = same
  behind_front s (c ∷ []) xs ys same alike =
      (λ i. cond (gap s c) (same i) (joined c (alike i) (same i)))
  behind_front s (c ∷ d ∷ ds) xs ys same alike =
      ap (λ ps. cond (gap s c) ps (joined c (not (gap (after s c) d)) ps)) (behind_front (after s c) (d ∷ ds) xs ys same alike)

  pub piece_laws : PieceLaws after gap
  piece_laws = record {
    none = gaps_none;
    first = λ s gs c cs rest h t b. behind_gaps s gs (c ∷ cs ++ rest) h ∙ one_piece (behind after s gs) c cs rest t b;
  }
