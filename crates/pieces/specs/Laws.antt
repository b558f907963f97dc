-- What the pieces of a text are, told without recursion over its bytes. Assumes nothing.
use Rattle.std.specs.Prelude.{◌≡◌, ℕ, Bool, true, false, not, List, [], ◌∷◌, ◌++◌}
use Rattle.pieces.specs.Pieces.{behind, begun, pieces}

-- a text ends, or its first byte is a gap or none, as told
abbrev pub StopsAt : {S : Type 0} → (S → ℕ → Bool) → Bool → S → List ℕ → Type 0
StopsAt gap is s [] = Unit {0}
StopsAt gap is s (c ∷ cs) = gap s c ≡ not is

module _ {S : Type 0} (after : S → ℕ → S) (gap : S → ℕ → Bool) where
  -- each byte is a gap, or each is none
  abbrev pub Each : Bool → S → List ℕ → Type 0
  Each is s [] = Unit {0}
  Each is s (c ∷ cs) = (gap s c ≡ is) × Each is (after s c) cs

  -- these two say of every text what its pieces are
  pub record PieceLaws : Type 0 where
    -- gaps alone have no piece
    pub none : (s : S) (gaps : List ℕ) → Each true s gaps → pieces after gap s gaps ≡ []
    -- bytes that are no gaps are one piece, behind any gaps and before a gap or the text's end
    pub first : (s : S) (gaps : List ℕ) (c : ℕ) (cs rest : List ℕ)
        → Each true s gaps
        → Each false (behind after s gaps) (c ∷ cs)
        → begun after gap (behind after (behind after s gaps) (c ∷ cs)) rest ≡ false
        → pieces after gap s (gaps ++ ((c ∷ cs) ++ rest)) ≡ (c ∷ cs) ∷ pieces after gap (behind after (behind after s gaps) (c ∷ cs)) rest

  -- these two let a text be cut behind any of its pieces
  pub record GapLaws (start : S) : Type 0 where
    -- where a piece begins behind gaps, the state is the start
    pub gaps : (gs rest : List ℕ) → Each true start gs → begun after gap (behind after start gs) rest ≡ true → behind after start gs ≡ start
    -- behind a piece, the pieces are those of a text that starts there
    pub piece : (cs rest : List ℕ) → Each false start cs → begun after gap (behind after start cs) rest ≡ false
        → pieces after gap (behind after start cs) rest ≡ pieces after gap start rest
