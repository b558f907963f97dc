-- The pieces of a text: the bytes that stand together with no gap among them. Assumes nothing.
use Rattle.std.specs.Prelude.{ℕ, Bool, true, false, cond, not, ◌||◌, List, [], ◌∷◌, ◌==◌}

-- white space: a space, a tab or a carriage return
abbrev pub white : ℕ → Bool
white c = c == 32 || (c == 9 || c == 13)

-- a byte put before pieces: at the front of the first of them where that stands next to it, else as a piece of its own
abbrev pub joined : ℕ → Bool → List (List ℕ) → List (List ℕ)
joined c true [] = (c ∷ []) ∷ []
joined c true (p ∷ ps) = (c ∷ p) ∷ ps
joined c false ps = (c ∷ []) ∷ ps

-- what a byte is may depend on those before it: a state tells it, and each byte may change the state
module _ {S : Type 0} (after : S → ℕ → S) where
  -- the state behind some bytes
  abbrev pub behind : S → List ℕ → S
  behind s [] = s
  behind s (c ∷ cs) = behind (after s c) cs

  module _ (gap : S → ℕ → Bool) where
    -- whether a text begins with a byte of a piece
    abbrev pub begun : S → List ℕ → Bool
    begun s [] = false
    begun s (c ∷ cs) = not (gap s c)

    -- the pieces, first to last
    abbrev pub pieces : S → List ℕ → List (List ℕ)
    pieces s [] = []
    pieces s (c ∷ cs) = cond (gap s c) (pieces (after s c) cs) (joined c (begun (after s c) cs) (pieces (after s c) cs))
