-- The lines of a source. Assumes nothing.
use Rattle.std.specs.Prelude.{ℕ, true, cond, List, [], ◌∷◌, ◌++◌, ◌==◌}
use Rattle.pieces.specs.Pieces.{joined}

-- the lines without their ends: a line ends with byte 10, which the last may lack
abbrev pub lines : List ℕ → List (List ℕ)
lines [] = []
lines (c ∷ cs) = cond (c == 10) ([] ∷ lines cs) (joined c true (lines cs))

-- lines, each followed by a line end
abbrev pub ended : List (List ℕ) → List ℕ
ended [] = []
ended (l ∷ ls) = l ++ (10 ∷ ended ls)
