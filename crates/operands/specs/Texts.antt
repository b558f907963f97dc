-- The characters that a string stands for. Assumes nothing.
use Rattle.std.specs.Prelude.{ℕ, cond, List, [], ◌∷◌, Ok, Err, Result, ◌==◌}
use Rattle.faults.specs.declared.StatementFault.{StatementFault}
use Rattle.faults.specs.declared.StatementFault.TheVariants.{Malformed}

-- behind a backslash stand n (10), t (9), the quote and the backslash
abbrev pub escaped : ℕ → Result ℕ StatementFault
escaped c = cond (c == 110) (Ok 10) (cond (c == 116) (Ok 9) (cond (c == 34) (Ok 34) (cond (c == 92) (Ok 92) (Err Malformed))))

-- the characters behind an opening quote, up to the closing one, behind which nothing stands
abbrev pub characters : List ℕ → List (Result ℕ StatementFault)
characters [] = Err Malformed ∷ []
characters (c ∷ []) = cond (c == 34) [] (cond (c == 92) (Err Malformed ∷ []) (Ok c ∷ Err Malformed ∷ []))
characters (c ∷ d ∷ ds) = cond (c == 34) (Err Malformed ∷ []) (cond (c == 92) (escaped d ∷ characters ds) (Ok c ∷ characters (d ∷ ds)))
