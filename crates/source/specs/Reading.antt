-- The statements of a source, or its first fault. Assumes nothing.
use Rattle.std.specs.Prelude.{ℕ, ◌+◌, cond, List, [], ◌∷◌, length, Some, None, Ok, Err, Option, Result, nat_le}
use Rattle.faults.specs.declared.AssemblyFault.{AssemblyFault}
use Rattle.faults.specs.declared.AssemblyFault.TheVariants.{TooLong, ForbiddenByte, InStatement}
use Rattle.faults.specs.Faults.{on_line}
use Rattle.faults.specs.Chains.{and_then, under, gathered}
use Rattle.lines.specs.Lines.{lines}
use Rattle.lines.specs.Places.{allowed, parts}
use Rattle.source.specs.Statements.{ReadStatement, statement}

-- the answer of a line with a number: its bytes are checked first
abbrev pub line_answer : ℕ → List ℕ → Result (Option ReadStatement) AssemblyFault
line_answer n line = cond (allowed line) (and_then (on_line n (statement n (parts line))) InStatement (λ s. Ok s)) (Err (ForbiddenByte n))

-- the answers of lines, numbered from n on
abbrev pub answers : ℕ → List (List ℕ) → List (Result (Option ReadStatement) AssemblyFault)
answers n [] = []
answers n (l ∷ ls) = line_answer n l ∷ answers (n + 1) ls

-- the statements among the lines
abbrev pub put : Option ReadStatement → List ReadStatement → List ReadStatement
put None ss = ss
put (Some s) ss = s ∷ ss

abbrev pub stated_in : List (Option ReadStatement) → List ReadStatement
stated_in [] = []
stated_in (s ∷ ss) = put s (stated_in ss)

-- the statements of a source, or the fault of its first line that has one; a source has at most 65,536 bytes
abbrev pub statements : List ℕ → Result (List ReadStatement) AssemblyFault
statements source = cond (nat_le (length source) 65536) (under stated_in (gathered (answers 1 (lines source)))) (Err TooLong)
