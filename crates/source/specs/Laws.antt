-- What holds of every line and every source that is read. Assumes nothing.
use Rattle.std.specs.Prelude.{◌≡◌, ℕ, ◌+◌, ◌<◌, ◌≤◌, true, List, ◌∷◌, ◌++◌, map, length, Some, Ok, Err, Option, Result, MatchOption}
use Rattle.std.specs.Option.{option_map}
use Rattle.faults.specs.declared.AssemblyFault.{AssemblyFault}
use Rattle.faults.specs.declared.AssemblyFault.TheVariants.{TooLong, ForbiddenByte, InStatement}
use Rattle.lines.specs.Lines.{lines}
use Rattle.lines.specs.Laws.{Respaced}
use Rattle.operands.specs.Names.{is_name}
use Rattle.operations.specs.Kinds.{width_of}
use Rattle.operations.specs.Ranges.{FieldsInRange}
use Rattle.source.specs.Statements.{ReadStatement}
use Rattle.source.specs.Reading.{line_answer, answers, stated_in, statements}

-- an answer with another line number
abbrev pub statement_on : ℕ → ReadStatement → ReadStatement
statement_on n s = record { line = n; label = s.label; operation = s.operation; width = s.width }

abbrev pub fault_on : ℕ → AssemblyFault → AssemblyFault
fault_on n TooLong = TooLong
fault_on n (ForbiddenByte line) = ForbiddenByte n
fault_on n (InStatement at) = InStatement (record { line = n; fault = at.fault })

abbrev pub renumbered : ℕ → Result (Option ReadStatement) AssemblyFault → Result (Option ReadStatement) AssemblyFault
renumbered n (Ok s) = Ok (option_map (statement_on n) s)
renumbered n (Err fault) = Err (fault_on n fault)

-- an accepted statement: its line, and its label, fields and width in their ranges
pub record InRange (n : ℕ) (s : ReadStatement) : Type 0 where
  pub line : s.line ≡ n
  pub label : MatchOption s.label Unit (λ name. is_name name ≡ true)
  pub fields : FieldsInRange s.operation
  pub width : s.width ≡ width_of s.operation

-- of one line
pub record LineReading : Type 0 where
  -- more white space where some stands already, outside strings, and any comment, change no statement
  pub spacing : (n : ℕ) (one other : List ℕ) → Respaced one other → line_answer n one ≡ line_answer n other
  -- another number changes nothing but the number
  pub numbering : (n m : ℕ) (line : List ℕ) → renumbered m (line_answer n line) ≡ line_answer m line
  -- every accepted operand lies in its range
  pub ranges : (n : ℕ) (line : List ℕ) (s : ReadStatement) → line_answer n line ≡ Ok (Some s) → InRange n s

-- a source whose lines are all accepted, or whose first fault is this one
pub data Outcome (source : List ℕ) : Type 0 where
  long : 65536 < length source → statements source ≡ Err TooLong → Outcome source
  accepted : (ss : List (Option ReadStatement)) → length source ≤ 65536
      → answers 1 (lines source) ≡ map Ok ss
      → statements source ≡ Ok (stated_in ss) → Outcome source
  refused : (ss : List (Option ReadStatement)) (fault : AssemblyFault) (rest : List (Result (Option ReadStatement) AssemblyFault)) → length source ≤ 65536
      → answers 1 (lines source) ≡ map Ok ss ++ (Err fault ∷ rest)
      → statements source ≡ Err fault → Outcome source

-- of a whole source
pub record SourceReading : Type 0 where
  -- a line's answer does not depend on the other lines but for its number, which counts from 1
  pub alone : (before behind : List (List ℕ)) (line : List ℕ)
      → answers 1 (before ++ (line ∷ behind)) ≡ answers 1 before ++ (line_answer (length before + 1) line ∷ answers (length before + 2) behind)
  -- a source is too long, or all its lines are accepted, or it has the fault of the first line that is not
  pub outcomes : (source : List ℕ) → Outcome source
