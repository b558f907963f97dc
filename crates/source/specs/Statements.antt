-- A statement: an optional label, an operation and its fields. Assumes nothing.
use Rattle.std.specs.Prelude.{ℕ, ◌-◌, Bool, cond, not, ◌&&◌, List, [], ◌∷◌, length, take, is_some, Some, None, Ok, Err, Option, Result, ◌==◌, slice_index}
use Rattle.std.specs.Borrow.{Bor}
use Rattle.std.specs.Option.{option_map}
use Rattle.std.specs.Str.{bytes_eq}
use Rattle.faults.specs.declared.StatementFault.{StatementFault}
use Rattle.faults.specs.declared.StatementFault.TheVariants.{Malformed, UnknownOperation}
use Rattle.faults.specs.Chains.{under}
use Rattle.operands.specs.declared.Immediate.{Immediate}
use Rattle.operands.specs.declared.Values.{Values}
use Rattle.operands.specs.declared.Text.{Text}
use Rattle.operands.specs.Names.{is_name}
use Rattle.operations.specs.declared.Mnemonic.{Mnemonic}
use Rattle.operations.specs.declared.Mnemonic.TheVariants as name
use Rattle.operations.specs.Mnemonics.{name_of, mnemonic}
use Rattle.operations.specs.Kinds.{Read, width_of, seen_operation}
use Rattle.operations.specs.Reading.{operation}
use Rattle.source.specs.declared.statements.Statement.{Statement}

-- a statement as read: labels by their names, the values of a `.fill`, the characters of a `.cstr`
abbrev pub ReadStatement : Type 0
ReadStatement = Statement (List ℕ) (List (Immediate (List ℕ))) (List ℕ)

-- a first part that ends with a colon is a label, and its name stands before the colon
abbrev pub label_of : List ℕ → Option (List ℕ)
label_of part = cond (slice_index part (length part - 1) == 58) (Some (take (length part - 1) part)) None

-- a statement with its line, from its label, its operation and the words that this places
abbrev pub stated : ℕ → Option (List ℕ) → Read → ReadStatement
stated line label o = record { line = line; label = label; operation = o; width = width_of o }

-- under a name that is an operation's, or none's
abbrev pub told : ℕ → Option (List ℕ) → List (List ℕ) → Option Mnemonic → Result ReadStatement StatementFault
told line label fields None = Err UnknownOperation
told line label fields (Some m) = under (stated line label) (operation m fields)

-- only `.def` must have a label
abbrev pub lacks_label : List ℕ → Option (List ℕ) → Bool
lacks_label o label = bytes_eq o (name_of name.Def) && not (is_some label)

-- an operation and its fields, behind a label if there is one
abbrev pub operated : ℕ → Option (List ℕ) → List (List ℕ) → Result ReadStatement StatementFault
operated line label [] = Err Malformed
operated line label (o ∷ fields) =
    cond (lacks_label o label) (Err Malformed) (told line label fields (mnemonic o))

-- a line's parts, of which the first is a label or none
abbrev pub begun : ℕ → List ℕ → List (List ℕ) → Option (List ℕ) → Result ReadStatement StatementFault
begun line first rest None = operated line None (first ∷ rest)
begun line first rest (Some label) = cond (is_name label) (operated line (Some label) rest) (Err Malformed)

-- the statement of a line's parts: none in a blank line
abbrev pub statement : ℕ → List (List ℕ) → Result (Option ReadStatement) StatementFault
statement line [] = Ok None
statement line (p ∷ ps) = under Some (begun line p ps (label_of p))

-- a statement of the code, which holds parts of its line
abbrev pub seen_statement : Statement (Bor (List ℕ)) Values Text → ReadStatement
seen_statement s = record { line = s.line; label = option_map (λ x. x.now) s.label; operation = seen_operation s.operation; width = s.width }
