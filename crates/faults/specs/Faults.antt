-- The faults of a source: each with its number, its line and its layer. Assumes nothing.
use Rattle.std.specs.Prelude.{ℕ, Ok, Err, Result}
use Rattle.faults.specs.declared.OperandFault.{OperandFault}
use Rattle.faults.specs.declared.OperandFault.TheVariants.{UnknownRegister, BadNumber}
use Rattle.faults.specs.declared.LabelFault.{LabelFault}
use Rattle.faults.specs.declared.LabelFault.TheVariants.{UnknownLabel, TooFar}
use Rattle.faults.specs.declared.StatementFault.{StatementFault}
use Rattle.faults.specs.declared.StatementFault.TheVariants.{TooManyLabels, TooManyWords, Malformed, UnknownOperation, DefinedTwice, InOperand, InLabel}
use Rattle.faults.specs.declared.OnLine.{OnLine}
use Rattle.faults.specs.declared.AssemblyFault.{AssemblyFault}
use Rattle.faults.specs.declared.AssemblyFault.TheVariants.{TooLong, ForbiddenByte, InStatement}
use Rattle.faults.specs.declared.Layer.{Layer}
use Rattle.faults.specs.declared.Layer.TheVariants.{Reading, Statement, Operand, Label}

-- what is told of a fault; line 0 stands for the whole source
pub record Told : Type 0 where
  pub number : ℕ
  pub line : ℕ
  pub layer : Layer

-- of an operand's fault on a line
abbrev pub of_operand : ℕ → OperandFault → Told
of_operand line UnknownRegister = record { number = 14; line = line; layer = Operand }
of_operand line BadNumber = record { number = 15; line = line; layer = Operand }

-- of a label's
abbrev pub of_label : ℕ → LabelFault → Told
of_label line UnknownLabel = record { number = 16; line = line; layer = Label }
of_label line TooFar = record { number = 18; line = line; layer = Label }

-- of a statement's, or of the one inside it
abbrev pub of_statement : ℕ → StatementFault → Told
of_statement line TooManyLabels = record { number = 2; line = line; layer = Statement }
of_statement line TooManyWords = record { number = 3; line = line; layer = Statement }
of_statement line Malformed = record { number = 12; line = line; layer = Statement }
of_statement line UnknownOperation = record { number = 13; line = line; layer = Statement }
of_statement line DefinedTwice = record { number = 17; line = line; layer = Statement }
of_statement line (InOperand fault) = of_operand line fault
of_statement line (InLabel fault) = of_label line fault

-- of every fault
abbrev pub told : AssemblyFault → Told
told TooLong = record { number = 1; line = 0; layer = Reading }
told (ForbiddenByte line) = record { number = 10; line = line; layer = Reading }
told (InStatement at) = of_statement at.line at.fault

-- a statement's answer with the line it came from
abbrev pub on_line : {X : Type 0} → ℕ → Result X StatementFault → Result X OnLine
on_line line (Ok x) = Ok x
on_line line (Err fault) = Err (record { line = line; fault = fault })
