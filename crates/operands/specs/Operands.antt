-- What a field stands for: a register, a number, or a label's value. Assumes nothing.
use Rattle.std.specs.Prelude.{ℕ, ◌-◌, cond, ◌&&◌, List, map, length, drop, Ok, Err, Result, ◌==◌, nat_le, slice_index}
use Rattle.std.specs.Borrow.{Bor}
use Rattle.std.specs.Option.{ok_or}
use Rattle.words.specs.declared.Register.{Register}
use Rattle.words.specs.Registers.{register_of}
use Rattle.numbers.specs.Reading.{reading}
use Rattle.faults.specs.declared.OperandFault.{OperandFault}
use Rattle.faults.specs.declared.OperandFault.TheVariants.{UnknownRegister, BadNumber}
use Rattle.faults.specs.Chains.{under}
use Rattle.lines.specs.Places.{parts}
use Rattle.operands.specs.declared.fields.Immediate.{Immediate}
use Rattle.operands.specs.declared.fields.Immediate.TheVariants.{Number, Label}
use Rattle.operands.specs.Names.{is_name}

-- r and a digit from 0 to 7
abbrev pub register : List ℕ → Result Register OperandFault
register text =
    cond (length text == 2 && (slice_index text 0 == 114 && (nat_le 48 (slice_index text 1) && nat_le (slice_index text 1) 55)))
    (Ok (register_of (slice_index text 1 - 48))) (Err UnknownRegister)

-- a number of a width, as its bit pattern
abbrev pub constant : ℕ → List ℕ → Result ℕ OperandFault
constant bits text = ok_or (reading bits text) BadNumber

-- a label's name, behind its &
abbrev pub label : List ℕ → Result (Immediate (List ℕ)) OperandFault
label name = cond (is_name name) (Ok (Label name)) (Err BadNumber)

-- a number of a width, or & and a label's name
abbrev pub immediate : ℕ → List ℕ → Result (Immediate (List ℕ)) OperandFault
immediate bits text = cond (slice_index text 0 == 38) (label (drop 1 text)) (under Number (constant bits text))

-- the values in the fields of a line's rest
abbrev pub values : List ℕ → List (Result (Immediate (List ℕ)) OperandFault)
values rest = map (immediate 16) (parts rest)

-- an immediate of the code, its name as bytes
abbrev pub seen : Immediate (Bor (List ℕ)) → Immediate (List ℕ)
seen (Number n) = Number n
seen (Label name) = Label name.now
