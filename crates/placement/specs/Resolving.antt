-- Operations whose names are replaced by the labels' values. Assumes nothing.
use Rattle.std.specs.Prelude.{ℕ, ◌+◌, Bool, cond, ◌&&◌, List, map, Ok, Err, Option, Result, nat_le}
use Rattle.std.specs.Option.{ok_or}
use Rattle.faults.specs.declared.LabelFault.{LabelFault}
use Rattle.faults.specs.declared.LabelFault.TheVariants.{UnknownLabel, TooFar}
use Rattle.faults.specs.Chains.{then, under, gathered}
use Rattle.operands.specs.declared.Immediate.{Immediate}
use Rattle.operands.specs.declared.Immediate.TheVariants.{Number, Label}
use Rattle.operations.specs.declared.RegisterImmediate.{RegisterImmediate}
use Rattle.operations.specs.declared.Operation.{Operation}
use Rattle.operations.specs.declared.Operation.TheVariants.{Compute, Not, Jalr, In, Out, Addi, Shf, Lw, Sw, Lli, Lui, Branch, Br, Halt, Jmp, Mov, Lwi, Push, Pop, Fill, Cstr, Def}
use Rattle.operations.specs.Kinds.{Read}

-- the labels' values by their names; a name that was never defined has none
abbrev pub ValuesOf : Type 0
ValuesOf = List ℕ → Option ℕ

-- labels by their values, and the words of a `.fill`
abbrev pub Resolved : Type 0
Resolved = Operation ℕ (List ℕ) (List ℕ)

-- an immediate by value
abbrev pub resolved_immediate : ValuesOf → Immediate (List ℕ) → Result (Immediate ℕ) LabelFault
resolved_immediate labels (Number n) = Ok (Number n)
resolved_immediate labels (Label name) = under Label (ok_or (labels name) UnknownLabel)

-- the word of an immediate by value
abbrev pub word_of : Immediate ℕ → ℕ
word_of (Number n) = n
word_of (Label v) = v

abbrev pub resolved_word : ValuesOf → Immediate (List ℕ) → Result ℕ LabelFault
resolved_word labels imm = under word_of (resolved_immediate labels imm)

-- a branch reaches a label whose value less its own address less 1 lies in -128 to 127
abbrev pub reaches : ℕ → ℕ → Bool
reaches address v = nat_le (address + 1) (v + 128) && nat_le v (address + 128)

abbrev pub within_reach : ℕ → Immediate ℕ → Result (Immediate ℕ) LabelFault
within_reach address (Number n) = Ok (Number n)
within_reach address (Label v) = cond (reaches address v) (Ok (Label v)) (Err TooFar)

-- a branch's immediate: first that the label is known, then that it is near
abbrev pub resolved_target : ValuesOf → ℕ → Immediate (List ℕ) → Result (Immediate ℕ) LabelFault
resolved_target labels address imm = then (resolved_immediate labels imm) (within_reach address)

abbrev pub with_register : RegisterImmediate (List ℕ) → Immediate ℕ → RegisterImmediate ℕ
with_register o imm = record { rd = o.rd; imm = imm }

-- an operation at an address, its fields from left to right
abbrev pub resolved : ValuesOf → ℕ → Read → Result Resolved LabelFault
resolved labels address (Compute f o) = Ok (Compute f o)
resolved labels address (Not o) = Ok (Not o)
resolved labels address (Jalr o) = Ok (Jalr o)
resolved labels address (In r) = Ok (In r)
resolved labels address (Out r) = Ok (Out r)
resolved labels address (Addi o) = Ok (Addi o)
resolved labels address (Shf o) = Ok (Shf o)
resolved labels address (Lw o) = Ok (Lw o)
resolved labels address (Sw o) = Ok (Sw o)
resolved labels address (Lli o) = under (λ imm. Lli (with_register o imm)) (resolved_immediate labels o.imm)
resolved labels address (Lui o) = under (λ imm. Lui (with_register o imm)) (resolved_immediate labels o.imm)
resolved labels address (Branch t o) = under (λ imm. Branch t (with_register o imm)) (resolved_target labels address o.imm)
resolved labels address (Br imm) = under Br (resolved_target labels address imm)
resolved labels address Halt = Ok Halt
resolved labels address (Jmp r) = Ok (Jmp r)
resolved labels address (Mov o) = Ok (Mov o)
resolved labels address (Lwi o) = under (λ imm. Lwi (with_register o imm)) (resolved_immediate labels o.imm)
resolved labels address (Push o) = Ok (Push o)
resolved labels address (Pop o) = Ok (Pop o)
resolved labels address (Fill vs) = under Fill (gathered (map (resolved_word labels) vs))
resolved labels address (Cstr cs) = Ok (Cstr cs)
resolved labels address (Def n) = Ok (Def n)
