-- Operations with their names, values and characters by themselves, and the words that each places. Assumes nothing.
use Rattle.std.specs.Prelude.{ℕ, ◌+◌, List, length}
use Rattle.std.specs.Result.{ok_prefix}
use Rattle.std.specs.Borrow.{Bor}
use Rattle.operands.specs.declared.Immediate.{Immediate}
use Rattle.operands.specs.declared.Values.{Values}
use Rattle.operands.specs.declared.Text.{Text}
use Rattle.operands.specs.Operands.{values, seen}
use Rattle.operands.specs.Texts.{characters}
use Rattle.operations.specs.declared.mnemonics.Mnemonic.{Mnemonic}
use Rattle.operations.specs.declared.mnemonics.Mnemonic.TheVariants as name
use Rattle.operations.specs.declared.kinds.RegisterImmediate.{RegisterImmediate}
use Rattle.operations.specs.declared.kinds.Operation.{Operation}
use Rattle.operations.specs.declared.kinds.Operation.TheVariants.{Compute, Not, Jalr, In, Out, Addi, Shf, Lw, Sw, Lli, Lui, Branch, Br, Halt, Jmp, Mov, Lwi, Push, Pop, Fill, Cstr, Def}

-- as read: labels by their names, the values of a `.fill`, the characters of a `.cstr`
abbrev pub Read : Type 0
Read = Operation (List ℕ) (List (Immediate (List ℕ))) (List ℕ)

-- the words that an operation places
abbrev pub width_of : {N X : Type 0} → Operation N (List X) (List ℕ) → ℕ
width_of (Compute f o) = 1
width_of (Not o) = 1
width_of (Jalr o) = 1
width_of (In r) = 1
width_of (Out r) = 1
width_of (Addi o) = 1
width_of (Shf o) = 1
width_of (Lw o) = 1
width_of (Sw o) = 1
width_of (Lli o) = 1
width_of (Lui o) = 1
width_of (Branch t o) = 1
width_of (Br imm) = 1
width_of Halt = 1
width_of (Jmp r) = 1
width_of (Mov o) = 1
width_of (Lwi o) = 2
width_of (Push o) = 2
width_of (Pop o) = 2
width_of (Fill vs) = length vs
width_of (Cstr cs) = length cs + 1
width_of (Def n) = 0

-- operands of the code, a label by its name
abbrev pub seen_operands : RegisterImmediate (Bor (List ℕ)) → RegisterImmediate (List ℕ)
seen_operands o = record { rd = o.rd; imm = seen o.imm }

-- the values and the characters in a part of a line
abbrev pub seen_values : Values → List (Immediate (List ℕ))
seen_values vs = ok_prefix (values vs.rest.now)

abbrev pub seen_text : Text → List ℕ
seen_text cs = ok_prefix (characters cs.rest.now)

-- an operation of the code, which holds parts of its line
abbrev pub seen_operation : Operation (Bor (List ℕ)) Values Text → Read
seen_operation (Compute f o) = Compute f o
seen_operation (Not o) = Not o
seen_operation (Jalr o) = Jalr o
seen_operation (In r) = In r
seen_operation (Out r) = Out r
seen_operation (Addi o) = Addi o
seen_operation (Shf o) = Shf o
seen_operation (Lw o) = Lw o
seen_operation (Sw o) = Sw o
seen_operation (Lli o) = Lli (seen_operands o)
seen_operation (Lui o) = Lui (seen_operands o)
seen_operation (Branch t o) = Branch t (seen_operands o)
seen_operation (Br imm) = Br (seen imm)
seen_operation Halt = Halt
seen_operation (Jmp r) = Jmp r
seen_operation (Mov o) = Mov o
seen_operation (Lwi o) = Lwi (seen_operands o)
seen_operation (Push o) = Push o
seen_operation (Pop o) = Pop o
seen_operation (Fill vs) = Fill (seen_values vs)
seen_operation (Cstr cs) = Cstr (seen_text cs)
seen_operation (Def n) = Def n

-- an operation with the words that it places
abbrev pub sized : Read → Read × ℕ
sized o = (o, width_of o)

abbrev pub seen_sized : Operation (Bor (List ℕ)) Values Text × ℕ → Read × ℕ
seen_sized s = (seen_operation s.0, s.1)

-- the name of an operation's kind
abbrev pub mnemonic_of : Read → Mnemonic
mnemonic_of (Compute f o) = name.Compute f
mnemonic_of (Not o) = name.Not
mnemonic_of (Jalr o) = name.Jalr
mnemonic_of (In r) = name.In
mnemonic_of (Out r) = name.Out
mnemonic_of (Addi o) = name.Addi
mnemonic_of (Shf o) = name.Shf
mnemonic_of (Lw o) = name.Lw
mnemonic_of (Sw o) = name.Sw
mnemonic_of (Lli o) = name.Lli
mnemonic_of (Lui o) = name.Lui
mnemonic_of (Branch t o) = name.Branch t
mnemonic_of (Br imm) = name.Br
mnemonic_of Halt = name.Halt
mnemonic_of (Jmp r) = name.Jmp
mnemonic_of (Mov o) = name.Mov
mnemonic_of (Lwi o) = name.Lwi
mnemonic_of (Push o) = name.Push
mnemonic_of (Pop o) = name.Pop
mnemonic_of (Fill vs) = name.Fill
mnemonic_of (Cstr cs) = name.Cstr
mnemonic_of (Def n) = name.Def
