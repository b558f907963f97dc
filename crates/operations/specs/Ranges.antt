-- The ranges in which the fields of an operation lie. Assumes nothing.
use Rattle.std.specs.Prelude.{◌≡◌, ℕ, ◌^◌, ◌<◌, ◌≤◌, true, ◌⊎◌, List, [], ◌∷◌}
use Rattle.operands.specs.declared.Immediate.{Immediate}
use Rattle.operands.specs.declared.Immediate.TheVariants.{Number, Label}
use Rattle.operands.specs.Names.{is_name}
use Rattle.operations.specs.declared.kinds.Operation.TheVariants.{Compute, Not, Jalr, In, Out, Addi, Shf, Lw, Sw, Lli, Lui, Branch, Br, Halt, Jmp, Mov, Lwi, Push, Pop, Fill, Cstr, Def}
use Rattle.operations.specs.Kinds.{Read}

-- a bit pattern of a width, or a label's name
abbrev pub Fits : ℕ → Immediate (List ℕ) → Type 0
Fits bits (Number n) = n < 2 ^ bits
Fits bits (Label name) = is_name name ≡ true

abbrev pub AllFit : ℕ → List (Immediate (List ℕ)) → Type 0
AllFit bits [] = Unit {0}
AllFit bits (v ∷ vs) = Fits bits v × AllFit bits vs

-- a character of a text: a tab, a line feed, or a byte from 0x20 to 0x7E
abbrev pub Character : ℕ → Type 0
Character c = (c ≡ 9) ⊎ ((c ≡ 10) ⊎ ((32 ≤ c) × (c ≤ 126)))

abbrev pub AllCharacters : List ℕ → Type 0
AllCharacters [] = Unit {0}
AllCharacters (c ∷ cs) = Character c × AllCharacters cs

-- registers are one of eight by their type
abbrev pub FieldsInRange : Read → Type 0
FieldsInRange (Compute f o) = Unit {0}
FieldsInRange (Not o) = Unit {0}
FieldsInRange (Jalr o) = Unit {0}
FieldsInRange (In r) = Unit {0}
FieldsInRange (Out r) = Unit {0}
FieldsInRange (Addi o) = o.number < 2 ^ 6
FieldsInRange (Shf o) = o.number < 2 ^ 6
FieldsInRange (Lw o) = o.number < 2 ^ 6
FieldsInRange (Sw o) = o.number < 2 ^ 6
FieldsInRange (Lli o) = Fits 8 o.imm
FieldsInRange (Lui o) = Fits 8 o.imm
FieldsInRange (Branch t o) = Fits 8 o.imm
FieldsInRange (Br imm) = Fits 8 imm
FieldsInRange Halt = Unit {0}
FieldsInRange (Jmp r) = Unit {0}
FieldsInRange (Mov o) = Unit {0}
FieldsInRange (Lwi o) = Fits 16 o.imm
FieldsInRange (Push o) = Unit {0}
FieldsInRange (Pop o) = Unit {0}
FieldsInRange (Fill vs) = AllFit 16 vs
FieldsInRange (Cstr cs) = AllCharacters cs
FieldsInRange (Def n) = n < 2 ^ 16
