-- The names of the operations. Assumes nothing.
use Rattle.std.specs.Prelude.{ℕ, List, [], ◌∷◌, codes, Option}
use Rattle.std.specs.List.{find}
use Rattle.std.specs.Str.{bytes_eq}
use Rattle.words.specs.declared.Function.TheVariants.{Add, Sub, And, Or}
use Rattle.words.specs.declared.Test.TheVariants.{Equal, NotEqual, Greater, GreaterEqual, Less, LessEqual}
use Rattle.operations.specs.declared.mnemonics.Mnemonic.{Mnemonic}
use Rattle.operations.specs.declared.mnemonics.Mnemonic.TheVariants.{Compute, Not, Jalr, In, Out, Addi, Shf, Lw, Sw, Lli, Lui, Branch, Br, Halt, DotHalt, Jmp, Mov, Lwi, Push, Pop, Fill, Cstr, Def}

abbrev pub name_of : Mnemonic → List ℕ
name_of (Compute Add) = codes "add"
name_of (Compute Sub) = codes "sub"
name_of (Compute And) = codes "and"
name_of (Compute Or) = codes "or"
name_of Not = codes "not"
name_of Jalr = codes "jalr"
name_of In = codes "in"
name_of Out = codes "out"
name_of Addi = codes "addi"
name_of Shf = codes "shf"
name_of Lw = codes "lw"
name_of Sw = codes "sw"
name_of Lli = codes "lli"
name_of Lui = codes "lui"
name_of (Branch Equal) = codes "beq"
name_of (Branch NotEqual) = codes "bne"
name_of (Branch Greater) = codes "bgt"
name_of (Branch GreaterEqual) = codes "bge"
name_of (Branch Less) = codes "blt"
name_of (Branch LessEqual) = codes "ble"
name_of Br = codes "br"
name_of Halt = codes "halt"
name_of DotHalt = codes ".halt"
name_of Jmp = codes "jmp"
name_of Mov = codes "mov"
name_of Lwi = codes "lwi"
name_of Push = codes "push"
name_of Pop = codes "pop"
name_of Fill = codes ".fill"
name_of Cstr = codes ".cstr"
name_of Def = codes ".def"

-- all of them
abbrev pub operations : List Mnemonic
operations =
    Compute Add ∷ Compute Sub ∷ Compute And ∷ Compute Or ∷ Not ∷ Jalr ∷ In ∷ Out ∷ Addi ∷ Shf ∷ Lw ∷ Sw ∷ Lli ∷ Lui
    ∷ Branch Equal ∷ Branch NotEqual ∷ Branch Greater ∷ Branch GreaterEqual ∷ Branch Less ∷ Branch LessEqual
    ∷ Br ∷ Halt ∷ DotHalt ∷ Jmp ∷ Mov ∷ Lwi ∷ Push ∷ Pop ∷ Fill ∷ Cstr ∷ Def ∷ []

-- the first of some operations that has a name
abbrev pub named : List ℕ → List Mnemonic → Option Mnemonic
named text ms = find (λ m. bytes_eq text (name_of m)) ms

-- the operation that a name stands for
unfoldable pub mnemonic : List ℕ → Option Mnemonic
mnemonic text = named text operations
