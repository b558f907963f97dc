-- What each operation does, told over whole numbers. Assumes nothing.
use Rattle.std.specs.Prelude.{◌≡◌, ℕ, ◌+◌, ◌*◌, ◌/◌, ◌%◌, ◌^◌, ◌≤◌, min, max, ◌⊎◌, List, ℤ, pos, ◌+ℤ◌, ◌-ℤ◌, neg_ℤ, ◌≤ℤ◌, ◌<ℤ◌, ◌≢◌}
use Rattle.words.specs.declared.Register.{Register}
use Rattle.words.specs.declared.Register.TheVariants.{R0}
use Rattle.words.specs.declared.ThreeRegisters.{ThreeRegisters}
use Rattle.words.specs.declared.TwoRegisters.{TwoRegisters}
use Rattle.words.specs.declared.RegistersImm6.{RegistersImm6}
use Rattle.words.specs.declared.RegisterImm8.{RegisterImm8}
use Rattle.words.specs.declared.Function.TheVariants.{Add, Sub, And, Or}
use Rattle.words.specs.declared.Test.{Test}
use Rattle.words.specs.declared.Test.TheVariants.{Equal, NotEqual, Greater, GreaterEqual, Less, LessEqual}
use Rattle.words.specs.declared.Instruction.{Instruction}
use Rattle.words.specs.declared.Instruction.TheVariants.{Compute, Not, Jalr, In, Out, Addi, Shf, Lw, Sw, Lli, Lui, Branch}
use Rattle.words.specs.Registers.{reading, written}
use Rattle.words.specs.Acts.{Act, go, load, store, take_word, send_word, halt, act}
use Rattle.effects.specs.Whole.{signed, value, Represents}

-- a word's bit at a place
abbrev pub bit : ℕ → ℕ → ℕ
bit w k = w / 2 ^ k % 2

-- the test of a branch, by the sign of a whole number
abbrev pub Holds : Test → ℤ → Type 0
Holds Equal z = z ≡ pos 0
Holds NotEqual z = z ≡ pos 0 → ⊥
Holds Greater z = pos 0 <ℤ z
Holds GreaterEqual z = pos 0 ≤ℤ z
Holds Less z = z <ℤ pos 0
Holds LessEqual z = z ≤ℤ pos 0

-- at each place and with all registers
module _ (place : ℕ) (rs : List ℕ) where
  -- the signed value that a register holds
  abbrev pub holds : Register → ℤ
  holds r = signed (reading rs r)

  -- the register receives a word of which P holds, and nothing else changes; the place goes on by one
  abbrev pub Puts : Instruction → Register → (ℕ → Type 0) → Type 0
  Puts i r P = (w : ℕ) × (act i place rs ≡ go (written rs r w) ((place + 1) % 65536)) × P w

  -- it goes on at a place of which P holds, and no register changes
  abbrev pub GoesTo : Instruction → (ℕ → Type 0) → Type 0
  GoesTo i P = (target : ℕ) × (act i place rs ≡ go rs target) × P target

  -- it asks for an address of which P holds
  abbrev pub Asks : Instruction → (ℕ → Act) → (ℕ → Type 0) → Type 0
  Asks i wanted P = (at : ℕ) × (act i place rs ≡ wanted at) × P at

  pub record Effects : Type 0 where
    pub adds : (o : ThreeRegisters) → Puts (Compute Add o) o.rd (λ w. Represents w (holds o.rs1 +ℤ holds o.rs2))
    pub subtracts : (o : ThreeRegisters) → Puts (Compute Sub o) o.rd (λ w. Represents w (holds o.rs1 -ℤ holds o.rs2))
    pub ands : (o : ThreeRegisters) → Puts (Compute And o) o.rd (λ w. (k : ℕ) → bit w k ≡ min (bit (reading rs o.rs1) k) (bit (reading rs o.rs2) k))
    pub ors : (o : ThreeRegisters) → Puts (Compute Or o) o.rd (λ w. (k : ℕ) → bit w k ≡ max (bit (reading rs o.rs1) k) (bit (reading rs o.rs2) k))
    pub negates : (o : TwoRegisters) → Puts (Not o) o.rd (λ w. Represents w (neg_ℤ (holds o.rs1) -ℤ pos 1))
    -- the place becomes the word that Rd held before, while Rs1 receives the place behind
    pub jumps : (o : TwoRegisters) → act (Jalr o) place rs ≡ go (written rs o.rs1 ((place + 1) % 65536)) (reading rs o.rd)
    pub takes : (rd : Register) → act (In rd) place rs ≡ take_word rd
    pub halts : act (Out R0) place rs ≡ halt
    pub sends : (rd : Register) → (rd ≢ R0) → act (Out rd) place rs ≡ send_word (reading rs rd)
    pub adds_immediate : (o : RegistersImm6) → Puts (Addi o) o.rd (λ w. Represents w (holds o.rs1 +ℤ value o.imm))
    pub shifts_left : (o : RegistersImm6) (n : ℕ) → value o.imm ≡ pos n → Puts (Shf o) o.rd (λ w. w ≡ reading rs o.rs1 * 2 ^ n % 65536)
    pub shifts_right : (o : RegistersImm6) (n : ℕ) → value o.imm ≡ neg_ℤ (pos n) → Puts (Shf o) o.rd (λ w. w ≡ reading rs o.rs1 / 2 ^ n)
    pub shifts_out : (o : RegistersImm6) (n : ℕ) → (value o.imm ≡ pos n) ⊎ (value o.imm ≡ neg_ℤ (pos n)) → 16 ≤ n → Puts (Shf o) o.rd (λ w. w ≡ 0)
    pub loads : (o : RegistersImm6) → Asks (Lw o) (load o.rd) (λ at. Represents at (holds o.rs1 +ℤ value o.imm))
    pub stores : (o : RegistersImm6) → Asks (Sw o) (λ at. store at (reading rs o.rd)) (λ at. Represents at (holds o.rs1 +ℤ value o.imm))
    pub extends : (o : RegisterImm8) → Puts (Lli o) o.rd (λ w. signed w ≡ value o.imm)
    -- the upper byte is the immediate's, and the lower byte stays
    pub puts_upper : (o : RegisterImm8) → Puts (Lui o) o.rd (λ w. (w / 256 ≡ o.imm.bits) × (w % 256 ≡ reading rs o.rd % 256))
    pub branches : (t : Test) (o : RegisterImm8) → Holds t (holds o.rd) → GoesTo (Branch t o) (λ target. Represents target (pos (place + 1) +ℤ value o.imm))
    pub passes_by : (t : Test) (o : RegisterImm8) → (Holds t (holds o.rd) → ⊥) → GoesTo (Branch t o) (λ target. target ≡ (place + 1) % 65536)

-- at every place, with any registers
abbrev pub SignedEffects : Type 0
SignedEffects = (place : ℕ) (rs : List ℕ) → Effects place rs
