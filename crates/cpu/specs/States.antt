-- What a processor, its memory and its port hold. Assumes nothing.
use Rattle.std.specs.Prelude.{ℕ, Bool, List}
use Rattle.port.specs.Meaning.{Meaning}
use Rattle.cpu.specs.declared.Cpu.{Cpu}

-- registers, place, memory words and port meaning, and whether the machine has halted
pub record State : Type 0 where
  pub registers : List ℕ
  pub place : ℕ
  pub halted : Bool
  pub memory : List ℕ
  pub port : Meaning

-- a processor with a memory and a port of some meaning
abbrev pub state : Cpu → List ℕ → Meaning → State
state c memory port = record {
  registers = c.registers.words;
  place = c.pc;
  halted = c.halted;
  memory = memory;
  port = port;
}
