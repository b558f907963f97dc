-- One word done. Assumes nothing.
use Rattle.std.specs.Prelude.{ℕ, true, cond, List, length, Some, None, Ok, Err, Option, Result, nat_lt, slice_index, slice_set}
use Rattle.words.specs.declared.Register.{Register}
use Rattle.words.specs.declared.Instruction.{Instruction}
use Rattle.words.specs.Registers.{written}
use Rattle.words.specs.Coding.{decoded, cost_of}
use Rattle.words.specs.Acts.{Act, go, load, store, take_word, send_word, halt, act, behind}
use Rattle.port.specs.declared.Dry.{Dry}
use Rattle.port.specs.declared.Full.{Full}
use Rattle.port.specs.Meaning.{Meaning, taking, sending}
use Rattle.cpu.specs.declared.Stop.{Stop}
use Rattle.cpu.specs.declared.Stop.TheVariants.{Halted, Outside, Unassigned, Dry as stop_dry, Full as stop_full}
use Rattle.cpu.specs.States.{State}

-- the cycles that a word cost, or the stop that it met, and the state after it
pub record Turn : Type 0 where
  pub answer : Result ℕ Stop
  pub after : State

-- a word done at a cost
abbrev pub did : ℕ → State → Turn
did cost s = record { answer = Ok cost; after = s }

-- a stop, which alters nothing
abbrev pub met : Stop → State → Turn
met stop s = record { answer = Err stop; after = s }

-- the state with other registers and another place
abbrev pub moved : State → List ℕ → ℕ → State
moved s rs place = record { registers = rs; place = place; halted = s.halted; memory = s.memory; port = s.port }

-- the state one word on, with a word put into a register
abbrev pub put : State → Register → ℕ → State
put s r w = moved s (written s.registers r w) (behind s.place)

-- the state with another memory
abbrev pub with_memory : State → List ℕ → State
with_memory s ws = record { registers = s.registers; place = s.place; halted = s.halted; memory = ws; port = s.port }

-- the state with another port meaning
abbrev pub with_port : State → Meaning → State
with_port s m = record { registers = s.registers; place = s.place; halted = s.halted; memory = s.memory; port = m }

-- the state of a machine that has halted
abbrev pub halting : State → State
halting s = record { registers = s.registers; place = s.place; halted = true; memory = s.memory; port = s.port }

-- what is done if an address lies in the memory
abbrev pub inside : ℕ → State → Turn → Turn
inside at s turn = cond (nat_lt at (length s.memory)) turn (met Outside s)

-- what taking answered, put into a register
abbrev pub took : ℕ → Register → State → Meaning → Result ℕ Dry → Turn
took cost r s m (Ok w) = did cost (put (with_port s m) r w)
took cost r s m (Err e) = met stop_dry s

-- what sending answered
abbrev pub gave : ℕ → State → Meaning → Result Unit Full → Turn
gave cost s m (Ok u) = did cost (moved (with_port s m) s.registers (behind s.place))
gave cost s m (Err e) = met stop_full s

-- an act at a cost
abbrev pub perform : ℕ → Act → State → Turn
perform cost (go rs place) s = did cost (moved s rs place)
perform cost (load r at) s = inside at s (did cost (put s r (slice_index s.memory at)))
perform cost (store at w) s = inside at s (did cost (moved (with_memory s (slice_set s.memory at w)) s.registers (behind s.place)))
perform cost (take_word r) s = took cost r s (taking s.port).after (taking s.port).answer
perform cost (send_word w) s = gave cost s (sending s.port w).after (sending s.port w).answer
perform cost halt s = did cost (halting s)

-- the word at place, by the instruction that it stands for
abbrev pub fetched : Option Instruction → State → Turn
fetched None s = met Unassigned s
fetched (Some i) s = perform (cost_of i) (act i s.place s.registers) s

-- a halted machine stays so; a place outside the memory has no word
abbrev pub step_of : State → Turn
step_of s = cond s.halted (met Halted s) (inside s.place s (fetched (decoded (slice_index s.memory s.place)) s))
