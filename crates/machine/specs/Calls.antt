-- What each call answers, and the machine, memory and port after it. Assumes nothing.
use Rattle.std.specs.Prelude.{ℕ, ◌+◌, Bool, false, cond, not, ◌||◌, List, length, Some, None, Ok, Err, Option, Result, ◌==◌, nat_lt, slice_index}
use Rattle.buffers.specs.Buffers.{padded}
use Rattle.port.specs.Meaning.{Meaning}
use Rattle.words.specs.Registers.{zeros}
use Rattle.cpu.specs.States.{State, state}
use Rattle.machine.specs.declared.Machine.{Machine}
use Rattle.machine.specs.declared.Report.{Report}
use Rattle.machine.specs.declared.Look.{Look}
use Rattle.machine.specs.declared.Refusal.{Refusal}
use Rattle.machine.specs.declared.Refusal.TheVariants.{Memory, Image, Budget, Count, Address}
use Rattle.machine.specs.Runs.{Ran, run_of}

-- a machine with its memory and port: the size that was loaded, none before a first load, and the cycles since
pub record Standing : Type 0 where
  pub state : State
  pub size : Option ℕ
  pub count : ℕ

-- what stands where a machine has a memory, and a port of some meaning, beside it
abbrev pub stands : Machine → List ℕ → Meaning → Standing
stands m memory port = record { state = state m.cpu memory port; size = m.size; count = m.count }

-- registers, place and count zero, not halted, with the size that is loaded
abbrev pub fresh : Option ℕ → List ℕ → Meaning → Standing
fresh size memory port = record {
  state = record { registers = zeros; place = 0; halted = false; memory = memory; port = port };
  size = size;
  count = 0;
}

-- before a first load
abbrev pub unloaded : List ℕ → Meaning → Standing
unloaded memory port = fresh None memory port

-- what a call answers, and what stands after it
pub record Served (A : Type 0) : Type 0 where
  pub answer : Result A Refusal
  pub after : Standing

-- a refusal, which alters nothing
abbrev pub refusing : {A : Type 0} → Refusal → Standing → Served A
refusing refusal s = record { answer = Err refusal; after = s }

-- a memory has 64 to 65,536 words
abbrev pub unfit : ℕ → Bool
unfit n = nat_lt n 64 || nat_lt 65536 n

-- a later call is given as many words as were loaded; before a first load none are right
abbrev pub sized : Option ℕ → ℕ → Result Unit Refusal
sized None n = Err Memory
sized (Some size) n = cond (unfit n || not (n == size)) (Err Memory) (Ok tt)

-- an accepted load: the memory becomes the image and zeros behind it, and the port stays as it is
abbrev pub accepted : List ℕ → Standing → Served Unit
accepted image s =
    let n : ℕ = length s.state.memory in
    record { answer = Ok tt; after = fresh (Some n) (padded image n) s.state.port }

-- a load, refused for the memory, then for the image
abbrev pub loading : List ℕ → Standing → Served Unit
loading image s =
    cond (unfit (length s.state.memory)) (refusing Memory s)
    (cond (nat_lt (length s.state.memory) (length image)) (refusing Image s) (accepted image s))

-- the run's answer; its cycles are added to the count
abbrev pub counted : Standing → Ran → Served Report
counted s r = record {
  answer = Ok (record { stop = r.stop; cycles = r.cycles });
  after = record { state = r.after; size = s.size; count = s.count + r.cycles };
}

-- a run, refused for the memory, then for the budget, then for the count
abbrev pub running : ℕ → Standing → Served Report
running budget s = elim (sized s.size (length s.state.memory)) [
  | Err refusal ↦ refusing refusal s
  | Ok u ↦
      cond (nat_lt 1000000 budget) (refusing Budget s)
      (cond (nat_lt 100000000 (s.count + budget)) (refusing Count s)
      (counted s (run_of budget s.state)))
]

-- registers, place and count
pub record Sight : Type 0 where
  pub registers : List ℕ
  pub place : ℕ
  pub count : ℕ

-- a look, refused for the memory
abbrev pub looking : Standing → Result Sight Refusal
looking s = elim (sized s.size (length s.state.memory)) [
  | Err refusal ↦ Err refusal
  | Ok u ↦ Ok (record { registers = s.state.registers; place = s.state.place; count = s.count })
]

-- what a look shows
abbrev pub shown : Result Look Refusal → Result Sight Refusal
shown (Ok l) = Ok (record { registers = l.registers.words; place = l.pc; count = l.count })
shown (Err refusal) = Err refusal

-- a peek, refused for the memory, then for the address
abbrev pub peeking : ℕ → Standing → Result ℕ Refusal
peeking at s = elim (sized s.size (length s.state.memory)) [
  | Err refusal ↦ Err refusal
  | Ok u ↦ cond (nat_lt at (length s.state.memory)) (Ok (slice_index s.state.memory at)) (Err Address)
]
