-- What holds of every run and every load. Assumes nothing.
use Rattle.std.specs.Prelude.{◌≡◌, ℕ, ◌+◌, ◌<◌, ◌≤◌, List, length, Ok, Err, Option, slice_index}
use Rattle.cpu.specs.declared.Stop.{Stop}
use Rattle.cpu.specs.declared.Stop.TheVariants.{Spent}
use Rattle.cpu.specs.States.{State}
use Rattle.cpu.specs.Steps.{step_of}
use Rattle.machine.specs.Runs.{Ran, adding, run_of}
use Rattle.machine.specs.Calls.{Standing, fresh, loading, running}

-- a spent run goes on with a further budget, and any other run stays as it is
abbrev pub and_then : ℕ → Stop → Ran → Ran
and_then budget Spent r = adding r.cycles (run_of budget r.after)
and_then budget _ r = r

-- a budget of a + b is a budget of a and then one of b
abbrev pub BudgetInParts : Type 0
BudgetInParts = (a b : ℕ) (s : State) → run_of (a + b) s ≡ and_then b (run_of a s).stop (run_of a s)

-- a run does no more cycles than its budget, and a spent one all of them
pub record Kept (budget : ℕ) (r : Ran) : Type 0 where
  pub within : r.cycles ≤ budget
  pub whole : r.stop ≡ Spent → r.cycles ≡ budget

-- every run keeps to its budget
abbrev pub WithinBudget : Type 0
WithinBudget = (budget : ℕ) (s : State) → Kept budget (run_of budget s)

-- a word that stops alters nothing
abbrev pub StopsAlterNothing : Type 0
StopsAlterNothing = (s : State) (stop : Stop) → (step_of s).answer ≡ Err stop → (step_of s).after ≡ s

-- register 0 is zero
abbrev pub Zero : State → Type 0
Zero s = slice_index s.registers 0 ≡ 0

-- from a fresh machine on, through words, runs and loads
pub record RegisterZero : Type 0 where
  pub at_first : (size : Option ℕ) (s : Standing) → Zero (fresh size s.state.memory s.state.port).state
  pub after_word : (s : State) → Zero s → Zero (step_of s).after
  pub after_run : (budget : ℕ) (s : Standing) → Zero s.state → Zero (running budget s).after.state
  pub after_load : (image : List ℕ) (s : Standing) → Zero s.state → Zero (loading image s).after.state

-- the word at each address of a memory that an image was loaded into
pub record Holds (image memory : List ℕ) : Type 0 where
  pub image_words : (at : ℕ) → at < length image → slice_index memory at ≡ slice_index image at
  pub zeros_behind : (at : ℕ) → length image ≤ at → slice_index memory at ≡ 0

-- the memory is as long as it was, and holds the image
pub record Loaded (image : List ℕ) (s t : Standing) : Type 0 where
  pub same_length : length t.state.memory ≡ length s.state.memory
  pub words : Holds image t.state.memory

-- every load that is not refused
abbrev pub LoadedMemory : Type 0
LoadedMemory = (image : List ℕ) (s : Standing) → (loading image s).answer ≡ Ok tt → Loaded image s (loading image s).after
