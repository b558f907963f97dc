-- A run: words done until the budget is done or a stop comes. Assumes nothing.
use Rattle.std.specs.Prelude.{ℕ, zero, suc, ◌+◌, ◌-◌, Bool, true, false, cond, Ok, Err, ◌==◌}
use Rattle.cpu.specs.declared.Stop.{Stop}
use Rattle.cpu.specs.declared.Stop.TheVariants.{Spent, Halted}
use Rattle.cpu.specs.States.{State}
use Rattle.cpu.specs.Steps.{step_of}
use Rattle.machine.specs.declared.Report.{Report}

-- how a run ended, the cycles done, and the state after it
pub record Ran : Type 0 where
  pub stop : Stop
  pub cycles : ℕ
  pub after : State

-- a run that does no word
abbrev pub ended : Stop → State → Ran
ended stop s = record { stop = stop; cycles = 0; after = s }

-- a run of which some cycles had been done before
abbrev pub adding : ℕ → Ran → Ran
adding cycles r = record { stop = r.stop; cycles = cycles + r.cycles; after = r.after }

-- what a run answers once its budget is done
abbrev pub at_end : Bool → Stop
at_end true = Halted
at_end false = Spent

-- at most so many words, while cycles of the budget are left
unfoldable pub goes : ℕ → ℕ → State → Ran
goes zero left s = ended (at_end s.halted) s
goes (suc words) left s =
    cond (left == 0) (ended (at_end s.halted) s)
    (elim (step_of s).answer [
      | Ok cost ↦ adding cost (goes words (left - cost) (step_of s).after)
      | Err stop ↦ ended stop s
    ])

-- a run with a budget; no word costs less than one cycle, so the budget's number of words is enough
abbrev pub run_of : ℕ → State → Ran
run_of budget s = goes budget budget s

-- a report, with the state that the run left
abbrev pub ran_as : Report → State → Ran
ran_as r s = record { stop = r.stop; cycles = r.cycles; after = s }
