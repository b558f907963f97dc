-- The stops and their numbers. Assumes nothing.
use Rattle.std.specs.Prelude.{ℕ}
use Rattle.cpu.specs.declared.Stop.{Stop}
use Rattle.cpu.specs.declared.Stop.TheVariants.{Spent, Halted, Dry, Full, Outside, Unassigned}

-- each stop's number
abbrev pub stop_number : Stop → ℕ
stop_number Spent = 0
stop_number Halted = 30
stop_number Dry = 31
stop_number Full = 32
stop_number Outside = 33
stop_number Unassigned = 34
