-- The machine's refusals and their numbers. Assumes nothing.
use Rattle.std.specs.Prelude.{ℕ}
use Rattle.machine.specs.declared.Refusal.{Refusal}
use Rattle.machine.specs.declared.Refusal.TheVariants.{Memory, Image, Budget, Count, Address}

-- each refusal's number
abbrev pub refusal_number : Refusal → ℕ
refusal_number Memory = 4
refusal_number Image = 5
refusal_number Budget = 8
refusal_number Count = 9
refusal_number Address = 20
