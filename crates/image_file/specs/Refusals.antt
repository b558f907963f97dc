-- The refusals of the file form and their numbers. Assumes nothing.
use Rattle.std.specs.Prelude.{ℕ}
use Rattle.image_file.specs.declared.Refusal.{Refusal}
use Rattle.image_file.specs.declared.Refusal.TheVariants.{Words, Image, Output, Mark}

-- each refusal's number
abbrev pub refusal_number : Refusal → ℕ
refusal_number Words = 3
refusal_number Image = 5
refusal_number Output = 6
refusal_number Mark = 7
