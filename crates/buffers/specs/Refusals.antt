-- The refusal of a buffer and its number. Assumes nothing.
use Rattle.std.specs.Prelude.{ℕ}
use Rattle.buffers.specs.declared.Short.{Short}

-- a buffer that is too short
abbrev pub short_number : Short → ℕ
short_number s = 6
