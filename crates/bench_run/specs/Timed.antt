-- What is timed: a load, and runs one after the other over a new tape. Assumes nothing.
use Rattle.std.specs.Prelude.{ℕ, zero, suc, List, Ok, Err, Result}
use Rattle.port.specs.Tape as tape
use Rattle.machine.specs.declared.Refusal.{Refusal}
use Rattle.machine.specs.Calls.{Standing, Sight, unloaded, loading, running}

-- so many runs of 1,000,000 cycles; a refused one alters nothing
unfoldable pub runs_from : ℕ → Standing → Standing
runs_from zero s = s
runs_from (suc n) s = runs_from n (running 1000000 s).after

-- from a machine before its first load
abbrev pub timed : List ℕ → List ℕ → List ℕ → List ℕ → ℕ → Standing
timed image memory input output runs = runs_from runs (loading image (unloaded memory (tape.fresh input output))).after

-- the count that a look shows, none where it is refused
abbrev pub count_of : Result Sight Refusal → ℕ
count_of (Ok sight) = sight.count
count_of (Err refusal) = 0
