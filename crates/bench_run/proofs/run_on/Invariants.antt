use Rattle.std.proofs.Common.{◌≡◌, ◌-◌}
use Rattle.machine.specs.Calls.{stands}
use Rattle.bench_run.specs.Timed.{runs_from}
use Rattle.bench_run.proofs.run_on.Given as goal

abbrev pub invariant-loop : goal.invariant-loop
invariant-loop g l =
    runs_from (l.runs - l.counter) (stands l.machine l.memory (g.P.Port.meaning l.port))
    ≡ runs_from l.runs (stands l.initial.machine l.initial.memory (g.P.Port.meaning l.initial.port))
