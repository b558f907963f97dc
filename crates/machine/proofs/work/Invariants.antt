use Rattle.std.proofs.Common.{◌-◌}
use Rattle.cpu.specs.States.{state}
use Rattle.machine.proofs.Going.{Going}
use Rattle.machine.proofs.work.Given as goal

abbrev pub invariant-loop-cycles : goal.invariant-loop-cycles
invariant-loop-cycles g l =
    Going l.budget l.cycles
    (state l.initial.cpu l.initial.memory (g.P.Port.meaning l.initial.port))
    (state l.cpu l.memory (g.P.Port.meaning l.port))

abbrev pub decreases-loop-cycles : goal.decreases-loop-cycles
decreases-loop-cycles g l = l.budget - l.cycles
