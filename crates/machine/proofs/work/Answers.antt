use Rattle.std.proofs.Common.{◌≤◌, sym, ◌∙◌, true≢false, arith}
use Rattle.machine.proofs.Going.{one_cycle, again, stopped, done, rests}
use Rattle.machine.proofs.work.Goals as goal
use Rattle.machine.proofs.work.Goals.{then-loop-cycles-test+else-not-cpu, else-loop-cycles-test}

pub overflow_add-cycles : goal.overflow_add-cycles
overflow_add-cycles g c = omega (arith, one_cycle c.loop-cycles.invariant c.in-Ok.ensures.answer)

pub loop-cycles-smaller : goal.loop-cycles-smaller
loop-cycles-smaller g c = omega (arith, one_cycle c.loop-cycles.invariant c.in-Ok.ensures.answer)

pub loop-cycles-preserved : goal.loop-cycles-preserved
loop-cycles-preserved g c = again c.loop-cycles.invariant c.loop-cycles-test.true c.step.ensures.after c.in-Ok.ensures.answer

pub returns-in-Err-clause-answer : goal.returns-in-Err-clause-answer
returns-in-Err-clause-answer g c = stopped c.loop-cycles.invariant c.loop-cycles-test.true c.step.ensures.after c.in-Err.ensures.answer

pub returns-then-cpu-clause-answer : goal.returns-then-cpu-clause-answer
returns-then-cpu-clause-answer g c = rests c.loop-cycles.invariant c.if-cpu.true

pub returns-else-cpu-clause-answer : goal.returns-else-cpu-clause-answer
returns-else-cpu-clause-answer g c =
    let over : c.args.budget ≤ c.loop-cycles.cycles = elim c.loop-cycles-test.branch [
      | then-loop-cycles-test+else-not-cpu w ↦ absurd (true≢false (sym w.if-not-cpu.false ∙ c.if-cpu.false))
      | else-loop-cycles-test w ↦ omega arith
    ] in
    done c.loop-cycles.invariant over c.if-cpu.false
