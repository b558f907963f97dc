use Rattle.bench_run.proofs.Chain.{again, over}
use Rattle.bench_run.proofs.run_on.Goals as goal

pub loop-preserved : goal.loop-preserved
loop-preserved g c = again _ _ _ _ _ c.loop-test.true c.run.ensures.after c.loop.invariant

pub returns : goal.returns
returns g c = over _ _ _ _ c.loop-test.false c.loop.invariant
