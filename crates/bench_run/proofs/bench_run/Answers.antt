use Rattle.std.proofs.Common.{rules, ap, ◌∙◌}
use Rattle.port.specs.Tape.{held, means}
use Rattle.machine.specs.Calls.{Standing, looking}
use Rattle.bench_run.specs.Timed.{count_of}
use Rattle.bench_run.proofs.Chain.{timed_is, counted}
use Rattle.bench_run.proofs.bench_run.Goals as goal

pub returns : goal.returns
returns c =
    let m = means (held c.new-tape.result) in
    let t = timed_is c.args.image.now c.args.memory.now c.args.input.now c.args.output.now c.args.runs c.new-tape.ensures.starts (c.new-machine.ensures c.args.memory.now m) (c.load.ensures.after m) c.run_on.ensures in
    record {
      answer = counted c.look.result _ (λ l k. search rules) c.map_or.ensures ∙ ap count_of (c.look.ensures (means (held c.run_on.new.port)) ∙ ap looking t);
      memory = ap (λ (x : Standing). x.state.memory) t;
    }
