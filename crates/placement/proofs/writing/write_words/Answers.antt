use Rattle.std.proofs.Common.{length, is_err, sym, ap, ◌∙◌, rules}
use Rattle.operations.specs.Kinds.{seen_operation}
use Rattle.placement.specs.Placing.{words_of}
use Rattle.placement.proofs.Laying.{refused}
use Rattle.placement.proofs.writing.write_words.Goals as goal

pub returns-then-is_err-clause-after : goal.returns-then-is_err-clause-after
returns-then-is_err-clause-after g c =
    let told = words_of (g.L.Labels.valued c.args.labels.now) c.args.address (seen_operation c.args.operation) in
    let none = refused told (length c.fill.new.self) (ap is_err (sym c.write_expanded-written.ensures.answer) ∙ sym c.is_err.ensures.value ∙ c.if-is_err.true) in
    rw (rw c.fill.ensures.len at none) (search rules)
