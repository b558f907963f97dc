use Rattle.std.proofs.Common.{arith}
use Rattle.std.proofs.lemmas.Result.{err_from_is_err_and}
use Rattle.lines.specs.Places.{parts}
use Rattle.operations.proofs.Takes.{text_taken, text_fault}
use Rattle.operations.proofs.fields.take_string.Goals as goal

pub returns-in_err-count : goal.returns-in_err-count
returns-in_err-count c =
    let p = err_from_is_err_and c.from_residual-in_err-count.result c.from_residual-in_err-count.ensures.1 in
    rw (p.1, p.2) (text_fault (parts c.args.fields.rest.now) _ c.in-Some-eq34.field-0.now c.in-Some-eq34.ensures.steps c.in_ok-check_fields.ensures (omega arith) _ c.in_err-count.ensures.all)

pub returns : goal.returns
returns c = text_taken (parts c.args.fields.rest.now) _ c.in-Some-eq34.field-0.now c.in-Some-eq34.ensures.steps c.in_ok-check_fields.ensures (omega arith) c.in_ok-count.count c.in_ok-count.ensures.all
