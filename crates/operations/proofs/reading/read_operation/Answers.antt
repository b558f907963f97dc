use Rattle.std.proofs.Common.{ap, ◌∙◌}
use Rattle.std.proofs.lemmas.Result.{err_from_is_err_and}
use Rattle.operations.proofs.Takes.{as_cstr, cstr_told}
use Rattle.operations.proofs.reading.read_operation.Goals as goal

pub returns-in_err-text-in-Cstr : goal.returns-in_err-text-in-Cstr
returns-in_err-text-in-Cstr c =
    let r = c.from_residual-in_err-text-in-Cstr in
    let p = err_from_is_err_and r.result r.ensures.1 in
    rw (p.1, p.2, c.in-Cstr.is) (ap as_cstr c.in_err-text-in-Cstr.ensures ∙ cstr_told _)

pub returns-in_ok-text-in-Cstr : goal.returns-in_ok-text-in-Cstr
returns-in_ok-text-in-Cstr c = rw c.in-Cstr.is (ap as_cstr c.in_ok-text-in-Cstr.ensures ∙ cstr_told _)
