use Rattle.std.proofs.Common.{codes, decimal, ap, ◌∙◌, rules}
use Rattle.buffers.specs.Pages.{held}
use Rattle.report.specs.Adding.{Stands, Added}
use Rattle.report.specs.Lines.{place_of, token_of}
use Rattle.report.proofs.Parts.{joined}
use Rattle.report.proofs.append_place.Goals as goal

pub returns-in_ok-append-in-Text-Token-clause-added : goal.returns-in_ok-append-in-Text-Token-clause-added
returns-in_ok-append-in-Text-Token-clause-added c =
    let token : Stands (codes " token ") (held c.args.page.now) (held c.append.new.self) = search rules in
    let digits : Added (decimal c.in-Text-Token.k) (held c.append.new.self) c.append_decimal.result (held c.append_decimal.new.page) = search rules in
    let refusal = rw c.in-Text-Token.is at c.in-Text-Token.field-0-is in
    rw (ap place_of c.in-Text-Token.is ∙ ap token_of refusal)
    (joined (codes " token ") (decimal c.in-Text-Token.k) _ _ _ _ token digits)
