use Rattle.std.proofs.Common.{[], ◌∷◌, ◌++◌, codes, decimal, rules}
use Rattle.buffers.specs.Pages.{held}
use Rattle.report.specs.Adding.{Stands, Added}
use Rattle.report.specs.Lines.{number_of, place_of}
use Rattle.report.proofs.Parts.{joined}
use Rattle.report.proofs.append_refusal.Goals as goal

pub returns-clause-added : goal.returns-clause-added
returns-clause-added c =
    let digits = decimal (number_of c.args.refusal) in
    let place = place_of c.args.refusal in
    let first : Stands (codes "refused ") (held c.args.page.now) (held c.append.new.self) = search rules in
    let second : Stands digits (held c.append.new.self) (held c.append_decimal.new.page) = search rules in
    let third : Stands place (held c.append_decimal.new.page) (held c.append_place.new.page) = search rules in
    let last : Added (10 ∷ []) (held c.append_place.new.page) c.append-2.result (held c.append-2.new.self) = search rules in
    joined (codes "refused ") (digits ++ (place ++ 10 ∷ [])) _ _ _ _ first (joined digits (place ++ 10 ∷ []) _ _ _ _ second (joined place (10 ∷ []) _ _ _ _ third last))
