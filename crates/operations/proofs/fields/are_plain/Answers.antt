use Rattle.std.proofs.Common.{rules, refl}
use Rattle.std.proofs.lemmas.Iterator.Search.{all_from_yields_List}
use Rattle.std.proofs.lemmas.Iterator.Consumers.{YieldsList-from_first}
use Rattle.lines.specs.Places.{parts}
use Rattle.operations.specs.Fields.{plain}
use Rattle.operations.proofs.fields.are_plain.Goals as goal

pub returns : goal.returns
returns c = all_from_yields_List plain c.all.new.self _ _ c.all.ensures.ran (YieldsList-from_first (λ f. f.now) (λ s. parts s.rest.now) {s = c.args.fields} (parts c.args.fields.rest.now) refl) (λ x b q k. search rules)
