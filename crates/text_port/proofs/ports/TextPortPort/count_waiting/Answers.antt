use Rattle.std.proofs.Common.{length, ap, ◌∙◌, rules}
use Rattle.text_port.specs.Tokens.{tokens, words_of}
use Rattle.text_port.proofs.Counts.{drained}
use Rattle.text_port.proofs.ports.TextPortPort.count_waiting.Goals as goal

pub returns : goal.returns
returns c =
    let ran = c.count.ensures.ran in
    ran.2 ∙ drained (λ s. tokens s.rest.now) _ (λ f after t r call. search rules) c.map_while.result ran.0 ran.1 ∙ ap (λ s. length (words_of (tokens s.rest.now))) c.map_while.ensures.source
