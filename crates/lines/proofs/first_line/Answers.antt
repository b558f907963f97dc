use Rattle.std.proofs.Common.{◌<◌, length, ap, ◌∙◌, arith, false-eqb}
use Rattle.std.proofs.lemmas.List.{take_rest}
use Rattle.std.specs.Option.{unwrap_or}
use Rattle.lines.proofs.Firsts.{cut_line}
use Rattle.lines.proofs.first_line.Goals as goal

pub returns : goal.returns
returns c =
    let xs = c.args.source.now in
    let some : 0 < length xs = omega (arith, false-eqb (length xs) 0 c.if-is_empty.ensures) in
    let end = c.unwrap_or-end.ensures ∙ ap (λ o. unwrap_or o (length xs)) c.find_line_end.ensures in
    cut_line xs _ _ _ some end c.min.ensures (take_rest xs c.min.result)
