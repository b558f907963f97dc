use Rattle.std.proofs.Common.{◌≡◌, ◌+◌, ◌*◌, ◌<◌, min, get_or, drop, sym, ap, ◌∙◌, subst, arith}
use Rattle.std.specs.Char.{digit_value}
use Rattle.std.proofs.lemmas.List.{at_drop_more}
use Rattle.numbers.specs.Reading.{digits_from}
use Rattle.numbers.proofs.Capped.{capped, capped_more}
use Rattle.numbers.proofs.read_digits.Goals as goal

pub loop-b-preserved : goal.loop-b-preserved
loop-b-preserved c =
    let base = c.args.base in
    let n = c.loop-b.n in
    let xs = c.args.digits.now in
    let i = c.loop-b.b-index in
    let x = get_or xs i 0 in
    let read = c.in_ok-digit.ensures.value in
    let below : digit_value x < base = subst (λ d. digit_value d < base) c.from.ensures read.0 in
    let same : c.in_ok-digit.digit ≡ digit_value x = read.1 ∙ ap digit_value c.from.ensures in
    let is : c.min-n.result ≡ min (n * base + digit_value x) 65536 = c.min-n.ensures ∙ ap (λ d. min (n * base + d) 65536) same in
    let more = at_drop_more (λ l. capped (digits_from base n l)) xs i 0 (omega arith) in
    let step = capped_more base n x (drop (i + 1) xs) (omega arith) below in
    (ap (λ m. capped (digits_from base m (drop (i + 1) xs))) is ∙ step ∙ sym more ∙ c.loop-b.invariant.0, omega arith)
