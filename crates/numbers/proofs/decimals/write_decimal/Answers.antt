use Rattle.std.proofs.Common.{◌≡◌, ◌+◌, ◌-◌, sym, ◌∙◌, arith}
use Rattle.std.proofs.lemmas.List.{length-set}
use Rattle.numbers.proofs.Places.{fewer, last_place, one_place}
use Rattle.numbers.proofs.decimals.write_decimal.Goals as goal

pub returns-then-left-eq0-clause-digits : goal.returns-then-left-eq0-clause-digits
returns-then-left-eq0-clause-digits c =
    let at = c.loop-at.at - 1 in
    let next : at + 1 ≡ c.loop-at.at = omega arith in
    let so_far = rw (← next) at c.loop-at.invariant.digits in
    sym (last_place c.args.n c.loop-at.left at c.loop-at.places so_far (omega arith) (omega arith))

pub loop-at-preserved : goal.loop-at-preserved
loop-at-preserved c =
    let at = c.loop-at.at - 1 in
    let next : at + 1 ≡ c.loop-at.at = omega arith in
    let so_far = rw (← next) at c.loop-at.invariant.digits in
    let few = rw (← next) at c.loop-at.invariant.few in
    record {
      digits = one_place c.args.n c.loop-at.left at c.loop-at.places so_far (omega arith) (omega arith) (omega arith);
      some = omega arith;
      few = fewer c.loop-at.left at few;
      size = length-set _ _ _ ∙ c.loop-at.invariant.size;
    }
