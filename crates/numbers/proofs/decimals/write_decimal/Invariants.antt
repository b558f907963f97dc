use Rattle.std.proofs.Common.{◌≡◌, decimal, ◌^◌, ◌<◌, ◌++◌, length, drop}
use Rattle.numbers.proofs.decimals.write_decimal.Given as goal

abbrev pub invariant-loop-at : goal.invariant-loop-at
invariant-loop-at l = record {
  digits : decimal l.n ≡ decimal l.left ++ drop l.at l.places;
  some : l.at < 20 → 0 < l.left;
  few : l.left < 10 ^ l.at;
  size : length l.places ≡ 20;
}
