use Rattle.std.proofs.Common.{◌≡◌, ◌+◌, ◌≤◌, length}
use Rattle.std.specs.Iterator.Adapters.{enumerate_source, enumerate_count}
use Rattle.faults.specs.Chains.{under, gathered}
use Rattle.lines.specs.Lines.{lines}
use Rattle.source.specs.Reading.{answers, stated_in}
use Rattle.source.proofs.reading.count_statements.Given as goal

abbrev pub invariant-loop-i : goal.invariant-loop-i
invariant-loop-i l =
    let left = (enumerate_source l.i-iterator).rest.now in
    (under (λ ss. length (stated_in ss) + l.count) (gathered (answers (enumerate_count l.i-iterator + 1) (lines left))) ≡ under (λ ss. length (stated_in ss)) (gathered (answers 1 (lines l.source))))
    × (enumerate_count l.i-iterator + length left ≤ 65536)
    × (l.count + length left ≤ 65536)
