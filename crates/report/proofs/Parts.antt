-- Texts put one behind another.
use Rattle.std.proofs.Common.{◌≡◌, ℕ, ◌+◌, ◌<◌, List, ◌++◌, length, Ok, Err, Result, ap, ◌∙◌, arith}
use Rattle.std.proofs.lemmas.List.{length-append}
use Rattle.buffers.specs.declared.Short.{Short}
use Rattle.buffers.specs.Buffers.{overlaid}
use Rattle.buffers.specs.Pages.{Held}
use Rattle.buffers.proofs.Laid.{length_overlaid, overlaid_twice}
use Rattle.report.specs.Adding.{Stands, Added}

-- a second text behind the first is both joined
pub joined : (first second : List ℕ) (before middle after : Held) (r : Result Unit Short) → Stands first before middle → Added second middle r after → Added (first ++ second) before r after
joined first second before middle after (Err short) s h =
    let long : length (overlaid before.buffer before.len first) ≡ length before.buffer = length_overlaid before.buffer before.len first s.room in
    omega (arith, s.len, ap length s.buffer, length-append first second)
joined first second before middle after (Ok done) s h =
    let long : length (overlaid before.buffer before.len first) ≡ length before.buffer = length_overlaid before.buffer before.len first s.room in
    record {
      room = omega (arith, s.len, ap length s.buffer, length-append first second, h.room);
      len = omega (arith, s.len, h.len, length-append first second);
      buffer =
          h.buffer ∙ ap (λ b. overlaid b middle.len second) s.buffer ∙ ap (λ k. overlaid (overlaid before.buffer before.len first) k second) s.len
          ∙ overlaid_twice before.buffer before.len first second (omega (arith, s.room));
    }

-- where the first has no room, neither have both
pub too_long : (first second : List ℕ) (before : Held) → length before.buffer < before.len + length first → length before.buffer < before.len + length (first ++ second)
too_long first second before h = omega (arith, length-append first second)
