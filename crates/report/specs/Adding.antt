-- A text put on a page part by part. Assumes nothing.
use Rattle.std.specs.Prelude.{◌≡◌, ◌+◌, ℕ, ◌<◌, ◌≤◌, List, length, Result, MatchResult}
use Rattle.buffers.specs.declared.Short.{Short}
use Rattle.buffers.specs.Buffers.{overlaid}
use Rattle.buffers.specs.Pages.{Held}

-- the text stands behind the page's text, all else as it was
pub record Stands (text : List ℕ) (before : Held) (after : Held) : Type 0 where
  pub room : before.len + length text ≤ length before.buffer
  pub len : after.len ≡ before.len + length text
  pub buffer : after.buffer ≡ overlaid before.buffer before.len text

-- or there is no room for the whole of it
abbrev pub Added : List ℕ → Held → Result Unit Short → Held → Type 0
Added text before answer after = MatchResult answer (λ _. Stands text before after) (λ _. length before.buffer < before.len + length text)
