-- What a page holds, and what appending a text to one answers and leaves. Assumes nothing.
use Rattle.std.specs.Prelude.{ℕ, ◌+◌, cond, List, length, take, Ok, Err, Result, min, nat_lt}
use Rattle.std.specs.Borrow.{GName}
use Rattle.buffers.specs.declared.Short.{Short}
use Rattle.buffers.specs.declared.Page.{Page}
use Rattle.buffers.specs.Buffers.{overlaid}

-- a buffer, and how many bytes of text stand at its front
pub record Held : Type 0 where
  pub buffer : List ℕ
  pub len : ℕ

-- what a page holds
abbrev pub held : Page → Held
held page = record { buffer = page.buffer.now; len = page.len }

-- the text at the front
abbrev pub text_of : Held → List ℕ
text_of page = take page.len page.buffer

-- no text yet
abbrev pub unwritten : List ℕ → Held
unwritten buffer = record { buffer = buffer; len = 0 }

-- a text that stands there already: the first so many bytes, or all of them
abbrev pub written : List ℕ → ℕ → Held
written buffer len = record { buffer = buffer; len = min len (length buffer) }

-- what appending answers, and what the page then holds
pub record Appended : Type 0 where
  pub answer : Result Unit Short
  pub after : Held

-- a text behind the text of a page, all else as it was; or a refusal and the page as it was where it does not fit
abbrev pub appending : List ℕ → Held → Appended
appending text page =
    cond (nat_lt (length page.buffer) (page.len + length text)) (record { answer = Err (record {}); after = page })
    (record { answer = Ok tt; after = record { buffer = overlaid page.buffer page.len text; len = page.len + length text } })

-- the loan that a page is written to, by its ghost name
abbrev pub loan_of : Page → GName
loan_of page = page.buffer.ghost_name
