-- What a text port holds, what that means as a port, and what taking a word and sending one do to it.
-- Assumes nothing.
use Rattle.std.specs.Prelude.{ℕ, ◌+◌, ◌-◌, ◌*◌, ◌/◌, cond, List, [], ◌∷◌, length, take, Some, None, Ok, Err, Option, Result, nat_le}
use Rattle.std.specs.List.{splice}
use Rattle.numbers.specs.Reading.{reading}
use Rattle.port.specs.Meaning.{Meaning}
use Rattle.text_port.specs.Tokens.{tokens, words_of}
use Rattle.text_port.specs.Checking.{checking}
use Rattle.text_port.specs.Lines.{line, words_in}
use Rattle.text_port.specs.declared.checks.Refusal.{Refusal}
use Rattle.text_port.specs.declared.ports.TextPort.{TextPort}

-- the tokens not taken yet, the buffer, and how many lines are written at its front
pub record Held : Type 0 where
  pub left : List (List ℕ)
  pub output : List ℕ
  pub lines : ℕ

-- what a text port holds
abbrev pub held : TextPort → Held
held port =
    record { left = tokens port.tokens.rest.now; output = port.output.now; lines = port.lines }

-- the bytes of the lines written
abbrev pub front : Held → List ℕ
front h = take (5 * h.lines) h.output

-- the words of the tokens left wait, those of the lines are sent, and each five bytes behind the lines are a free place
abbrev pub means : Held → Meaning
means h =
    record { waiting = words_of h.left; sent = words_in (front h); free = (length h.output - 5 * h.lines) / 5 }

-- all the tokens where the check's answer accepts, and none where it refuses
abbrev pub kept_if : Result Unit Refusal → List (List ℕ) → List (List ℕ)
kept_if (Ok done) ts = ts
kept_if (Err refusal) ts = []

-- all the tokens of an accepted text, and none of a refused one
abbrev pub accepted : List ℕ → List (List ℕ)
accepted text = kept_if (checking text) (tokens text)

-- nothing taken and nothing written
abbrev pub unused : List ℕ → List ℕ → Held
unused text buffer = record { left = accepted text; output = buffer; lines = 0 }

-- the words of an accepted text wait, none is sent, and each five bytes of the buffer are a free place
abbrev pub fresh : List ℕ → List ℕ → Meaning
fresh text buffer = record { waiting = words_of (accepted text); sent = []; free = length buffer / 5 }

-- without a token that was read to a word; a token that is none stays
abbrev pub without : Option ℕ → List ℕ → List (List ℕ) → List (List ℕ)
without None t ts = t ∷ ts
without (Some word) t ts = ts

-- without the first token, where that is a 16-bit number
abbrev pub less_one : List (List ℕ) → List (List ℕ)
less_one [] = []
less_one (t ∷ ts) = without (reading 16 t) t ts

-- one token less, if its word can be taken; the buffer and its lines as they were
abbrev pub taking_one : Held → Held
taking_one h = record { left = less_one h.left; output = h.output; lines = h.lines }

-- a line written over the five bytes from a place on
abbrev pub over : List ℕ → ℕ → ℕ → List ℕ
over buffer at word = splice buffer at (at + 5) (line word)

-- one line more behind the lines, if five bytes are left; every other byte as it was, and the tokens too
abbrev pub writing : Held → ℕ → Held
writing h word =
    cond (nat_le (5 * h.lines + 5) (length h.output))
    (record { left = h.left; output = over h.output (5 * h.lines) word; lines = h.lines + 1 }) h
