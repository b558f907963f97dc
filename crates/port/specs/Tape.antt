-- What a tape holds, what that means as a port, and what reading a word and writing one do to it.
-- Assumes nothing.
use Rattle.std.specs.Prelude.{ℕ, ◌+◌, ◌-◌, cond, List, [], length, take, drop, nat_lt, slice_set}
use Rattle.port.specs.Meaning.{Meaning}
use Rattle.port.specs.declared.tapes.Tape.{Tape}

-- the words not read yet, the buffer and how many of its places are written
pub record Held : Type 0 where
  pub input : List ℕ
  pub output : List ℕ
  pub count : ℕ

-- what a tape holds
abbrev pub held : Tape → Held
held tape = record { input = tape.input.now; output = tape.output.now; count = tape.count }

-- the words not read yet wait, the places written are the words sent, and the places behind them are free
abbrev pub means : Held → Meaning
means h = record { waiting = h.input; sent = take h.count h.output; free = length h.output - h.count }

-- nothing read and nothing written
abbrev pub unused : List ℕ → List ℕ → Held
unused words buffer = record { input = words; output = buffer; count = 0 }

-- every word waits, none is sent, and every place of the buffer is free
abbrev pub fresh : List ℕ → List ℕ → Meaning
fresh words buffer = record { waiting = words; sent = []; free = length buffer }

-- one word more read, if one is left; the buffer as it was
abbrev pub reading : Held → Held
reading h = record { input = drop 1 h.input; output = h.output; count = h.count }

-- a word written to the first place not written yet, if there is one; every other place as it was
abbrev pub writing : Held → ℕ → Held
writing h word =
    cond (nat_lt h.count (length h.output))
    (record { input = h.input; output = slice_set h.output h.count word; count = h.count + 1 }) h
