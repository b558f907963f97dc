-- What a port means, and what taking a word, sending one and masking do to that meaning.
-- Assumes nothing.
use Rattle.std.specs.Prelude.{ℕ, zero, suc, List, [], ◌∷◌, ◌++◌, map, Ok, Err, Result, bit_xor}
use Rattle.port.specs.declared.Dry.{Dry}
use Rattle.port.specs.declared.Full.{Full}

-- the words waiting, first to last, the words sent, first to last, and how many more can be sent
pub record Meaning : Type 0 where
  pub waiting : List ℕ
  pub sent : List ℕ
  pub free : ℕ

-- what taking answers, and the meaning it leaves
pub record Taken : Type 0 where
  pub answer : Result ℕ Dry
  pub after : Meaning

-- taking where these words wait: the first of them, or dry and nothing altered
abbrev pub taking_from : List ℕ → Meaning → Taken
taking_from [] m = record { answer = Err (record {}); after = m }
taking_from (word ∷ rest) m =
    record { answer = Ok word; after = record { waiting = rest; sent = m.sent; free = m.free } }

-- taking a word
abbrev pub taking : Meaning → Taken
taking m = taking_from m.waiting m

-- what sending answers, and the meaning it leaves
pub record Given : Type 0 where
  pub answer : Result Unit Full
  pub after : Meaning

-- sending a word where so many places are free: to the end of the words sent, or full and nothing altered
abbrev pub sending_into : ℕ → Meaning → ℕ → Given
sending_into zero m word = record { answer = Err (record {}); after = m }
sending_into (suc left) m word =
    record { answer = Ok tt; after = record { waiting = m.waiting; sent = m.sent ++ word ∷ []; free = left } }

-- sending a word
abbrev pub sending : Meaning → ℕ → Given
sending m word = sending_into m.free m word

-- the meaning with each word waiting exclusive-or a mask
abbrev pub masked : ℕ → Meaning → Meaning
masked mask m =
    record { waiting = map (λ word. bit_xor word mask) m.waiting; sent = m.sent; free = m.free }
