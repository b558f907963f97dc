-- The laws of polarity: masks join, undo themselves, and commute with taking and sending.
-- Assumes nothing.
use Rattle.std.specs.Prelude.{◌≡◌, ℕ, Ok, Err, Result, bit_xor}
use Rattle.port.specs.declared.Dry.{Dry}
use Rattle.port.specs.Meaning.{Meaning, Taken, Given, taking, sending, masked}

-- an answer with the word in it exclusive-or a mask
abbrev pub masked_answer : ℕ → Result ℕ Dry → Result ℕ Dry
masked_answer mask (Ok word) = Ok (bit_xor word mask)
masked_answer mask (Err dry) = Err dry

-- what taking gives, seen through a mask
abbrev pub masked_taken : ℕ → Taken → Taken
masked_taken mask t = record { answer = masked_answer mask t.answer; after = masked mask t.after }

-- what sending gives, seen through a mask: the answer as it is
abbrev pub masked_given : ℕ → Given → Given
masked_given mask g = record { answer = g.answer; after = masked mask g.after }

-- what holds of every mask and every meaning
pub record PolarityLaws : Type 0 where
  -- a mask over a mask is their exclusive-or
  pub joined : (first second : ℕ) (m : Meaning) → masked second (masked first m) ≡ masked (bit_xor first second) m
  -- a mask over itself alters nothing
  pub undone : (mask : ℕ) (m : Meaning) → masked mask (masked mask m) ≡ m
  -- the mask 0 alters nothing
  pub plain : (m : Meaning) → masked 0 m ≡ m
  -- taking through a mask answers the masked word and leaves the masked rest
  pub takes : (mask : ℕ) (m : Meaning) → taking (masked mask m) ≡ masked_taken mask (taking m)
  -- sending through a mask is sending below
  pub sends : (mask : ℕ) (m : Meaning) (word : ℕ) → sending (masked mask m) word ≡ masked_given mask (sending m word)
