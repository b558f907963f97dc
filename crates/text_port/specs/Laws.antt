-- What the tokens of a text are, and what a text port has written after any takes and sends. Assumes nothing.
use Rattle.std.specs.Prelude.{◌≡◌, ℕ, ◌*◌, ◌/◌, ◌<◌, Bool, true, false, List, [], ◌∷◌, ◌++◌, length, take, drop}
use Rattle.pieces.specs.Pieces as pieces
use Rattle.pieces.specs.Laws as of_pieces
use Rattle.text_port.specs.Tokens.{gap, blanks, tokens}
use Rattle.text_port.specs.Lines.{hex_lines}
use Rattle.text_port.specs.Holding.{Held, front, means, unused, taking_one, writing}

-- each byte is a gap, or each is none
abbrev pub Each : Bool → List ℕ → Type 0
Each is text = of_pieces.Each (λ s c. s) (λ s c. gap c) is blanks text

-- whether a text begins with a byte of a token
abbrev pub begun : List ℕ → Bool
begun text = pieces.begun (λ s c. s) (λ s c. gap c) blanks text

-- these two say of every text what its tokens are
pub record TokenLaws : Type 0 where
  -- gaps alone have no token
  pub none : (gaps : List ℕ) → Each true gaps → tokens gaps ≡ []
  -- bytes that are no gaps are one token, behind any gaps and before a gap or the text's end
  pub first : (gaps : List ℕ) (c : ℕ) (cs rest : List ℕ) → Each true gaps → Each false (c ∷ cs) → begun rest ≡ false
      → tokens (gaps ++ ((c ∷ cs) ++ rest)) ≡ (c ∷ cs) ∷ tokens rest

-- a take, or a send of a word
pub data Move : Type 0 where
  taken : Move
  sent_word : (word : ℕ) → word < 65536 → Move

-- what is held after one move
abbrev pub moved : Held → Move → Held
moved h taken = taking_one h
moved h (sent_word word fits) = writing h word

-- what is held after moves, first to last
abbrev pub after : Held → List Move → Held
after h [] = h
after h (m ∷ ms) = after (moved h m) ms

-- a word before others, if a move sends one
abbrev pub sending_of : Move → List ℕ → List ℕ
sending_of taken words = words
sending_of (sent_word word fits) words = word ∷ words

-- the words of the sends, first to last
abbrev pub sends : List Move → List ℕ
sends [] = []
sends (m ∷ ms) = sending_of m (sends ms)

-- what a buffer is after words were sent to a port that was new over it
pub record Sent (buffer : List ℕ) (words : List ℕ) (h : Held) : Type 0 where
  -- the words sent are the first of those given, as many as there are places
  pub sent : (means h).sent ≡ take (length buffer / 5) words
  -- the lines written are theirs, in order, at the front
  pub lines : front h ≡ hex_lines (means h).sent
  -- one line for each
  pub count : h.lines ≡ length (means h).sent
  -- the bytes behind are as they were
  pub behind : drop (5 * h.lines) h.output ≡ drop (5 * h.lines) buffer
  -- and the buffer is as long as it was
  pub size : length h.output ≡ length buffer

-- so it is for every text, every buffer and all moves
abbrev pub SendsLines : Type 0
SendsLines = (text buffer : List ℕ) (moves : List Move) → Sent buffer (sends moves) (after (unused text buffer) moves)
