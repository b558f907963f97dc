-- One line more is one word sent more and one place less.
use Rattle.std.proofs.Common.{◌≡◌, ℕ, zero, suc, ◌+◌, ◌*◌, ◌/◌, ◌<◌, ◌≤◌, List, [], ◌∷◌, ◌++◌, length, take, drop, Ok, sym, ap, ◌∙◌, arith}
use Rattle.std.proofs.lemmas.List.{length-append, length-drop, length-take-le, take_at, append_assoc}
use Rattle.std.proofs.lemmas.Bool.{le-leb, lt-leb}
use Rattle.port.specs.Meaning.{Meaning, sending, sending_into}
use Rattle.text_port.specs.Lines.{line, words_in}
use Rattle.text_port.specs.Holding.{Held, front, means, over, writing}
use Rattle.text_port.proofs.Writes.{words_push}

-- a line stands behind what stood before it
pub take_over : (buffer : List ℕ) (at word : ℕ) → at + 5 ≤ length buffer → take (at + 5) (over buffer at word) ≡ take at buffer ++ line word
take_over buffer at word fits =
    let long : length (take at buffer ++ line word) ≡ at + 5 = omega (arith, length-append (take at buffer) (line word), length-take-le at buffer (omega arith)) in
    ap (take (at + 5)) (sym (append_assoc (take at buffer) (line word) (drop (at + 5) buffer)))
    ∙ take_at (take at buffer ++ line word) (drop (at + 5) buffer) (at + 5) long

pub length_over : (buffer : List ℕ) (at word : ℕ) → at + 5 ≤ length buffer → length (over buffer at word) ≡ length buffer
length_over buffer at word fits =
    omega (arith, length-append (take at buffer) (line word ++ drop (at + 5) buffer), length-append (line word) (drop (at + 5) buffer), length-take-le at buffer (omega arith), length-drop (at + 5) buffer)

-- one line more
abbrev pub with_line : Held → ℕ → Held
with_line h word = record { left = h.left; output = over h.output (5 * h.lines) word; lines = h.lines + 1 }

module _ (h : Held) (word : ℕ) where
  pub when_full : length h.output / 5 ≤ h.lines → writing h word ≡ h
  when_full full = let no : length h.output < 5 * h.lines + 5 = omega arith in rw (lt-leb (5 * h.lines + 5) (length h.output) no)

  module _ (room : h.lines < length h.output / 5) where
    fits : 5 * h.lines + 5 ≤ length h.output
    fits = omega arith

    pub when_room : writing h word ≡ with_line h word
    when_room = rw (le-leb (5 * h.lines + 5) (length h.output) fits)

    pub one_sent : word < 65536 → (means (with_line h word)).sent ≡ (means h).sent ++ word ∷ []
    one_sent small =
        let more : 5 * (h.lines + 1) ≡ 5 * h.lines + 5 = omega arith in
        ap (λ n. words_in (take n (over h.output (5 * h.lines) word))) more
        ∙ ap words_in (take_over h.output (5 * h.lines) word fits)
        ∙ words_push h.lines (front h) word (length-take-le (5 * h.lines) h.output (omega arith)) small

    pub one_less : (means (with_line h word)).free + 1 ≡ (means h).free
    one_less = let same = length_over h.output (5 * h.lines) word fits in omega arith

sending_some : (places left : ℕ) (m : Meaning) (word : ℕ) → left + 1 ≡ places
    → sending_into places m word ≡ record { answer = Ok tt; after = record { waiting = m.waiting; sent = m.sent ++ word ∷ []; free = left } }
sending_some zero left m word e = absurd (omega arith)
sending_some (suc places) left m word e = let same : places ≡ left = omega arith in rw same

pub send_after : (h : Held) (word : ℕ) → h.lines < length h.output / 5 → word < 65536 → (new : List ℕ) → new ≡ over h.output (5 * h.lines) word
    → means (record { left = h.left; output = new; lines = h.lines + 1 }) ≡ (sending (means h) word).after
send_after h word room small new is =
    rw is
    (ap (λ ws. record { waiting = (means h).waiting; sent = ws; free = (means (with_line h word)).free }) (one_sent h word room small)
    ∙ sym (ap (λ g. g.after) (sending_some (means h).free (means (with_line h word)).free (means h) word (one_less h word room))))
