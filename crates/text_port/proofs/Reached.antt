-- Where a text port that was new stands after any moves.
use Rattle.std.proofs.Common.{◌≡◌, ℕ, ◌+◌, ◌*◌, ◌/◌, ◌<◌, ◌≤◌, List, [], ◌∷◌, ◌++◌, length, take, drop, sym, refl, ap, ◌∙◌, subst, ⊎_elim, arith}
use Rattle.std.proofs.lemmas.List.{append_assoc, append-nil, length-append, length-drop, length_push, take_at, drop_at, drop-drop, take_all}
use Rattle.std.proofs.lemmas.List.Concat.{flat_map-append}
use Rattle.std.proofs.lemmas.Bool.{cases_lt}
use Rattle.text_port.specs.Lines.{line, hex_lines}
use Rattle.text_port.specs.Holding.{Held, front, means, unused, taking_one, writing}
use Rattle.text_port.specs.Laws.{Move, taken, sent_word, after, sends, Sent, SendsLines}
use Rattle.text_port.proofs.Sends.{with_line, when_full, when_room, one_sent}

lines_push : (ws : List ℕ) (word : ℕ) → hex_lines (ws ++ word ∷ []) ≡ hex_lines ws ++ line word
lines_push ws word = flat_map-append line ws (word ∷ []) ∙ ap (λ l. hex_lines ws ++ l) (append-nil (line word))

lines_length : (ws : List ℕ) → length (hex_lines ws) ≡ 5 * length ws
lines_length [] = refl
lines_length (w ∷ ws) = let e = lines_length ws in omega (arith, length-append (line w) (hex_lines ws))

module _ (buffer : List ℕ) where
  -- these words are sent, their lines stand at the front, and the rest is the buffer's
  record Standing (ws : List ℕ) (h : Held) : Type 0 where
    count : h.lines ≡ length ws
    fits : 5 * length ws ≤ length buffer
    out : h.output ≡ hex_lines ws ++ drop (5 * length ws) buffer
    sent : (means h).sent ≡ ws

  module _ (ws : List ℕ) (h : Held) (s : Standing ws h) where
    same_size : length h.output ≡ length buffer
    same_size =
        let f = s.fits in
        omega (arith, ap length s.out, length-append (hex_lines ws) (drop (5 * length ws) buffer), lines_length ws, length-drop (5 * length ws) buffer)

    front_is : front h ≡ hex_lines ws
    front_is =
        ap (λ out. take (5 * h.lines) out) s.out
        ∙ ap (λ n. take (5 * n) (hex_lines ws ++ drop (5 * length ws) buffer)) s.count
        ∙ take_at (hex_lines ws) (drop (5 * length ws) buffer) (5 * length ws) (lines_length ws)

    back_is : drop (5 * h.lines) h.output ≡ drop (5 * h.lines) buffer
    back_is =
        ap (λ out. drop (5 * h.lines) out) s.out
        ∙ ap (λ n. drop (5 * n) (hex_lines ws ++ drop (5 * length ws) buffer)) s.count
        ∙ drop_at (hex_lines ws) (drop (5 * length ws) buffer) (5 * length ws) (lines_length ws)
        ∙ ap (λ n. drop (5 * n) buffer) (sym s.count)

    still : Standing ws (taking_one h)
    still = record { count = s.count; fits = s.fits; out = s.out; sent = s.sent }

    one_more : (word : ℕ) → word < 65536 → h.lines < length h.output / 5 → Standing (ws ++ word ∷ []) (with_line h word)
    one_more word small room =
        let size = same_size in
        let more = length_push ws word in
        let num = s.count in
        let at : 5 * h.lines + 5 ≡ 5 * length (ws ++ word ∷ []) = omega arith in
        record {
          count = omega arith;
          fits = omega arith;
          out =
              ap (λ bs. bs ++ (line word ++ drop (5 * h.lines + 5) h.output)) front_is
              ∙ ap (λ bs. hex_lines ws ++ (line word ++ bs)) (
              sym (drop-drop 5 (5 * h.lines) h.output)
              ∙ ap (drop 5) back_is
              ∙ drop-drop 5 (5 * h.lines) buffer
              ∙ ap (λ n. drop n buffer) at
              )
              ∙ sym (append_assoc (hex_lines ws) (line word) (drop (5 * length (ws ++ word ∷ [])) buffer))
              ∙ ap (λ bs. bs ++ drop (5 * length (ws ++ word ∷ [])) buffer) (sym (lines_push ws word));
          sent = one_sent h word room small ∙ ap (λ us. us ++ word ∷ []) s.sent;
        }

    -- with no place left, the words given before are the words sent, whatever is given then
    at_most : (more : List ℕ) → length h.output / 5 ≤ h.lines → take (length buffer / 5) (ws ++ more) ≡ ws
    at_most more full =
        let size = same_size in
        let num = s.count in
        let f = s.fits in
        take_at ws more (length buffer / 5) (omega arith)

  abbrev kept : List ℕ → List ℕ
  kept words = take (length buffer / 5) words

  reached : (moves : List Move) (ws : List ℕ) (h : Held) → Standing ws h → Standing (kept (ws ++ sends moves)) (after h moves)
  reached [] ws h s =
      let f = s.fits in
      let e : kept (ws ++ []) ≡ ws = ap kept (append-nil ws) ∙ take_all (length buffer / 5) ws (omega arith) in
      subst (λ us. Standing us h) (sym e) s
  reached (taken ∷ moves) ws h s = reached moves ws (taking_one h) (still ws h s)
  reached (sent_word word small ∷ moves) ws h s =
      ⊎_elim
      (λ room.
      subst (λ us. Standing (kept us) (after (writing h word) moves)) (append_assoc ws (word ∷ []) (sends moves))
      (reached moves (ws ++ word ∷ []) (writing h word) (subst (Standing (ws ++ word ∷ [])) (sym (when_room h word room)) (one_more ws h s word small room))))
      (λ full.
      subst (λ us. Standing us (after (writing h word) moves)) (at_most ws h s (sends moves) full ∙ sym (at_most ws h s (word ∷ sends moves) full))
      (reached moves ws (writing h word) (subst (Standing ws) (sym (when_full h word full)) s)))
      (cases_lt h.lines (length h.output / 5))

  begun : (text : List ℕ) → Standing [] (unused text buffer)
  begun text = record { count = refl; fits = omega arith; out = refl; sent = refl }

  seen : (ws : List ℕ) (h : Held) → Standing ws h → (words : List ℕ) → ws ≡ kept words → Sent buffer words h
  seen ws h s words is = record {
    sent = s.sent ∙ is;
    lines = front_is ws h s ∙ ap hex_lines (sym s.sent);
    count = s.count ∙ ap length (sym s.sent);
    behind = back_is ws h s;
    size = same_size ws h s;
  }

pub sends_lines : SendsLines
sends_lines text buffer moves =
    seen buffer (take (length buffer / 5) (sends moves)) (after (unused text buffer) moves) (reached buffer moves [] (unused text buffer) (begun buffer text)) (sends moves) refl
