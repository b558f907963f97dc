-- Texts in buffers: one behind another, and zeros behind the last.
use Rattle.std.proofs.Common.{◌≡◌, ℕ, ◌+◌, ◌-◌, ◌≤◌, List, [], ◌++◌, length, take, drop, sym, refl, ap, ◌∙◌, arith}
use native.Mathlib.Nat.{sub-zero}
use borrow.Rule.Slice.PartMut.{put_mid}
use Rattle.std.proofs.lemmas.List.{append_assoc, length-append, length-take-le, length-drop, length-replicate, take_at, drop_at, drop-drop, drop-replicate}
use Rattle.buffers.specs.Buffers.{blank, padded, overlaid}

-- a copy into a part of a buffer, as the checker has it
pub overlaid_from_copy : (at size : ℕ) (buffer part text : List ℕ)
    → part ≡ text
    → size ≡ length text
    → put_mid at size buffer part ≡ overlaid buffer at text
overlaid_from_copy at size buffer part text same long =
    ap (λ p. take at buffer ++ (p ++ drop size (drop at buffer))) same
    ∙ ap (λ r. take at buffer ++ (text ++ r)) (drop-drop size at buffer ∙ ap (λ k. drop (at + k) buffer) long)

-- a text keeps the buffer's length
pub length_overlaid : (buffer : List ℕ) (at : ℕ) (text : List ℕ)
    → at + length text ≤ length buffer
    → length (overlaid buffer at text) ≡ length buffer
length_overlaid buffer at text h =
    let before : length (take at buffer) ≡ at = length-take-le at buffer (omega arith) in
    simp (length-append, length-drop) (omega (arith, before))

-- a text behind a front
pub overlaid_behind : (front rest text : List ℕ)
    → overlaid (front ++ rest) (length front) text ≡ (front ++ text) ++ drop (length text) rest
overlaid_behind front rest text =
    ap (λ f. f ++ (text ++ drop (length front + length text) (front ++ rest))) (take_at front rest _ refl)
    ∙ ap (λ r. front ++ (text ++ r)) (sym (drop-drop (length text) (length front) (front ++ rest)) ∙ ap (drop (length text)) (drop_at front rest _ refl))
    ∙ sym (append_assoc front text (drop (length text) rest))

-- a text behind a text is both of them joined
pub overlaid_twice : (buffer : List ℕ) (at : ℕ) (first second : List ℕ)
    → at ≤ length buffer
    → overlaid (overlaid buffer at first) (at + length first) second ≡ overlaid buffer at (first ++ second)
overlaid_twice buffer at first second h =
    let front : List ℕ = take at buffer ++ first in
    let rest : List ℕ = drop (at + length first) buffer in
    let long : length front ≡ at + length first = simp length-append (omega (arith, length-take-le at buffer h)) in
    let end : at + length first + length second ≡ at + length (first ++ second) = simp length-append (omega arith) in
    ap (λ b. overlaid b (at + length first) second) (sym (append_assoc (take at buffer) first rest))
    ∙ ap (λ k. overlaid (front ++ rest) k second) (sym long)
    ∙ overlaid_behind front rest second
    ∙ ap (λ r. (front ++ second) ++ r) (drop-drop (length second) (at + length first) buffer ∙ ap (λ k. drop k buffer) end)
    ∙ simp append_assoc

-- the room behind a front and a text
left_behind : (front text : List ℕ) (n : ℕ) → n - length front - length text ≡ n - length (front ++ text)
left_behind front text n = simp length-append (omega arith)

-- a text behind a front with zeros behind it
pub overlaid_padded : (front text : List ℕ) (n : ℕ)
    → overlaid (padded front n) (length front) text ≡ padded (front ++ text) n
overlaid_padded front text n =
    overlaid_behind front (blank (n - length front)) text
    ∙ ap (λ r. (front ++ text) ++ r) (drop-replicate (length text) (n - length front) 0)
    ∙ ap (λ k. (front ++ text) ++ blank k) (left_behind front text n)

-- a text at the front of zeros
pub overlaid_blank : (text : List ℕ) (n : ℕ) → overlaid (blank n) 0 text ≡ padded text n
overlaid_blank text n = ap (λ k. overlaid (blank k) 0 text) (sym (sub-zero n)) ∙ overlaid_padded [] text n

-- a list with zeros behind it has the length asked for
pub length_padded : (front : List ℕ) (n : ℕ) → length front ≤ n → length (padded front n) ≡ n
length_padded front n h = simp (length-append, length-replicate) (omega arith)

-- a list over the front of zeros
pub padded_over : (front : List ℕ) (n count : ℕ) → count ≡ length front → front ++ drop count (blank n) ≡ padded front n
padded_over front n count long = ap (λ rest. front ++ rest) (drop-replicate count n 0) ∙ ap (λ k. front ++ blank (n - k)) long

-- the list stands at the front
pub take_padded : (front : List ℕ) (n : ℕ) → take (length front) (padded front n) ≡ front
take_padded front n = take_at front _ _ refl
