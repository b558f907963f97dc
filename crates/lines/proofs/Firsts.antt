-- The first line of a source, and the text behind it.
use Rattle.std.proofs.Common.{◌≡◌, ℕ, suc, ◌+◌, ◌<◌, ◌≤◌, min, Bool, true, cond, not, eqb, nat_lt, List, [], ◌∷◌, length, take, drop, Some, None, sym, refl, ap, ◌∙◌, ⊎_elim, arith, length-drop}
use Rattle.std.proofs.lemmas.Bool.{cases_Bool, cases_lt}
use Rattle.std.proofs.lemmas.List.{drop_all}
use Rattle.std.proofs.lemmas.List.Sums.{prefix_len-le-length}
use Rattle.std.proofs.lemmas.Bool.Decides.{nat_tests}
use Rattle.std.specs.List.{position, position_or_len}
use Rattle.std.specs.Option.{unwrap_or}
use Rattle.pieces.specs.Pieces.{joined}
use Rattle.lines.specs.Lines.{lines}

-- whether a byte ends a line
abbrev pub ends_line : ℕ → Bool
ends_line c = eqb c 10

-- the bytes before the first line end
abbrev pub line_len : List ℕ → ℕ
line_len xs = position_or_len ends_line xs

first_line : (xs : List ℕ) (n : ℕ) → 0 < length xs → n ≡ line_len xs → lines xs ≡ take n xs ∷ lines (drop (suc n) xs)
first_line [] n h is = absurd (omega arith)
first_line (c ∷ []) n h is = ⊎_elim (λ e. rw (e, rw e at is)) (λ e. rw (e, rw e at is)) (cases_Bool (eqb c 10))
first_line (c ∷ d ∷ cs) n h is =
    ⊎_elim
    (λ e. rw (e, rw e at is))
    (λ e. let same : n ≡ suc (line_len (d ∷ cs)) = omega (arith, rw e at is) in rw same (rw e (ap (joined c true) (first_line (d ∷ cs) (line_len (d ∷ cs)) (omega arith) refl))))
    (cases_Bool (eqb c 10))

line_end : (n size : ℕ) → n ≤ size → unwrap_or (cond (nat_lt n size) (Some n) None) size ≡ n
line_end n size le = grind (arith, nat_tests)

-- the first line, and the text behind it and its end, which the last line may lack
pub cut_line : (xs rest : List ℕ) (n m : ℕ) → 0 < length xs → n ≡ unwrap_or (position ends_line xs) (length xs) → m ≡ min (length xs) (n + 1) → rest ≡ drop m xs
    → (lines xs ≡ take n xs ∷ lines rest) × (length rest < length xs)
cut_line xs rest n m h e k r =
    let short = prefix_len-le-length (λ c. not (ends_line c)) xs in
    let same : n ≡ line_len xs = e ∙ line_end (line_len xs) (length xs) short in
    let behind : rest ≡ drop (suc n) xs = r ∙ ⊎_elim (λ lt. let is : m ≡ suc n = omega arith in ap (λ j. drop j xs) is) (λ le. drop_all m xs (omega arith) ∙ sym (drop_all (suc n) xs (omega arith))) (cases_lt n (length xs)) in
    (rw behind (first_line xs n h same), omega (arith, ap length r, length-drop m xs))
