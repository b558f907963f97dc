-- Lines, the words in them, and one line more.
use Rattle.std.proofs.Common.{◌≡◌, ℕ, zero, suc, ◌*◌, ◌/◌, ◌%◌, ◌<◌, List, [], ◌∷◌, ◌++◌, length, ap, arith}
use Rattle.std.specs.Str.Parse.{digits_value}
use Rattle.std.proofs.lemmas.Str.{digit_value-digit_char}
use Rattle.numbers.specs.Hex.{hex4}
use Rattle.text_port.specs.Lines.{line, words_in}

hex_value : (w : ℕ) → w < 65536 → digits_value 16 (hex4 w) ≡ w
hex_value w h =
    let a = digit_value-digit_char (w / 4096) (omega arith) in
    let b = digit_value-digit_char (w / 256 % 16) (omega arith) in
    let c = digit_value-digit_char (w / 16 % 16) (omega arith) in
    let d = digit_value-digit_char (w % 16) (omega arith) in
    simp (a, b, c, d) (omega arith)

pub words_push : (k : ℕ) (xs : List ℕ) (w : ℕ) → length xs ≡ 5 * k → w < 65536 → words_in (xs ++ line w) ≡ words_in xs ++ w ∷ []
words_push zero [] w e h = ap (λ v. v ∷ []) (hex_value w h)
words_push zero (x ∷ xs) w e h = absurd (omega arith)
words_push (suc k) [] w e h = absurd (omega arith)
words_push (suc k) (a ∷ []) w e h = absurd (omega arith)
words_push (suc k) (a ∷ b ∷ []) w e h = absurd (omega arith)
words_push (suc k) (a ∷ b ∷ c ∷ []) w e h = absurd (omega arith)
words_push (suc k) (a ∷ b ∷ c ∷ d ∷ []) w e h = absurd (omega arith)
words_push (suc k) (a ∷ b ∷ c ∷ d ∷ l ∷ rest) w e h =
    ap (λ ws. digits_value 16 (a ∷ b ∷ c ∷ d ∷ []) ∷ ws) (words_push k rest w (omega arith) h)
