-- The laws of polarity.
use Rattle.std.proofs.Common.{◌≡◌, ℕ, zero, suc, List, [], ◌∷◌, map, refl, ap, ◌∙◌}
use lib.Bits.{bit_xor, xor_assoc, xor_self, xor_zero_r}
use Rattle.port.specs.Meaning.{Meaning, taking_from, sending_into, masked}
use Rattle.port.specs.Laws.{PolarityLaws, masked_taken, masked_given}

-- two masks over each word are one
words_joined : (a b : ℕ) (words : List ℕ)
    → map (λ word. bit_xor word b) (map (λ word. bit_xor word a) words) ≡ map (λ word. bit_xor word (bit_xor a b)) words
words_joined a b [] = refl
words_joined a b (word ∷ words) = cc (xor_assoc word a b, words_joined a b words)

-- the mask 0 over each word is none
words_plain : (words : List ℕ) → map (λ word. bit_xor word 0) words ≡ words
words_plain [] = refl
words_plain (word ∷ words) = cc (xor_zero_r word, words_plain words)

-- the meaning with other words waiting
abbrev with_waiting : Meaning → List ℕ → Meaning
with_waiting m words = record { waiting = words; sent = m.sent; free = m.free }

masks_joined : (a b : ℕ) (m : Meaning) → masked b (masked a m) ≡ masked (bit_xor a b) m
masks_joined a b m = ap (with_waiting m) (words_joined a b m.waiting)

masks_plain : (m : Meaning) → masked 0 m ≡ m
masks_plain m = ap (with_waiting m) (words_plain m.waiting)

masks_undone : (mask : ℕ) (m : Meaning) → masked mask (masked mask m) ≡ m
masks_undone mask m = masks_joined mask mask m ∙ ap (λ k. masked k m) (xor_self mask) ∙ masks_plain m

taking_masked : (mask : ℕ) (words : List ℕ) (m : Meaning)
    → taking_from (map (λ word. bit_xor word mask) words) (masked mask m) ≡ masked_taken mask (taking_from words m)
taking_masked mask [] m = refl
taking_masked mask (word ∷ words) m = refl

sending_masked : (mask places : ℕ) (m : Meaning) (word : ℕ)
    → sending_into places (masked mask m) word ≡ masked_given mask (sending_into places m word)
sending_masked mask zero m word = refl
sending_masked mask (suc left) m word = refl

pub polarity_laws : PolarityLaws
polarity_laws =
    record {
      joined = masks_joined;
      undone = masks_undone;
      plain = masks_plain;
      takes = λ mask m. taking_masked mask m.waiting m;
      sends = λ mask m word. sending_masked mask m.free m word;
    }
