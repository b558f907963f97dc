-- Words of whole numbers: their sums, differences and complements.
use Rattle.std.proofs.Common.{ℕ, ◌+◌, ◌-◌, ◌/◌, ◌%◌, ◌<◌, Bool, true, false, cond, ltb, ℤ, pos, ◌+ℤ◌, ◌-ℤ◌, neg_ℤ, arith}
use Rattle.std.proofs.lemmas.Int.{ints}
use Rattle.words.specs.declared.Imm.{Imm}
use Rattle.words.specs.Immediates.{extended}
use Rattle.effects.specs.Whole.{value, Represents, RepresentedOnce, SignedWord}

pub of_signed : SignedWord
of_signed w h = by (ltb w 32768)
  where
    by : (b : Bool) → Represents w (cond b (pos w) (pos w -ℤ pos 65536))
    by true = record { word = h; over = 0; under = 0; apart = omega (arith, ints) }
    by false = record { word = h; over = 1; under = 0; apart = omega (arith, ints) }

pub of_extended : {MAX : ℕ} (i : Imm MAX) → MAX < 65536 → Represents (extended i) (value i)
of_extended {MAX} i h = by (ltb i.bits ((MAX + 1) / 2))
  where
    by : (b : Bool) → Represents (cond b i.bits (i.bits + (65535 - MAX))) (cond b (pos i.bits) (pos i.bits -ℤ pos (MAX + 1)))
    by true = record { word = omega arith; over = 0; under = 0; apart = omega (arith, ints) }
    by false = record { word = omega arith; over = 1; under = 0; apart = omega (arith, ints) }

pub of_wrapped : (n : ℕ) → Represents (n % 65536) (pos n)
of_wrapped n = record { word = omega arith; over = 0; under = n / 65536; apart = omega (arith, ints) }

pub sum_is : {a b : ℕ} {x y : ℤ} → Represents a x → Represents b y → Represents ((a + b) % 65536) (x +ℤ y)
sum_is {a} {b} p q = record {
  word = omega arith;
  over = p.over + q.over;
  under = p.under + q.under + (a + b) / 65536;
  apart = omega (arith, ints);
}

pub difference_is : {a b : ℕ} {x y : ℤ} → Represents a x → Represents b y → Represents ((a + (65536 - b)) % 65536) (x -ℤ y)
difference_is {a} {b} p q = record {
  word = omega arith;
  over = p.over + q.under + 1;
  under = p.under + q.over + (a + (65536 - b)) / 65536;
  apart = omega (arith, ints);
}

pub complement_is : {a : ℕ} {x : ℤ} → Represents a x → Represents (65535 - a) (neg_ℤ x -ℤ pos 1)
complement_is p = record {
  word = omega arith;
  over = p.under + 1;
  under = p.over;
  apart = omega (arith, ints);
}

pub once : RepresentedOnce
once w v z p q = omega (arith, ints)
