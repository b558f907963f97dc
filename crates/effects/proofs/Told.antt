-- Each operation's effect, in signed terms.
use Rattle.std.proofs.Common.{◌≡◌, ℕ, ◌+◌, ◌<◌, Bool, cond, List, refl, ap, arith}
use Rattle.words.specs.declared.Register.{Register}
use Rattle.words.specs.declared.Register.TheVariants.{R0}
use Rattle.words.specs.Registers.{reading}
use Rattle.words.specs.Immediates.{extended}
use Rattle.words.specs.Values.{wrapped}
use Rattle.words.specs.Acts.{Act, go, act, send_word, behind}
use Rattle.words.specs.declared.RegisterImm8.{RegisterImm8}
use Rattle.words.specs.declared.Instruction.TheVariants.{Out}
use Rattle.effects.specs.Whole.{Represents}
use Rattle.effects.specs.Effects.{Effects, SignedEffects, holds}
use Rattle.std.proofs.lemmas.Bool.Decides.{nat_tests}
use Rattle.effects.proofs.Wholes.{of_signed, of_extended, of_wrapped, sum_is, difference_is, complement_is}
use Rattle.effects.proofs.Signs.{passes_if, fails_if, extended_signed}
use Rattle.effects.proofs.Shifts.{and_bit, or_bit, left, right, gone}

module _ (place : ℕ) (rs : List ℕ) where
  word : (r : Register) → reading rs r < 65536
  word r = omega arith

  held : (r : Register) → Represents (reading rs r) (holds place rs r)
  held r = of_signed (reading rs r) (word r)

  sends : (rd : Register) → (rd ≡ R0 → ⊥) → act (Out rd) place rs ≡ send_word (reading rs rd)
  sends rd h = grind (arith, nat_tests)

  branched : RegisterImm8 → Bool → Act
  branched o b = go rs (cond b (wrapped (behind place + extended o.imm)) (behind place))

  pub effects : Effects place rs
  unfolding branched
  effects = record {
    adds = λ o. (_, refl, sum_is (held o.rs1) (held o.rs2));
    subtracts = λ o. (_, refl, difference_is (held o.rs1) (held o.rs2));
    ands = λ o. (_, refl, λ k. and_bit _ _ k);
    ors = λ o. (_, refl, λ k. or_bit _ _ k);
    negates = λ o. (_, refl, complement_is (held o.rs1));
    jumps = λ o. refl;
    takes = λ rd. refl;
    halts = refl;
    sends = sends;
    adds_immediate = λ o. (_, refl, sum_is (held o.rs1) (of_extended o.imm (omega arith)));
    shifts_left = λ o n e. (_, refl, left (reading rs o.rs1) o.imm.bits n (word o.rs1) (omega arith) e);
    shifts_right = λ o n e. (_, refl, right (reading rs o.rs1) o.imm.bits n (word o.rs1) (omega arith) e);
    shifts_out = λ o n e h. (_, refl, gone (reading rs o.rs1) o.imm.bits n (word o.rs1) (omega arith) e h);
    loads = λ o. (_, refl, sum_is (held o.rs1) (of_extended o.imm (omega arith)));
    stores = λ o. (_, refl, sum_is (held o.rs1) (of_extended o.imm (omega arith)));
    extends = λ o. (_, refl, extended_signed o.imm (omega arith));
    puts_upper = λ o. (_, refl, (omega arith, omega arith));
    branches = λ t o h. (_, ap (λ b. branched o b) (passes_if (reading rs o.rd) (word o.rd) t h), sum_is (of_wrapped (place + 1)) (of_extended o.imm (omega arith)));
    passes_by = λ t o h. (_, ap (λ b. branched o b) (fails_if (reading rs o.rd) (word o.rd) t h), refl);
  }

pub signed_effects : SignedEffects
signed_effects = effects
