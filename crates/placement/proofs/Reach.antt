-- The distance of a branch to a label that it reaches, and its word.
use Rattle.std.proofs.Common.{◌≡◌, ℕ, ◌+◌, ◌-◌, ◌%◌, ◌≤◌, true, cond, leb, List, [], ◌∷◌, Ok, Err, Result, sym, refl, ap, ◌∙◌}
use Rattle.std.proofs.lemmas.Bool.{le-leb, and_from}
use Rattle.words.specs.declared.Register.{Register}
use Rattle.words.specs.declared.Register.TheVariants.{R0}
use Rattle.words.specs.declared.Test.{Test}
use Rattle.words.specs.declared.Test.TheVariants.{Equal}
use Rattle.words.specs.declared.Instruction.TheVariants as word
use Rattle.words.specs.Coding.{encoded}
use Rattle.words.specs.declared.Imm.{Imm}
use Rattle.words.specs.Immediates.{imm8_of}
use Rattle.words.proofs.Bits.{same_imm}
use Rattle.faults.specs.declared.LabelFault.{LabelFault}
use Rattle.faults.specs.declared.LabelFault.TheVariants.{TooFar}
use Rattle.faults.specs.Chains.{under}
use Rattle.operands.specs.declared.Immediate.{Immediate}
use Rattle.operands.specs.declared.Immediate.TheVariants.{Label}
use Rattle.placement.specs.Resolving.{reaches, within_reach}
use Rattle.operations.specs.declared.Operation.TheVariants.{Branch, Br}
use Rattle.placement.specs.Expansion.{distance_of, words_in, expanded}

module _ (address v : ℕ) (low : address + 1 ≤ v + 128) (high : v ≤ address + 128) where
  reached : reaches address v ≡ true
  reached = and_from (leb (address + 1) (v + 128)) (leb v (address + 128)) (le-leb _ _ low) (le-leb _ _ high)

  pub near : (imm : Immediate ℕ) (b : Imm 255) → imm ≡ Label v → b.bits ≡ (v + (65535 - address)) % 256 → Ok b ≡ under (distance_of address) (within_reach address imm)
  near imm b is e =
      ap Ok (same_imm b (imm8_of (v + (65535 - address))) e)
      ∙ sym (ap (λ i. under (distance_of address) (within_reach address i)) is ∙ ap (λ t. under (distance_of address) (cond t (Ok (Label v)) (Err TooFar))) reached)

-- a branch by its distance, and by its resolved immediate
module _ (address : ℕ) (t : Test) (rd : Register) where
  abbrev pub branch_word : Result (Imm 255) LabelFault → Result (List ℕ) LabelFault
  branch_word r = under (λ b. encoded (word.Branch t (record { rd = rd; imm = b })) ∷ []) r

  pub branched : (target : Result (Immediate ℕ) LabelFault) → branch_word (under (distance_of address) target) ≡ under (λ r. words_in (expanded address r)) (under (λ i. Branch t (record { rd = rd; imm = i })) target)
  branched (Ok i) = refl
  branched (Err e) = refl

pub unconditional : (address : ℕ) (target : Result (Immediate ℕ) LabelFault) → branch_word address Equal R0 (under (distance_of address) target) ≡ under (λ r. words_in (expanded address r)) (under Br target)
unconditional address (Ok i) = refl
unconditional address (Err e) = refl
