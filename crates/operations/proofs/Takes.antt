-- The values of a `.fill` and the text of a `.cstr`, counted.
use Rattle.std.proofs.Common.{◌≡◌, ℕ, ◌+◌, ◌-◌, List, [], ◌∷◌, map, length, get_or, take, drop, Ok, Err, Result, sym, refl, ap, ◌∙◌}
use Rattle.std.specs.Result.{ok_prefix}
use Rattle.std.proofs.lemmas.List.{take_rest}
use Rattle.faults.specs.declared.StatementFault.{StatementFault}
use Rattle.faults.specs.declared.StatementFault.TheVariants.{InOperand}
use Rattle.faults.specs.Chains.{and_then, then, under, gathered}
use Rattle.faults.proofs.Gathers.{counted, counted_fault}
use Rattle.operands.specs.Operands.{immediate}
use Rattle.operands.specs.Texts.{characters}
use Rattle.operations.specs.Fields.{exactly, some_fields, numbered, terminated, string}
use Rattle.operations.specs.Reading.{all_values}
use Rattle.operations.specs.Kinds.{Read, sized}
use Rattle.operations.specs.declared.kinds.Operation.TheVariants.{Cstr}

module _ (fs : List (List ℕ)) (some : Ok tt ≡ some_fields fs) where
  pub values_taken : (n : ℕ) → Ok n ≡ under length (gathered (map (immediate 16) fs)) → Ok (ok_prefix (map (immediate 16) fs), n) ≡ under numbered (all_values fs)
  values_taken n h =
      let c = counted n (map (immediate 16) fs) h in
      ap (λ k. Ok (ok_prefix (map (immediate 16) fs), k)) c.many
      ∙ sym (ap (λ g. under numbered (and_then g InOperand (λ vs. Ok vs))) c.all)
      ∙ ap (λ s. under numbered (then s (λ done. and_then (gathered (map (immediate 16) fs)) InOperand (λ vs. Ok vs)))) some

-- one field, which nothing follows
module _ (fs rest : List (List ℕ)) (f : List ℕ) (first : fs ≡ f ∷ rest) (last : Ok tt ≡ exactly 0 rest) where
  quoted : get_or f 0 0 ≡ 34 → string fs ≡ gathered (characters (take (length f - 1) (drop 1 f)))
  quoted q =
      ap string first
      ∙ sym (ap (λ s. then s (λ done. string (f ∷ []))) last)
      ∙ rw (q, take_rest f 1)

  pub text_taken : get_or f 0 0 ≡ 34 → (n : ℕ) → Ok n ≡ under length (gathered (characters (take (length f - 1) (drop 1 f)))) → Ok (ok_prefix (characters (take (length f - 1) (drop 1 f))), n + 1) ≡ under terminated (string fs)
  text_taken q n h =
      let c = counted n (characters (take (length f - 1) (drop 1 f))) h in
      ap (λ k. Ok (ok_prefix (characters (take (length f - 1) (drop 1 f))), k + 1)) c.many
      ∙ sym (ap (under terminated) (quoted q ∙ c.all))

  pub text_fault : get_or f 0 0 ≡ 34 → (e : StatementFault) → Err e ≡ under length (gathered (characters (take (length f - 1) (drop 1 f)))) → Err e ≡ under terminated (string fs)
  text_fault q e h = sym (ap (under terminated) (quoted q ∙ counted_fault e (characters (take (length f - 1) (drop 1 f))) h))

-- what is counted, as the operation that holds it
abbrev pub as_cstr : Result (List ℕ × ℕ) StatementFault → Result (Read × ℕ) StatementFault
as_cstr r = under (λ p. (Cstr p.0, p.1)) r

pub cstr_told : (r : Result (List ℕ) StatementFault) → as_cstr (under terminated r) ≡ under sized (under Cstr r)
cstr_told (Ok cs) = refl
cstr_told (Err e) = refl
