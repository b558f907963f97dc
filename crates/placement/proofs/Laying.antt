-- Words laid one behind another into a buffer of zeros.
use Rattle.std.proofs.Common.{◌≡◌, ℕ, ◌+◌, ◌<◌, ◌≤◌, List, [], ◌∷◌, ◌++◌, length, take, drop, set, Some, None, Ok, Err, Option, Result, IfSome, OnOk, is_err, Bool, true, false, cond, ltb, append-nil, sym, refl, ap, ◌∙◌, append_assoc, add-one, arith}
use Rattle.std.proofs.lemmas.List.{length-append, set_split}
use Rattle.std.proofs.lemmas.Bool.{lt-ltb, le-ltb}
use Rattle.buffers.specs.Buffers.{blank, padded, overlaid}
use Rattle.buffers.proofs.Laid.{length_padded, overlaid_padded}
use Rattle.std.specs.Option.{ok_or}
use Rattle.faults.specs.declared.LabelFault.{LabelFault}
use Rattle.faults.specs.declared.StatementFault.TheVariants.{TooManyWords, InLabel}
use Rattle.faults.specs.Chains.{then, gathered}
use Rattle.placement.specs.Placing.{Placing, placing}

-- the words done so far stand in the buffer up to an end, or do not fit
abbrev pub Standing : Option ℕ → List ℕ → ℕ → List ℕ → Type 0
Standing (Some at) done n out = (at ≡ length done) × (at ≤ n) × (out ≡ padded done n)
Standing None done n out = n < length done

-- the words done, and those left, are all of them
pub record Sofar (all left : List (Result ℕ LabelFault)) (n : ℕ) (end : Option ℕ) (out : List ℕ) : Type 0 where
  pub done : List ℕ
  pub rest : then (gathered left) (λ ws. Ok (done ++ ws)) ≡ gathered all
  pub stands : Standing end done n out

-- a word put over the first zero
one_laid : (done : List ℕ) (n at w : ℕ) → at ≡ length done → at < n → set (padded done n) at w ≡ padded (done ++ w ∷ []) n
one_laid done n at w is lt =
    let long = length_padded done n (omega arith) in
    set_split (padded done n) at w (omega arith)
    ∙ ap (λ k. take at (padded done n) ++ (w ∷ drop k (padded done n))) (sym (add-one at))
    ∙ ap (λ k. overlaid (padded done n) k (w ∷ [])) is
    ∙ overlaid_padded done (w ∷ []) n

module _ (all left more : List (Result ℕ LabelFault)) (n w : ℕ) (out : List ℕ) (cut : left ≡ Ok w ∷ more) where
  moved : (done : List ℕ) → then (gathered left) (λ ws. Ok (done ++ ws)) ≡ gathered all → then (gathered more) (λ ws. Ok ((done ++ w ∷ []) ++ ws)) ≡ gathered all
  moved done h = by (gathered more) ∙ sym (ap (λ rs. then (gathered rs) (λ ws. Ok (done ++ ws))) cut) ∙ h
    where
      by : (more : Result (List ℕ) LabelFault) → then more (λ ws. Ok ((done ++ w ∷ []) ++ ws)) ≡ then (then more (λ ws. Ok (w ∷ ws))) (λ ws. Ok (done ++ ws))
      by (Ok ws) = ap Ok (append_assoc done (w ∷ []) ws)
      by (Err f) = refl

  -- where the buffer has a place
  pub laid : (at : ℕ) → at < n → Sofar all left n (Some at) out → Sofar all more n (Some (at + 1)) (set out at w)
  laid at lt s =
      let long = length-append s.done (w ∷ []) in
      record {
        done = s.done ++ w ∷ [];
        rest = moved s.done s.rest;
        stands = (omega (arith, s.stands.0), omega arith, ap (λ o. set o at w) s.stands.2 ∙ one_laid s.done n at w s.stands.0 lt);
      }

  -- and where it has none
  pub over : (end : Option ℕ) → IfSome end (λ at. n ≤ at) → Sofar all left n end out → Sofar all more n None out
  over (Some at) le s = record { done = s.done ++ w ∷ []; rest = moved s.done s.rest; stands = omega (arith, length-append s.done (w ∷ []), s.stands.0) }
  over None le s = record { done = s.done ++ w ∷ []; rest = moved s.done s.rest; stands = omega (arith, length-append s.done (w ∷ []), s.stands) }

-- what is answered at the end, and at a fault
module _ (all left : List (Result ℕ LabelFault)) (n : ℕ) (out : List ℕ) where
  whole : (end : Option ℕ) → left ≡ [] → (s : Sofar all left n end out) → gathered all ≡ Ok s.done
  whole end h s = sym s.rest ∙ ap (λ rs. then (gathered rs) (λ ws. Ok (s.done ++ ws))) h ∙ ap Ok (append-nil s.done)

  pub ended : (end : Option ℕ) → left ≡ [] → Sofar all left n end out → ok_or end TooManyWords ≡ (placing (gathered all) n).answer
  ended (Some at) h s = rw (whole (Some at) h s, le-ltb n (length s.done) (omega (arith, s.stands.0, s.stands.1))) (ap Ok s.stands.0)
  ended None h s = rw (whole None h s, lt-ltb n (length s.done) s.stands)

  pub written : (end : Option ℕ) → left ≡ [] → Sofar all left n end out → OnOk (ok_or end TooManyWords) (out ≡ (placing (gathered all) n).after)
  written (Some at) h s = rw (whole (Some at) h s, le-ltb n (length s.done) (omega (arith, s.stands.0, s.stands.1))) s.stands.2
  written None h s = tt

  pub faulty : (end : Option ℕ) (more : List (Result ℕ LabelFault)) (e : LabelFault) → left ≡ Err e ∷ more → Sofar all left n end out → Err (InLabel e) ≡ (placing (gathered all) n).answer
  faulty end more e h s = ap (λ g. (placing g n).answer) (sym (ap (λ rs. then (gathered rs) (λ ws. Ok (s.done ++ ws))) h) ∙ s.rest)

-- the buffer after a refusal
pub refused : (told : Result (List ℕ) LabelFault) (n : ℕ) → is_err (placing told n).answer ≡ true → (placing told n).after ≡ blank n
refused (Ok ws) n h = by (ltb n (length ws)) h
  where
    by : (b : Bool) → let p : Placing = cond b (record { answer = Err TooManyWords; after = blank n }) (record { answer = Ok (length ws); after = padded ws n }) in is_err p.answer ≡ true → p.after ≡ blank n
    by true h = refl
    by false h = cc
refused (Err e) n h = refl
