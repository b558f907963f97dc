-- An operation's width is the number of its words.
use Rattle.std.proofs.Common.{◌≡◌, ℕ, ◌+◌, ◌<◌, true, leb, List, [], ◌∷◌, map, length, Ok, Err, Result, sym, refl, ap, ◌∙◌, arith}
use Rattle.std.proofs.lemmas.List.{length_push, length-map}
use Rattle.std.proofs.lemmas.Bool.{leb-true, and_parts}
use Rattle.std.proofs.lemmas.Bool.Decides.{nat_tests}
use Rattle.words.specs.Immediates.{extended}
use Rattle.words.specs.Values.{wrapped}
use Rattle.words.specs.Acts.{behind}
use Rattle.faults.specs.declared.LabelFault.{LabelFault}
use Rattle.faults.specs.Chains.{then, under, gathered}
use Rattle.operands.specs.declared.Immediate.TheVariants.{Label}
use Rattle.operations.specs.declared.Operation.TheVariants.{Compute, Not, Jalr, In, Out, Addi, Shf, Lw, Sw, Lli, Lui, Branch, Br, Halt, Jmp, Mov, Lwi, Push, Pop, Fill, Cstr, Def}
use Rattle.operations.specs.Kinds.{Read, width_of}
use Rattle.placement.specs.Resolving.{ValuesOf, Resolved, resolved_word, reaches, with_register, resolved}
use Rattle.placement.specs.Expansion.{words_in, distance_of, expanded}
use Rattle.placement.specs.Placing.{words_of}
use Rattle.placement.specs.Laws.{PlacementLaws}

expanded_width : (address : ℕ) (o : Resolved) → length (words_in (expanded address o)) ≡ width_of o
expanded_width address (Compute f o) = refl
expanded_width address (Not o) = refl
expanded_width address (Jalr o) = refl
expanded_width address (In r) = refl
expanded_width address (Out r) = refl
expanded_width address (Addi o) = refl
expanded_width address (Shf o) = refl
expanded_width address (Lw o) = refl
expanded_width address (Sw o) = refl
expanded_width address (Lli o) = refl
expanded_width address (Lui o) = refl
expanded_width address (Branch t o) = refl
expanded_width address (Br imm) = refl
expanded_width address Halt = refl
expanded_width address (Jmp r) = refl
expanded_width address (Mov o) = refl
expanded_width address (Lwi o) = refl
expanded_width address (Push o) = refl
expanded_width address (Pop o) = refl
expanded_width address (Fill ws) = refl
expanded_width address (Cstr cs) = length_push cs 0
expanded_width address (Def n) = refl

-- what holds of every value holds of the one answered
held : {X Y : Type 0} (f : X → Y) (measure : Y → ℕ) (k : ℕ) (r : Result X LabelFault) (y : Y) → ((x : X) → r ≡ Ok x → measure (f x) ≡ k) → under f r ≡ Ok y → measure y ≡ k
held f measure k (Ok x) y all e = let same : f x ≡ y = cc in sym (ap measure same) ∙ all x refl
held f measure k (Err e) y all h = let z : ◌≡◌ {A = ℕ} 0 1 = cc in absurd (omega arith)

gathered_length : {X : Type 0} (rs : List (Result X LabelFault)) (xs : List X) → gathered rs ≡ Ok xs → length xs ≡ length rs
gathered_length [] xs h = let same : [] ≡ xs = cc in sym (ap length same)
gathered_length (Ok x ∷ rs) xs h = held (λ ys. x ∷ ys) length (length (Ok x ∷ rs)) (gathered rs) xs (λ ys e. (let more = gathered_length rs ys e in omega arith)) (as_under (gathered rs) ∙ h)
  where
    as_under : (r : Result (List _) LabelFault) → under (λ ys. x ∷ ys) r ≡ then r (λ ys. Ok (x ∷ ys))
    as_under (Ok ys) = refl
    as_under (Err e) = refl
gathered_length (Err e ∷ rs) xs h = let z : ◌≡◌ {A = ℕ} 0 1 = cc in absurd (omega arith)

-- a plain operation is its own resolved one
same : (k : ℕ) (o r : Resolved) → width_of o ≡ k → ◌≡◌ {A = Result Resolved LabelFault} (Ok o) (Ok r) → width_of r ≡ k
same k o r w e = let is : o ≡ r = cc in sym (ap width_of is) ∙ w

module _ (labels : ValuesOf) (address : ℕ) where
  resolved_width : (o : Read) (r : Resolved) → resolved labels address o ≡ Ok r → width_of r ≡ width_of o
  resolved_width (Compute f o) r e = same 1 (Compute f o) r refl e
  resolved_width (Not o) r e = same 1 (Not o) r refl e
  resolved_width (Jalr o) r e = same 1 (Jalr o) r refl e
  resolved_width (In x) r e = same 1 (In x) r refl e
  resolved_width (Out x) r e = same 1 (Out x) r refl e
  resolved_width (Addi o) r e = same 1 (Addi o) r refl e
  resolved_width (Shf o) r e = same 1 (Shf o) r refl e
  resolved_width (Lw o) r e = same 1 (Lw o) r refl e
  resolved_width (Sw o) r e = same 1 (Sw o) r refl e
  resolved_width (Lli o) r e = held (λ imm. Lli (with_register o imm)) width_of 1 _ r (λ imm is. refl) e
  resolved_width (Lui o) r e = held (λ imm. Lui (with_register o imm)) width_of 1 _ r (λ imm is. refl) e
  resolved_width (Branch t o) r e = held (λ imm. Branch t (with_register o imm)) width_of 1 _ r (λ imm is. refl) e
  resolved_width (Br imm) r e = held Br width_of 1 _ r (λ imm is. refl) e
  resolved_width Halt r e = same 1 Halt r refl e
  resolved_width (Jmp x) r e = same 1 (Jmp x) r refl e
  resolved_width (Mov o) r e = same 1 (Mov o) r refl e
  resolved_width (Lwi o) r e = held (λ imm. Lwi (with_register o imm)) width_of 2 _ r (λ imm is. refl) e
  resolved_width (Push o) r e = same 2 (Push o) r refl e
  resolved_width (Pop o) r e = same 2 (Pop o) r refl e
  resolved_width (Fill vs) r e =
      held Fill width_of (length vs) (gathered (map (resolved_word labels) vs)) r (λ ws is. gathered_length (map (resolved_word labels) vs) ws is ∙ length-map vs (resolved_word labels)) e
  resolved_width (Cstr cs) r e = same (length cs + 1) (Cstr cs) r refl e
  resolved_width (Def n) r e = same 0 (Def n) r refl e

  widths : (o : Read) (ws : List ℕ) → words_of labels address o ≡ Ok ws → length ws ≡ width_of o
  widths o ws e = held (λ r. words_in (expanded address r)) length (width_of o) (resolved labels address o) ws (λ r is. expanded_width address r ∙ resolved_width o r is) e

branches : (address v : ℕ) → address < 65536 → v < 65536 → reaches address v ≡ true → wrapped (behind address + extended (distance_of address (Label v))) ≡ v
branches address v small fits near =
    let both = and_parts (leb (address + 1) (v + 128)) (leb v (address + 128)) near in
    let low = leb-true (address + 1) (v + 128) both.0 in
    let high = leb-true v (address + 128) both.1 in
    grind (arith, nat_tests)

pub placement_laws : PlacementLaws
placement_laws = record { widths = widths; branches = branches }
