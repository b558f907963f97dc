-- Accepted fields lie in their ranges.
use Rattle.std.proofs.Common.{◌≡◌, ℕ, ◌^◌, ◌<◌, Bool, true, false, cond, ◌&&◌, eqb, leb, List, [], ◌∷◌, map, get_or, drop, Some, None, Ok, Err, Option, Result, refl, ap, ◌∙◌, inl, inr, arith}
use Rattle.std.specs.Option.{ok_or}
use Rattle.std.proofs.lemmas.Bool.{and_parts, leb-true}
use Rattle.numbers.specs.Reading.{reading}
use Rattle.numbers.proofs.Told.{reads_below}
use Rattle.faults.specs.declared.OperandFault.{OperandFault}
use Rattle.faults.specs.declared.OperandFault.TheVariants.{BadNumber}
use Rattle.faults.specs.declared.StatementFault.{StatementFault}
use Rattle.faults.specs.declared.StatementFault.TheVariants.{Malformed, InOperand}
use Rattle.faults.specs.Chains.{then, under, gathered}
use Rattle.faults.proofs.Inverse.{same_value, held_ok, held_and_then, held_under, held_cond}
use Rattle.lines.specs.declared.Place.TheVariants.{Outside, Text, Escape}
use Rattle.lines.specs.Places.{after, allows, allowed_from, allowed}
use Rattle.lines.proofs.Checked.{AllAllowed}
use Rattle.operands.specs.declared.Immediate.{Immediate}
use Rattle.operands.specs.declared.Immediate.TheVariants.{Number, Label}
use Rattle.operands.specs.Names.{is_name}
use Rattle.operands.specs.Operands.{register, constant, label, immediate}
use Rattle.operands.specs.Texts.{escaped, characters}
use Rattle.operations.specs.declared.mnemonics.Mnemonic.{Mnemonic}
use Rattle.operations.specs.declared.mnemonics.Mnemonic.TheVariants as name
use Rattle.operations.specs.declared.kinds.RegistersNumber.{RegistersNumber}
use Rattle.operations.specs.declared.kinds.RegisterImmediate.{RegisterImmediate}
use Rattle.operations.specs.declared.kinds.Operation.TheVariants.{Compute, Not, Jalr, In, Out, Addi, Shf, Lw, Sw, Lli, Lui, Branch, Br, Halt, Jmp, Mov, Lwi, Push, Pop, Fill, Cstr, Def}
use Rattle.operations.specs.Kinds.{Read}
use Rattle.operations.specs.Fields.{exactly, first_field, only_field, some_fields, string}
use Rattle.operations.specs.Reading.{operand, registers_number, register_immediate, all_values, operation}
use Rattle.operations.specs.Ranges.{Fits, AllFit, Character, AllCharacters, FieldsInRange}

constant_fits : (bits : ℕ) (text : List ℕ) (n : ℕ) → constant bits text ≡ Ok n → n < 2 ^ bits
constant_fits bits text n h = by (reading bits text) refl h
  where
    by : (o : Option ℕ) → reading bits text ≡ o → ok_or o BadNumber ≡ Ok n → n < 2 ^ bits
    by None e k = cc
    by (Some w) e k = reads_below bits text n (e ∙ ap Some (same_value {E = OperandFault} w n k))

immediate_fits : (bits : ℕ) (text : List ℕ) (imm : Immediate (List ℕ)) → immediate bits text ≡ Ok imm → Fits bits imm
immediate_fits bits text imm h =
    held_cond (Fits bits) (eqb (get_or text 0 0) 38) (label (drop 1 text)) (under Number (constant bits text)) imm h
    (λ t e. held_cond (Fits bits) (is_name (drop 1 text)) (Ok (Label (drop 1 text))) (Err BadNumber) imm e
    (λ named k. held_ok (Fits bits) k named)
    (λ f k. cc))
    (λ t e. held_under (Fits bits) Number (constant bits text) imm e (λ n is. constant_fits bits text n is))

values_fit : (fs : List (List ℕ)) (vs : List (Immediate (List ℕ))) → gathered (map (immediate 16) fs) ≡ Ok vs → AllFit 16 vs
values_fit [] vs h = held_ok (AllFit 16) h tt
values_fit (f ∷ fs) vs h =
    held_and_then (AllFit 16) (immediate 16 f) (λ e. e) _ vs h
    (λ v is k. held_and_then (AllFit 16) (gathered (map (immediate 16) fs)) (λ e. e) _ vs k
    (λ rest more l. held_ok (AllFit 16) l (immediate_fits 16 f v is, values_fit fs rest more)))

escape_character : (d e : ℕ) → escaped d ≡ Ok e → Character e
escape_character d e h = by (eqb d 110) (eqb d 116) (eqb d 34) (eqb d 92) h
  where
    by : (n t q b : Bool) → cond n (Ok 10) (cond t (Ok 9) (cond q (Ok 34) (cond b (Ok 92) (Err Malformed)))) ≡ Ok e → Character e
    by true t q b h = held_ok Character h (inr (inl refl))
    by false true q b h = held_ok Character h (inl refl)
    by false false true b h = held_ok Character h (inr (inr (omega arith, omega arith)))
    by false false false true h = held_ok Character h (inr (inr (omega arith, omega arith)))
    by false false false false h = cc

plain_character : (c : ℕ) → allows Text c ≡ true → Character c
plain_character c h = let both = and_parts (leb 32 c) (leb c 126) h in inr (inr (leb-true 32 c both.0, leb-true c 126 both.1))

-- the characters of one string after another
one_more : (r : Result ℕ StatementFault) (rs : List (Result ℕ StatementFault)) (xs : List ℕ) → gathered (r ∷ rs) ≡ Ok xs
    → ((x : ℕ) → r ≡ Ok x → Character x) → ((ys : List ℕ) → gathered rs ≡ Ok ys → AllCharacters ys) → AllCharacters xs
one_more r rs xs h one more =
    held_and_then AllCharacters r (λ e. e) _ xs h
    (λ x is k. held_and_then AllCharacters (gathered rs) (λ e. e) _ xs k
    (λ ys e l. held_ok AllCharacters l (one x is, more ys e)))

characters_range : (cs xs : List ℕ) → allowed_from Text cs ≡ true → gathered (characters cs) ≡ Ok xs → AllCharacters xs
characters_range [] xs a h = cc
characters_range (c ∷ []) xs a h = by (eqb c 34) (eqb c 92) h
  where
    by : (q e : Bool) → gathered (cond q [] (cond e (Err Malformed ∷ []) (Ok c ∷ Err Malformed ∷ []))) ≡ Ok xs → AllCharacters xs
    by true e h = held_ok AllCharacters h tt
    by false true h = cc
    by false false h = cc
characters_range (c ∷ d ∷ ds) xs a h = by (eqb c 34) (eqb c 92) a h (characters_range ds) (characters_range (d ∷ ds))
  where
    by : (q e : Bool) → (allows Text c && allowed_from (cond q Outside (cond e Escape Text)) (d ∷ ds)) ≡ true
        → gathered (cond q (Err Malformed ∷ []) (cond e (escaped d ∷ characters ds) (Ok c ∷ characters (d ∷ ds)))) ≡ Ok xs
        → ((ys : List ℕ) → allowed_from Text ds ≡ true → gathered (characters ds) ≡ Ok ys → AllCharacters ys)
        → ((ys : List ℕ) → allowed_from Text (d ∷ ds) ≡ true → gathered (characters (d ∷ ds)) ≡ Ok ys → AllCharacters ys)
        → AllCharacters xs
    by true e a h two one = cc
    by false true a h two one =
        let next = and_parts (allows Escape d) (allowed_from Text ds) (and_parts (allows Text c) (allowed_from Escape (d ∷ ds)) a).1 in
        one_more (escaped d) (characters ds) xs h (escape_character d) (λ ys k. two ys next.1 k)
    by false false a h two one =
        let here = and_parts (allows Text c) (allowed_from Text (d ∷ ds)) a in
        one_more (Ok c) (characters (d ∷ ds)) xs h (λ x is. held_ok Character is (plain_character c here.0)) (λ ys k. one ys here.1 k)

quoted_allowed : (f : List ℕ) → eqb (get_or f 0 0) 34 ≡ true → allowed f ≡ true → allowed_from Text (drop 1 f) ≡ true
quoted_allowed [] q a = refl
quoted_allowed (c ∷ cs) q a = rw q at (and_parts (allows Outside c) (allowed_from (after Outside c) cs) a).1

string_range : (fs : List (List ℕ)) (cs : List ℕ) → AllAllowed fs → string fs ≡ Ok cs → AllCharacters cs
string_range [] cs a h = cc
string_range (f ∷ fs) cs a h =
    held_and_then AllCharacters (exactly 0 fs) (λ e. e) _ cs h
    (λ end is k. held_cond AllCharacters (eqb (get_or f 0 0) 34) (gathered (characters (drop 1 f))) (Err Malformed) cs k
    (λ q l. characters_range (drop 1 f) cs (quoted_allowed f q a.0) l)
    (λ q l. cc))

number_range : (fs : List (List ℕ)) (o : RegistersNumber) → registers_number fs ≡ Ok o → o.number < 2 ^ 6
number_range fs o h =
    let P : RegistersNumber → Type 0 = λ o. o.number < 2 ^ 6 in
    held_and_then P (exactly 3 fs) (λ e. e) _ o h
    (λ right is k. held_and_then P (first_field fs) (λ e. e) _ o k
    (λ a is k. held_and_then P (register a.0) InOperand _ o k
    (λ rd is k. held_and_then P (first_field a.1) (λ e. e) _ o k
    (λ b is k. held_and_then P (register b.0) InOperand _ o k
    (λ rs1 is k. held_and_then P (first_field b.1) (λ e. e) _ o k
    (λ c is k. held_and_then P (constant 6 c.0) InOperand _ o k
    (λ n is k. held_ok P k (constant_fits 6 c.0 n is))))))))

register_range : (bits : ℕ) (fs : List (List ℕ)) (o : RegisterImmediate (List ℕ)) → register_immediate bits fs ≡ Ok o → Fits bits o.imm
register_range bits fs o h =
    let P : RegisterImmediate (List ℕ) → Type 0 = λ o. Fits bits o.imm in
    held_and_then P (exactly 2 fs) (λ e. e) _ o h
    (λ right is k. held_and_then P (first_field fs) (λ e. e) _ o k
    (λ a is k. held_and_then P (register a.0) InOperand _ o k
    (λ rd is k. held_and_then P (first_field a.1) (λ e. e) _ o k
    (λ b is k. held_and_then P (immediate bits b.0) InOperand _ o k
    (λ imm is k. held_ok P k (immediate_fits bits b.0 imm is))))))

-- the only field
only_range : {X : Type 0} (P : X → Type 0) (read : List ℕ → Result X OperandFault) → ((f : List ℕ) (x : X) → read f ≡ Ok x → P x)
    → (fs : List (List ℕ)) (x : X) → then (only_field fs) (λ f. operand (read f)) ≡ Ok x → P x
only_range P read all fs x h =
    held_and_then P (only_field fs) (λ e. e) _ x h
    (λ f is k. held_and_then P (read f) InOperand _ x k
    (λ y is k. held_ok P k (all f y is)))

all_range : (fs : List (List ℕ)) (vs : List (Immediate (List ℕ))) → all_values fs ≡ Ok vs → AllFit 16 vs
all_range fs vs h =
    held_and_then (AllFit 16) (some_fields fs) (λ e. e) _ vs h
    (λ some is k. held_and_then (AllFit 16) (gathered (map (immediate 16) fs)) InOperand _ vs k
    (λ ws is k. held_ok (AllFit 16) k (values_fit fs ws is)))

pub within : (m : Mnemonic) (fs : List (List ℕ)) (o : Read) → AllAllowed fs → operation m fs ≡ Ok o → FieldsInRange o
within (name.Compute f) fs o a h = held_under FieldsInRange (Compute f) _ o h (λ x is. tt)
within name.Not fs o a h = held_under FieldsInRange Not _ o h (λ x is. tt)
within name.Jalr fs o a h = held_under FieldsInRange Jalr _ o h (λ x is. tt)
within name.In fs o a h = held_under FieldsInRange In _ o h (λ x is. tt)
within name.Out fs o a h = held_under FieldsInRange Out _ o h (λ x is. tt)
within name.Addi fs o a h = held_under FieldsInRange Addi _ o h (number_range fs)
within name.Shf fs o a h = held_under FieldsInRange Shf _ o h (number_range fs)
within name.Lw fs o a h = held_under FieldsInRange Lw _ o h (number_range fs)
within name.Sw fs o a h = held_under FieldsInRange Sw _ o h (number_range fs)
within name.Lli fs o a h = held_under FieldsInRange Lli _ o h (register_range 8 fs)
within name.Lui fs o a h = held_under FieldsInRange Lui _ o h (register_range 8 fs)
within (name.Branch t) fs o a h = held_under FieldsInRange (Branch t) _ o h (register_range 8 fs)
within name.Br fs o a h = held_under FieldsInRange Br _ o h (only_range (Fits 8) (immediate 8) (immediate_fits 8) fs)
within name.Halt fs o a h = held_under FieldsInRange (λ end. Halt) _ o h (λ x is. tt)
within name.DotHalt fs o a h = held_under FieldsInRange (λ end. Halt) _ o h (λ x is. tt)
within name.Jmp fs o a h = held_under FieldsInRange Jmp _ o h (λ x is. tt)
within name.Mov fs o a h = held_under FieldsInRange Mov _ o h (λ x is. tt)
within name.Lwi fs o a h = held_under FieldsInRange Lwi _ o h (register_range 16 fs)
within name.Push fs o a h = held_under FieldsInRange Push _ o h (λ x is. tt)
within name.Pop fs o a h = held_under FieldsInRange Pop _ o h (λ x is. tt)
within name.Fill fs o a h = held_under FieldsInRange Fill _ o h (all_range fs)
within name.Cstr fs o a h = held_under FieldsInRange Cstr _ o h (λ cs is. string_range fs cs a is)
within name.Def fs o a h = held_under FieldsInRange Def _ o h (only_range (λ n. n < 2 ^ 16) (constant 16) (constant_fits 16) fs)
