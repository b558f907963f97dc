-- Decoding undoes encoding, whatever the unused bits hold.
use Rattle.std.proofs.Common.{◌≡◌, ℕ, ◌+◌, ◌*◌, ◌/◌, ◌%◌, ◌<◌, Some, None, cond, eqb, sym, refl, ap, ◌∙◌, add-zero, arith}
use Rattle.std.proofs.lemmas.Bool.Decides.{nat_tests}
use Rattle.words.specs.declared.instructions.RegistersImm6.{RegistersImm6}
use Rattle.words.specs.declared.instructions.RegisterImm8.{RegisterImm8}
use Rattle.words.specs.declared.instructions.Function.{Function}
use Rattle.words.specs.declared.instructions.Function.TheVariants.{Add, Sub, And, Or}
use Rattle.words.specs.declared.instructions.Test.{Test}
use Rattle.words.specs.declared.instructions.Instruction.{Instruction}
use Rattle.words.specs.declared.instructions.Instruction.TheVariants.{Compute, Not, Jalr, In, Out, Addi, Shf, Lw, Sw, Lli, Lui, Branch}
use Rattle.words.specs.Registers.{number_of}
use Rattle.words.specs.Immediates.{imm6_of, imm8_of}
use Rattle.words.specs.Coding.{encoded, decoded, by_opcode, by_function, function_code, test_code, of_imm6, of_imm8, rd_of, three_of, with_imm6, with_imm8}
use Rattle.words.specs.Unused.{unused, UnusedIgnored}
use Rattle.words.proofs.Bits.{same_imm}
use Rattle.words.proofs.Fields.{fields6, fields8, number_below, register_is}

function_below : (f : Function) → function_code f < 4
function_below f = grind arith

function_read : (f : Function) (w : ℕ) → by_function (function_code f) w ≡ Some (Compute f (three_of w))
function_read Add w = refl
function_read Sub w = refl
function_read And w = refl
function_read Or w = refl

test_read : (t : Test) (w : ℕ) → by_opcode (test_code t) w ≡ Some (Branch t (with_imm8 w))
test_read t w = grind (arith, nat_tests)

-- the instruction of a word, by its opcode; and by its function code
at_code : {i : Instruction} (w code : ℕ) → w / 4096 ≡ code → by_opcode code w ≡ Some i → decoded w ≡ Some i
at_code w code e read = ap (λ c. by_opcode c w) e ∙ read

at_function : {i : Instruction} (w function : ℕ) → w / 4096 ≡ 0 → w % 8 ≡ function → by_function function w ≡ Some i → decoded w ≡ Some i
at_function w function c e read = at_code w 0 c (ap (λ k. by_function k w) e ∙ read)

by_imm6 : (code : ℕ) (named : RegistersImm6 → Instruction) (w : ℕ) (o : RegistersImm6) → w ≡ of_imm6 code o → by_opcode code w ≡ Some (named (with_imm6 w)) → decoded w ≡ Some (named o)
by_imm6 code named w o e read =
    let f = fields6 w code o.rd o.rs1 o.imm.bits e (omega arith) in
    let imm = same_imm (imm6_of w) o.imm f.low_is in
    at_code w code f.code_is (read ∙ (λ i. Some (named (record { rd = f.rd_is i; rs1 = f.rs1_is i; imm = imm i }))))

by_imm8 : (code : ℕ) (named : RegisterImm8 → Instruction) (w extra : ℕ) (o : RegisterImm8) → w ≡ of_imm8 code o + extra % 2 * 256 → by_opcode code w ≡ Some (named (with_imm8 w)) → decoded w ≡ Some (named o)
by_imm8 code named w extra o e read =
    let f = fields8 w code o.rd (o.imm.bits + extra % 2 * 256) (omega arith) (omega arith) in
    let imm = same_imm (imm8_of w) o.imm (omega (arith, f.low_is)) in
    at_code w code f.code_is (read ∙ (λ i. Some (named (record { rd = f.rd_is i; imm = imm i }))))

pub ignored : UnusedIgnored
ignored (Compute f o) bits =
    let w = encoded (Compute f o) + unused (Compute f o) bits in
    let b = number_below o.rs2 in
    let small = function_below f in
    let e = fields6 w 0 o.rd o.rs1 (number_of o.rs2 * 8 + function_code f) (omega arith) (omega arith) in
    let rs2 = register_is (w / 8) o.rs2 (omega (arith, e.low_is)) in
    at_function w (function_code f) e.code_is (omega (arith, e.low_is)) (function_read f w ∙ (λ i. Some (Compute f (record { rd = e.rd_is i; rs1 = e.rs1_is i; rs2 = rs2 i }))))
ignored (Not o) bits =
    let w = encoded (Not o) + unused (Not o) bits in
    let e = fields6 w 0 o.rd o.rs1 (bits / 8 % 8 * 8 + 4) (omega arith) (omega arith) in
    at_function w 4 e.code_is (omega (arith, e.low_is)) (λ i. Some (Not (record { rd = e.rd_is i; rs1 = e.rs1_is i })))
ignored (Jalr o) bits =
    let w = encoded (Jalr o) + unused (Jalr o) bits in
    let e = fields6 w 1 o.rd o.rs1 (bits % 64) (omega arith) (omega arith) in
    at_code w 1 e.code_is (λ i. Some (Jalr (record { rd = e.rd_is i; rs1 = e.rs1_is i })))
ignored (In rd) bits =
    let w = encoded (In rd) + unused (In rd) bits in
    let e = fields8 w 2 rd (bits % 512) (omega arith) (omega arith) in
    at_code w 2 e.code_is (λ i. Some (In (e.rd_is i)))
ignored (Out rd) bits =
    let w = encoded (Out rd) + unused (Out rd) bits in
    let e = fields8 w 3 rd (bits / 8 % 64 * 8) (omega arith) (omega arith) in
    let zero : w % 8 ≡ 0 = omega (arith, e.low_is) in
    at_code w 3 e.code_is (ap (λ k. cond (eqb k 0) (Some (Out (rd_of w))) None) zero ∙ (λ i. Some (Out (e.rd_is i))))
ignored (Addi o) bits = by_imm6 4 Addi _ o (add-zero _) refl
ignored (Shf o) bits = by_imm6 5 Shf _ o (add-zero _) refl
ignored (Lw o) bits = by_imm6 6 Lw _ o (add-zero _) refl
ignored (Sw o) bits = by_imm6 7 Sw _ o (add-zero _) refl
ignored (Lli o) bits = by_imm8 8 Lli _ (bits / 256) o refl refl
ignored (Lui o) bits = by_imm8 9 Lui _ (bits / 256) o refl refl
ignored (Branch t o) bits = by_imm8 (test_code t) (Branch t) _ (bits / 256) o refl (test_read t (of_imm8 (test_code t) o + bits / 256 % 2 * 256))

-- with no unused bit set
unused_none : (i : Instruction) → encoded i + unused i 0 ≡ encoded i
unused_none i = grind arith

pub undone : (i : Instruction) → decoded (encoded i) ≡ Some i
undone i = ap decoded (sym (unused_none i)) ∙ ignored i 0

pub reads_back : (w : ℕ) (i : Instruction) (bits : ℕ) → w ≡ encoded i + unused i bits → decoded w ≡ Some i
reads_back w i bits e = ap decoded e ∙ ignored i bits
