use Rattle.std.proofs.Common.{rules, [], ◌∷◌, Ok, sym, ap, ◌∙◌}
use Rattle.words.specs.declared.Test.TheVariants.{Equal}
use Rattle.words.specs.declared.Register.TheVariants.{R0}
use Rattle.words.specs.Coding.{encoded}
use Rattle.operands.specs.Operands.{seen}
use Rattle.operations.specs.Kinds.{seen_operation}
use Rattle.faults.proofs.Inverse.{all_good}
use Rattle.placement.specs.Resolving.{resolved_target}
use Rattle.placement.specs.Placing.{words_of}
use Rattle.placement.proofs.Reach.{branch_word, branched, unconditional}
use Rattle.placement.proofs.expansion.expand.Goals as goal
use Rattle.placement.proofs.expansion.expand.Goals.{in-Compute, in-Not, in-Jalr, in-In, in-Out, in-Addi, in-Shf, in-Lw, in-Sw, in-Lli+in_ok-resolve_word-in-Lli, in-Lui+in_ok-resolve-in-Lui, in-Branch+in_ok-imm-in-Branch, in-Br+in_ok-imm-in-Br, in-Halt, in-Jmp, in-Mov}

pub returns : goal.returns
returns g c =
    let address = c.args.site.address in
    let labels = g.L.Labels.valued c.args.site.labels.now in
    let placed = words_of labels address in
    ap (λ w. Ok (w ∷ [])) c.encode-2.ensures.value
    ∙ elim c.match-operation.branch [
      | in-Compute w ↦ search rules
      | in-Not w ↦ search rules
      | in-Jalr w ↦ search rules
      | in-In w ↦ search rules
      | in-Out w ↦ search rules
      | in-Addi w ↦ search rules
      | in-Shf w ↦ search rules
      | in-Lw w ↦ search rules
      | in-Sw w ↦ search rules
      | in-Lli+in_ok-resolve_word-in-Lli w ↦ search rules
      | in-Lui+in_ok-resolve-in-Lui w ↦ search rules
      | in-Branch+in_ok-imm-in-Branch w ↦
          ap (λ i. Ok (encoded i ∷ [])) w.instruction-is
          ∙ ap (branch_word address w.in-Branch.t w.in-Branch.o.rd) w.in_ok-imm-in-Branch.ensures
          ∙ branched address w.in-Branch.t w.in-Branch.o.rd (resolved_target labels address (seen w.in-Branch.o.imm))
          ∙ sym (ap (λ o. placed (seen_operation o)) w.in-Branch.is)
      | in-Br+in_ok-imm-in-Br w ↦
          ap (λ i. Ok (encoded i ∷ [])) w.instruction-is
          ∙ ap (branch_word address Equal R0) w.in_ok-imm-in-Br.ensures
          ∙ unconditional address (resolved_target labels address (seen w.in-Br.target))
          ∙ sym (ap (λ o. placed (seen_operation o)) w.in-Br.is)
      | in-Halt w ↦ search rules
      | in-Jmp w ↦ search rules
      | in-Mov w ↦ search rules
    ]

pub returns-in-Cstr : goal.returns-in-Cstr
returns-in-Cstr g c = all_good _ ∙ sym (ap (λ o. words_of (g.L.Labels.valued c.args.site.labels.now) c.args.site.address (seen_operation o)) c.in-Cstr.is)
