-- Register 0 stays zero.
use Rattle.std.proofs.Common.{◌≡◌, ℕ, zero, suc, ◌+◌, cond, eqb, ltb, List, length, get_or, set, Some, None, Ok, Err, Option, Result, sym, refl, ◌∙◌, subst}
use Rattle.std.proofs.lemmas.List.{get_or-set_other}
use Rattle.std.proofs.lemmas.Bool.{cond_both, eqb-false}
use Rattle.port.specs.declared.Dry.{Dry}
use Rattle.port.specs.declared.Full.{Full}
use Rattle.port.specs.Meaning.{Meaning, taking, sending}
use Rattle.words.specs.declared.Register.{Register}
use Rattle.words.specs.declared.Instruction.{Instruction}
use Rattle.words.specs.declared.Instruction.TheVariants.{Compute, Not, Jalr, In, Out, Addi, Shf, Lw, Sw, Lli, Lui, Branch}
use Rattle.words.specs.Registers.{number_of, written}
use Rattle.words.specs.Coding.{decoded, cost_of}
use Rattle.words.specs.Acts.{Act, go, load, store, take_word, send_word, halt, act}
use Rattle.cpu.specs.States.{State}
use Rattle.cpu.specs.Steps.{Turn, took, gave, perform, fetched, step_of}
use Rattle.machine.specs.declared.Refusal.{Refusal}
use Rattle.machine.specs.Runs.{run_of}
use Rattle.machine.specs.Calls.{Standing, Served, refusing, counted, sized, running, unfit, accepted, loading}
use Rattle.machine.specs.declared.Refusal.TheVariants.{Memory, Image, Budget, Count}
use Rattle.machine.proofs.Going.{by_answer, run_none, run_on, run_off}
use Rattle.laws.specs.Laws.{Zero, RegisterZero}

-- entry 0 is zero
abbrev Zeroed : List ℕ → Type 0
Zeroed ws = get_or ws 0 0 ≡ 0

zero_written : (ws : List ℕ) (r : Register) (w : ℕ) → Zeroed ws → Zeroed (written ws r w)
zero_written ws r w h =
    cond_both (eqb (number_of r) 0) ws (set ws (number_of r) w) Zeroed (λ _. h)
    (λ e. get_or-set_other ws (number_of r) 0 w 0 (λ z. eqb-false (number_of r) 0 e (sym z)) ∙ h)

-- the registers that an act goes on with
abbrev ZeroAct : Act → Type 0
ZeroAct (go rs place) = Zeroed rs
ZeroAct _ = Unit {0}

zero_act : (i : Instruction) (place : ℕ) (rs : List ℕ) → Zeroed rs → ZeroAct (act i place rs)
zero_act (Compute f o) place rs h = zero_written rs o.rd _ h
zero_act (Not o) place rs h = zero_written rs o.rd _ h
zero_act (Jalr o) place rs h = zero_written rs o.rs1 _ h
zero_act (In rd) place rs h = tt
zero_act (Out rd) place rs h = cond_both (eqb (number_of rd) 0) halt (send_word _) ZeroAct (λ _. tt) (λ _. tt)
zero_act (Addi o) place rs h = zero_written rs o.rd _ h
zero_act (Shf o) place rs h = zero_written rs o.rd _ h
zero_act (Lw o) place rs h = tt
zero_act (Sw o) place rs h = tt
zero_act (Lli o) place rs h = zero_written rs o.rd _ h
zero_act (Lui o) place rs h = zero_written rs o.rd _ h
zero_act (Branch t o) place rs h = h

abbrev ZeroTurn : Turn → Type 0
ZeroTurn t = Zero t.after

module _ (cost : ℕ) (s : State) (h : Zero s) where
  zero_took : (r : Register) (m : Meaning) (a : Result ℕ Dry) → ZeroTurn (took cost r s m a)
  zero_took r m (Ok w) = zero_written s.registers r w h
  zero_took r m (Err e) = h

  zero_gave : (m : Meaning) (a : Result Unit Full) → ZeroTurn (gave cost s m a)
  zero_gave m (Ok u) = h
  zero_gave m (Err e) = h

  zero_performed : (A : Act) → ZeroAct A → ZeroTurn (perform cost A s)
  zero_performed (go rs place) k = k
  zero_performed (load r at) k = cond_both (ltb at (length s.memory)) _ _ ZeroTurn (λ _. zero_written s.registers r _ h) (λ _. h)
  zero_performed (store at w) k = cond_both (ltb at (length s.memory)) _ _ ZeroTurn (λ _. h) (λ _. h)
  zero_performed (take_word r) k = zero_took r _ (taking s.port).answer
  zero_performed (send_word w) k = zero_gave _ (sending s.port w).answer
  zero_performed halt k = h

zero_fetched : (o : Option Instruction) (s : State) → Zero s → ZeroTurn (fetched o s)
zero_fetched None s h = h
zero_fetched (Some i) s h = zero_performed (cost_of i) s h (act i s.place s.registers) (zero_act i s.place s.registers h)

zero_step : (s : State) → Zero s → Zero (step_of s).after
zero_step s h =
    cond_both s.halted _ _ ZeroTurn (λ _. h)
    (λ _. cond_both (ltb s.place (length s.memory)) _ _ ZeroTurn (λ _. zero_fetched (decoded (get_or s.memory s.place 0)) s h) (λ _. h))

zero_run : (budget : ℕ) (s : State) → Zero s → Zero (run_of budget s).after
zero_run zero s h = subst (λ r. Zero r.after) (sym (run_none s)) h
zero_run (suc n) s h =
    let rest = zero_run n (step_of s).after (zero_step s h) in
    by_answer s
    (λ k e. subst (λ r. Zero r.after) (sym (run_on n k s e)) rest)
    (λ stop e. subst (λ r. Zero r.after) (sym (run_off n s stop e)) h)

abbrev ZeroServed : {A : Type 0} → Served A → Type 0
ZeroServed v = Zero v.after.state

zero_running : (budget : ℕ) (s : Standing) → Zero s.state → ZeroServed (running budget s)
zero_running budget s h = by (sized s.size (length s.state.memory))
  where
    by : (a : Result Unit Refusal) → ZeroServed (elim a [
      | Err refusal ↦ refusing refusal s
      | Ok u ↦
          cond (ltb 1000000 budget) (refusing Budget s)
          (cond (ltb 100000000 (s.count + budget)) (refusing Count s)
          (counted s (run_of budget s.state)))
    ])
    by (Err refusal) = h
    by (Ok u) =
        cond_both (ltb 1000000 budget) _ _ ZeroServed (λ _. h)
        (λ _. cond_both (ltb 100000000 (s.count + budget)) _ _ ZeroServed (λ _. h) (λ _. zero_run budget s.state h))

zero_loading : (image : List ℕ) (s : Standing) → Zero s.state → ZeroServed (loading image s)
zero_loading image s h =
    cond_both (unfit (length s.state.memory)) (refusing Memory s) _ ZeroServed (λ _. h)
    (λ _. cond_both (ltb (length s.state.memory) (length image)) (refusing Image s) (accepted image s) ZeroServed (λ _. h) (λ _. refl))

pub zeros_stay : RegisterZero
zeros_stay = record {
  at_first = λ size s. refl;
  after_word = zero_step;
  after_run = zero_running;
  after_load = zero_loading;
}
