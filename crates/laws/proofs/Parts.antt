-- A run in parts, and its cycles against its budget.
use Rattle.std.proofs.Common.{◌≡◌, ℕ, zero, suc, ◌+◌, Bool, true, false, Ok, Err, sym, refl, ap, ◌∙◌, subst, suc-add, zero-add, arith}
use Rattle.cpu.specs.declared.Stop.{Stop}
use Rattle.cpu.specs.declared.Stop.TheVariants.{Spent}
use Rattle.cpu.specs.States.{State}
use Rattle.cpu.specs.Steps.{step_of}
use Rattle.cpu.proofs.Turns.{stays}
use Rattle.machine.specs.Runs.{Ran, ended, adding, at_end, run_of}
use Rattle.machine.proofs.Going.{by_answer, run_none, run_on, run_off, halted_run, adding_twice}
use Rattle.laws.specs.Laws.{and_then, BudgetInParts, Kept, WithinBudget}

adding_none : (r : Ran) → adding 0 r ≡ r
adding_none r = ap (λ n. record { stop = r.stop; cycles = n; after = r.after }) (zero-add r.cycles)

then_adding : (budget k : ℕ) (r : Ran) (stop : Stop) → and_then budget stop (adding k r) ≡ adding k (and_then budget stop r)
then_adding budget k r Spent = sym (adding_twice k r.cycles (run_of budget r.after))
then_adding budget k r _ = refl

then_ended : (budget : ℕ) (s : State) (stop : Stop) → (stop ≡ Spent → ⊥) → ended stop s ≡ and_then budget stop (ended stop s)
then_ended budget s Spent h = absurd (h refl)
then_ended budget s _ h = refl

none_first : (b : ℕ) (s : State) (halted : Bool) → s.halted ≡ halted → run_of b s ≡ and_then b (at_end halted) (ended (at_end halted) s)
none_first b s true h = halted_run b s h
none_first b s false h = sym (adding_none (run_of b s))

pub in_parts : BudgetInParts
in_parts zero b s =
    ap (λ n. run_of n s) (zero-add b) ∙ none_first b s s.halted refl ∙ ap (λ r. and_then b r.stop r) (sym (run_none s))
in_parts (suc a) b s = ap (λ n. run_of n s) (suc-add a b) ∙ by_answer s (on (in_parts a b t)) off
  where
    t : State
    t = (step_of s).after

    Goal : Type 0
    Goal = run_of (suc (a + b)) s ≡ and_then b (run_of (suc a) s).stop (run_of (suc a) s)

    on : run_of (a + b) t ≡ and_then b (run_of a t).stop (run_of a t) → (k : ℕ) → Ok k ≡ (step_of s).answer → Goal
    on rest k e =
        run_on (a + b) k s e ∙ ap (adding 1) rest ∙ sym (then_adding b 1 (run_of a t) (run_of a t).stop)
        ∙ ap (λ r. and_then b r.stop r) (sym (run_on a k s e))

    off : (stop : Stop) → Err stop ≡ (step_of s).answer → Goal
    off stop e =
        run_off (a + b) s stop e ∙ then_ended b s stop (stays s stop e).1
        ∙ ap (λ r. and_then b r.stop r) (sym (run_off a s stop e))

pub within : WithinBudget
within zero s = subst (Kept 0) (sym (run_none s)) (record { within = omega arith; whole = λ spent. refl })
within (suc n) s =
    let rest = within n (step_of s).after in
    by_answer s
    (λ k e. subst (Kept (suc n)) (sym (run_on n k s e)) (record { within = omega (arith, rest.within); whole = λ spent. omega (arith, rest.whole spent) }))
    (λ stop e. subst (Kept (suc n)) (sym (run_off n s stop e)) (record { within = omega arith; whole = λ spent. absurd ((stays s stop e).1 spent) }))
