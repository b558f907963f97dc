-- One word more of a run, and its end.
use Rattle.std.proofs.Common.{◌≡◌, ℕ, zero, suc, ◌+◌, ◌-◌, ◌<◌, ◌≤◌, true, false, cond, Ok, Err, Result, sym, refl, ap, ◌∙◌, add-zero, sub-one, arith}
use Rattle.std.proofs.lemmas.Bool.{ne_eqb}
use Rattle.cpu.specs.declared.Stop.{Stop}
use Rattle.cpu.specs.declared.Stop.TheVariants.{Halted, Spent}
use Rattle.cpu.specs.States.{State}
use Rattle.cpu.specs.Steps.{step_of}
use Rattle.cpu.proofs.Turns.{costs_one, stays}
use Rattle.machine.specs.Runs.{Ran, ended, adding, at_end, goes, run_of}

-- what a word's answer leaves is told with the answer itself
pub by_answer : {P : Type 0} (s : State) → ((k : ℕ) → Ok k ≡ (step_of s).answer → P) → ((stop : Stop) → Err stop ≡ (step_of s).answer → P) → P
by_answer {P} s f g = by (step_of s).answer refl
  where
    by : (a : Result ℕ Stop) → a ≡ (step_of s).answer → P
    by (Ok k) e = f k e
    by (Err stop) e = g stop e

-- a run of one word more, by the word's answer
abbrev follows : ℕ → State → Result ℕ Stop → Ran
follows n s (Ok cost) = adding cost (goes n (suc n - cost) (step_of s).after)
follows n s (Err stop) = ended stop s

run_more : (n : ℕ) (s : State) → run_of (suc n) s ≡ follows n s (step_of s).answer
unfolding goes
run_more n s = ap (λ b. cond b (ended (at_end s.halted) s) (follows n s (step_of s).answer)) (ne_eqb (suc n) 0 (λ e. omega arith))

pub run_none : (s : State) → run_of 0 s ≡ ended (at_end s.halted) s
unfolding goes
run_none s = refl

pub run_on : (n k : ℕ) (s : State) → Ok k ≡ (step_of s).answer → run_of (suc n) s ≡ adding 1 (run_of n (step_of s).after)
run_on n k s e =
    run_more n s ∙ ap (follows n s) (sym e) ∙ ap (λ j. adding j (goes n (suc n - j) (step_of s).after)) (costs_one s k e) ∙ rw sub-one

pub run_off : (n : ℕ) (s : State) (stop : Stop) → Err stop ≡ (step_of s).answer → run_of (suc n) s ≡ ended stop s
run_off n s stop e = run_more n s ∙ ap (follows n s) (sym e)

-- a halted machine does no word
pub halted_run : (budget : ℕ) (s : State) → s.halted ≡ true → run_of budget s ≡ ended Halted s
halted_run zero s h = run_none s ∙ ap (λ b. ended (at_end b) s) h
halted_run (suc n) s h = run_off n s Halted (rw h)

pub adding_twice : (d k : ℕ) (r : Ran) → adding d (adding k r) ≡ adding (d + k) r
adding_twice d k r = let e : d + (k + r.cycles) ≡ d + k + r.cycles = omega arith in ap (λ n. record { stop = r.stop; cycles = n; after = r.after }) e

-- a run of a budget from its first state, as far as it has come: the cycles done, and the state now
pub record Going (budget cycles : ℕ) (first now : State) : Type 0 where
  pub within : cycles ≤ budget
  pub rest : adding cycles (run_of (budget - cycles) now) ≡ run_of budget first

module _ {b d : ℕ} {first s : State} (g : Going b d first s) where
  pub one_cycle : {k : ℕ} → Ok k ≡ (step_of s).answer → k ≡ 1
  one_cycle {k} e = costs_one s k e

  ends : (stop : Stop) → run_of (b - d) s ≡ ended stop s → record { stop = stop; cycles = d; after = s } ≡ run_of b first
  ends stop e = ap (λ n. record { stop = stop; cycles = n; after = s }) (sym (add-zero d)) ∙ ap (adding d) (sym e) ∙ g.rest

  pub done : b ≤ d → s.halted ≡ false → record { stop = Spent; cycles = d; after = s } ≡ run_of b first
  done h live =
      let none : b - d ≡ 0 = omega arith in
      ends Spent (ap (λ n. run_of n s) none ∙ run_none s ∙ ap (λ v. ended (at_end v) s) live)

  pub rests : s.halted ≡ true → record { stop = Halted; cycles = d; after = s } ≡ run_of b first
  rests h = ends Halted (halted_run (b - d) s h)

  module _ (below : d < b) {t : State} (same : t ≡ (step_of s).after) where
    left : b - d ≡ suc (b - (d + 1))
    left = omega arith

    pub again : {k : ℕ} → Ok k ≡ (step_of s).answer → Going b (d + k) first t
    again {k} e =
        let one = costs_one s k e in
        record {
          within = omega arith;
          rest =
              ap (λ j. adding (d + j) (run_of (b - (d + j)) t)) one
              ∙ sym (adding_twice d 1 _)
              ∙ ap (λ u. adding d (adding 1 (run_of (b - (d + 1)) u))) same
              ∙ ap (adding d) (sym (ap (λ n. run_of n s) left ∙ run_on _ k s e))
              ∙ g.rest;
        }

    pub stopped : {stop : Stop} → Err stop ≡ (step_of s).answer → record { stop = stop; cycles = d; after = t } ≡ run_of b first
    stopped {stop} e =
        ap (λ u. record { stop = stop; cycles = d; after = u }) (same ∙ (stays s stop e).0)
        ∙ ends stop (ap (λ n. run_of n s) left ∙ run_off _ s stop e)
