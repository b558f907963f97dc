-- A new machine loaded and run over a port of some meaning, as the definitions tell it.
use Rattle.std.proofs.Common.{◌≡◌, ℕ, suc, ◌+◌, ◌-◌, ◌<◌, ◌≤◌, List, Ok, Err, Result, MatchResult, sym, refl, ap, ◌∙◌, arith}
use Rattle.port.specs.Meaning.{Meaning}
use Rattle.port.specs.Tape as tape
use Rattle.machine.specs.declared.Look.{Look}
use Rattle.machine.specs.declared.Refusal.{Refusal}
use Rattle.machine.specs.Calls.{Standing, unloaded, loading, running, shown}
use Rattle.bench_run.specs.Timed.{runs_from, timed, count_of}

pub timed_is : {m : Meaning} {before after end : Standing} (image memory input output : List ℕ) (runs : ℕ)
    → m ≡ tape.fresh input output
    → before ≡ unloaded memory m
    → after ≡ (loading image before).after
    → end ≡ runs_from runs after
    → end ≡ timed image memory input output runs
timed_is image memory input output runs fresh_is new_is load_is run_is =
    run_is ∙ ap (runs_from runs) (load_is ∙ ap (λ s. (loading image s).after) (new_is ∙ ap (unloaded memory) fresh_is))

one_run : (n : ℕ) (s : Standing) → runs_from (suc n) s ≡ runs_from n (running 1000000 s).after
unfolding runs_from
one_run n s = refl

-- one run more, of a loop that has done i of them
pub again : (runs i : ℕ) (s t whole : Standing) → i < runs → t ≡ (running 1000000 s).after → runs_from (runs - i) s ≡ whole → runs_from (runs - (i + 1)) t ≡ whole
again runs i s t whole h p so_far =
    let left : runs - i ≡ suc (runs - (i + 1)) = omega arith in
    ap (runs_from (runs - (i + 1))) p ∙ sym (one_run (runs - (i + 1)) s) ∙ ap (λ n. runs_from n s) (sym left) ∙ so_far

pub over : (runs i : ℕ) (s whole : Standing) → runs ≤ i → runs_from (runs - i) s ≡ whole → s ≡ whole
unfolding runs_from
over runs i s whole h so_far = let none : 0 ≡ runs - i = omega arith in ap (λ n. runs_from n s) none ∙ so_far

-- what a look's count or else 0 is, by what is known of it behind a look
pub counted : {P : Look → Type 0} (a : Result Look Refusal) (n : ℕ) → ((l : Look) → P l → n ≡ l.count) → MatchResult a P (λ _. n ≡ 0) → n ≡ count_of (shown a)
counted (Ok l) n f e = f l e
counted (Err refusal) n f e = e
