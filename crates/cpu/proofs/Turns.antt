-- A word that is done costs one cycle; a stop alters nothing and is never the end of the budget.
use Rattle.std.proofs.Common.{◌≡◌, ℕ, Bool, true, false, cond, ltb, length, get_or, Some, None, Ok, Err, Option, Result, sym, refl, subst}
use Rattle.words.specs.declared.Register.{Register}
use Rattle.words.specs.declared.Instruction.{Instruction}
use Rattle.words.specs.Coding.{decoded, cost_of}
use Rattle.words.specs.Acts.{Act, go, load, store, take_word, send_word, halt, act}
use Rattle.port.specs.declared.Dry.{Dry}
use Rattle.port.specs.declared.Full.{Full}
use Rattle.port.specs.Meaning.{Meaning, taking, sending}
use Rattle.cpu.specs.declared.Stop.{Stop}
use Rattle.cpu.specs.declared.Stop.TheVariants.{Spent}
use Rattle.cpu.specs.States.{State}
use Rattle.cpu.specs.Steps.{Turn, took, gave, perform, fetched, step_of}

-- what a turn from a state is, by its answer
abbrev pub Turned : ℕ → State → Result ℕ Stop → State → Type 0
Turned cost s (Ok k) after = k ≡ cost
Turned cost s (Err stop) after = (after ≡ s) × (stop ≡ Spent → ⊥)

abbrev turned : ℕ → State → Turn → Type 0
turned cost s t = Turned cost s t.answer t.after

module _ (cost : ℕ) (s : State) where
  if_so : (b : Bool) (t u : Turn) → turned cost s t → turned cost s u → turned cost s (cond b t u)
  if_so true t u h k = h
  if_so false t u h k = k

  taken : (r : Register) (m : Meaning) (a : Result ℕ Dry) → turned cost s (took cost r s m a)
  taken r m (Ok w) = refl
  taken r m (Err e) = (refl, λ z. cc)

  given : (m : Meaning) (a : Result Unit Full) → turned cost s (gave cost s m a)
  given m (Ok u) = refl
  given m (Err e) = (refl, λ z. cc)

  performed : (A : Act) → turned cost s (perform cost A s)
  performed (go rs place) = refl
  performed (load r at) = if_so (ltb at (length s.memory)) _ _ refl (refl, λ z. cc)
  performed (store at w) = if_so (ltb at (length s.memory)) _ _ refl (refl, λ z. cc)
  performed (take_word r) = taken r (taking s.port).after (taking s.port).answer
  performed (send_word w) = given (sending s.port w).after (sending s.port w).answer
  performed halt = refl

did_word : (s : State) (o : Option Instruction) → turned 1 s (fetched o s)
did_word s None = (refl, λ z. cc)
did_word s (Some i) = performed (cost_of i) s (act i s.place s.registers)

pub turns : (s : State) → Turned 1 s (step_of s).answer (step_of s).after
turns s =
    if_so 1 s s.halted _ _ (refl, λ z. cc)
    (if_so 1 s (ltb s.place (length s.memory)) _ _ (did_word s (decoded (get_or s.memory s.place 0))) (refl, λ z. cc))

pub costs_one : (s : State) (k : ℕ) → Ok k ≡ (step_of s).answer → k ≡ 1
costs_one s k e = subst (λ a. Turned 1 s a (step_of s).after) (sym e) (turns s)

pub stays : (s : State) (stop : Stop) → Err stop ≡ (step_of s).answer → ((step_of s).after ≡ s) × (stop ≡ Spent → ⊥)
stays s stop e = subst (λ a. Turned 1 s a (step_of s).after) (sym e) (turns s)
