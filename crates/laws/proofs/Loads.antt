-- The memory after a load.
use Rattle.std.proofs.Common.{◌≡◌, ℕ, ◌-◌, ◌≤◌, ltb, List, ◌++◌, length, get_or, replicate, Ok, refl, ◌∙◌, ⊎_elim, arith}
use Rattle.std.proofs.lemmas.List.{length-append, length-replicate, get_or_append_left, get_or-append_right, get_or-replicate, get_or_past}
use Rattle.std.proofs.lemmas.Bool.{cases_lt, ltb-false, cond_both}
use Rattle.machine.specs.declared.Refusal.TheVariants.{Memory, Image}
use Rattle.machine.specs.Calls.{Standing, Served, refusing, unfit, accepted, loading}
use Rattle.laws.specs.Laws.{Holds, Loaded, LoadedMemory}

zero_at : (n i : ℕ) → get_or {A = ℕ} (replicate n 0) i 0 ≡ 0
zero_at n i =
    ⊎_elim (λ h. get_or-replicate n i 0 0 h) (λ h. get_or_past (replicate n 0) i 0 (simp length-replicate h)) (cases_lt i n)

holds : (image : List ℕ) (n : ℕ) → Holds image (image ++ replicate n 0)
holds image n = record {
  image_words = λ i h. get_or_append_left image (replicate n 0) 0 i h;
  zeros_behind = λ i h. get_or-append_right image (replicate n 0) (length image) i 0 refl h ∙ zero_at n (i - length image);
}

-- of two tests that may refuse, neither did
module _ (image : List ℕ) (s : Standing) where
  loaded : length image ≤ length s.state.memory → Loaded image s (accepted image s).after
  loaded h = record {
    same_length = simp (length-append, length-replicate) (omega arith);
    words = holds image (length s.state.memory - length image);
  }

  -- what is owed of a call that answers Ok
  abbrev Owed : Served Unit → Type 0
  Owed v = v.answer ≡ Ok tt → Loaded image s v.after

  pub if_accepted : Owed (loading image s)
  if_accepted =
      cond_both (unfit (length s.state.memory)) (refusing Memory s) _ Owed (λ _ q. cc)
      (λ _. cond_both (ltb (length s.state.memory) (length image)) (refusing Image s) (accepted image s) Owed (λ _ q. cc) (λ e q. loaded (ltb-false _ (length image) e)))

pub loads : LoadedMemory
loads image s q = if_accepted image s q
