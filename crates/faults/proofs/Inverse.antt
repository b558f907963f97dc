-- What stands behind an answer that is good.
use Rattle.std.proofs.Common.{◌≡◌, Bool, true, false, cond, ◌⊎◌, List, [], ◌∷◌, ◌++◌, map, Ok, Err, Result, sym, refl, ap, subst, inl, inr, ⊎_elim}
use Rattle.faults.specs.Chains.{and_then, then, under, gathered}

-- an answer is not both
pub never : {X E : Type 0} {P : Type 0} {x : X} {e : E} → Ok x ≡ Err e → P
never h = cc

pub same_value : {X E : Type 0} (x y : X) → ◌≡◌ {A = Result X E} (Ok x) (Ok y) → x ≡ y
same_value x y h = cc

-- what holds of the value holds of the one answered
pub held_ok : {X E : Type 0} (P : X → Type 0) {x y : X} → ◌≡◌ {A = Result X E} (Ok x) (Ok y) → P x → P y
held_ok P {x} {y} h p = subst P (same_value x y h) p

-- what holds of every value holds of the one answered
pub held_and_then : {X Y E F : Type 0} (P : Y → Type 0) (r : Result X E) (up : E → F) (go : X → Result Y F) (y : Y)
    → and_then r up go ≡ Ok y → ((x : X) → r ≡ Ok x → go x ≡ Ok y → P y) → P y
held_and_then P (Ok x) up go y h all = all x refl h
held_and_then P (Err e) up go y h all = never (sym h)

pub held_under : {X Y E : Type 0} (P : Y → Type 0) (f : X → Y) (r : Result X E) (y : Y) → under f r ≡ Ok y → ((x : X) → r ≡ Ok x → P (f x)) → P y
held_under P f (Ok x) y h all = held_ok P h (all x refl)
held_under P f (Err e) y h all = never (sym h)

pub held_cond : {Y F : Type 0} (P : Y → Type 0) (b : Bool) (one two : Result Y F) (y : Y) → cond b one two ≡ Ok y → (b ≡ true → one ≡ Ok y → P y) → (b ≡ false → two ≡ Ok y → P y) → P y
held_cond P true one two y h first second = first refl h
held_cond P false one two y h first second = second refl h

-- a list of answers: all good, or good up to a first fault
module _ {X E : Type 0} where
  abbrev oks : List X → List (Result X E)
  oks xs = map Ok xs

  pub all_good : (xs : List X) → gathered (oks xs) ≡ Ok xs
  all_good [] = refl
  all_good (x ∷ xs) = ap (λ r. then r (λ ys. Ok (x ∷ ys))) (all_good xs)

  pub first_fault : (xs : List X) (e : E) (rest : List (Result X E)) → gathered (oks xs ++ (Err e ∷ rest)) ≡ Err e
  first_fault [] e rest = refl
  first_fault (x ∷ xs) e rest = ap (λ r. then r (λ ys. Ok (x ∷ ys))) (first_fault xs e rest)

  pub either : (rs : List (Result X E)) → ((xs : List X) × (rs ≡ oks xs)) ⊎ ((xs : List X) × ((e : E) × ((rest : List (Result X E)) × (rs ≡ oks xs ++ (Err e ∷ rest)))))
  either [] = inl ([], refl)
  either (Err e ∷ rs) = inr ([], (e, (rs, refl)))
  either (Ok x ∷ rs) =
      ⊎_elim
      (λ a. inl (x ∷ a.0, ap (λ l. Ok x ∷ l) a.1))
      (λ b. inr (x ∷ b.0, (b.1.0, (b.1.1.0, ap (λ l. Ok x ∷ l) b.1.1.1))))
      (either rs)
