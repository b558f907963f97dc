-- All answers of a list, and those before its first fault.
use Rattle.std.proofs.Common.{◌≡◌, ℕ, List, [], ◌∷◌, length, Ok, Err, Result, sym, refl, ap, ◌∙◌}
use Rattle.std.specs.Result.{ok_prefix}
use Rattle.faults.specs.Chains.{then, under, gathered}

module _ {X E : Type 0} where
  -- where all are good, they are those before the first fault
  pub gathered_good : (rs : List (Result X E)) (xs : List X) → gathered rs ≡ Ok xs → ok_prefix rs ≡ xs
  gathered_good [] xs h = cc
  gathered_good (Ok x ∷ rs) xs h = by (gathered rs) refl h (gathered_good rs)
    where
      by : (g : Result (List X) E) → gathered rs ≡ g → then g (λ ys. Ok (x ∷ ys)) ≡ Ok xs → ((ys : List X) → gathered rs ≡ Ok ys → ok_prefix rs ≡ ys) → x ∷ ok_prefix rs ≡ xs
      by (Ok ys) e h more = ap (λ l. x ∷ l) (more ys e) ∙ cc
      by (Err f) e h more = cc
  gathered_good (Err e ∷ rs) xs h = cc

  -- what a count of all answers tells
  pub record Counted (n : ℕ) (rs : List (Result X E)) : Type 0 where
    pub all : gathered rs ≡ Ok (ok_prefix rs)
    pub many : n ≡ length (ok_prefix rs)

  pub counted : (n : ℕ) (rs : List (Result X E)) → Ok n ≡ under length (gathered rs) → Counted n rs
  counted n rs h = by (gathered rs) refl h
    where
      by : (g : Result (List X) E) → gathered rs ≡ g → Ok n ≡ under length g → Counted n rs
      by (Ok xs) e h = let is = gathered_good rs xs e in record { all = e ∙ ap Ok (sym is); many = (let same : n ≡ length xs = cc in same ∙ ap length (sym is)) }
      by (Err f) e h = cc

  pub counted_fault : (f : E) (rs : List (Result X E)) → Err f ≡ under length (gathered rs) → gathered rs ≡ Err f
  counted_fault f rs h = by (gathered rs) refl h
    where
      by : (g : Result (List X) E) → gathered rs ≡ g → Err f ≡ under length g → gathered rs ≡ Err f
      by (Ok xs) e h = cc
      by (Err d) e h = e ∙ sym cc
