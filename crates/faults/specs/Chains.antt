-- Answers one after another, as `?` joins them. Assumes nothing.
use Rattle.std.specs.Prelude.{◌≡◌, ℕ, ◌<◌, List, [], ◌∷◌, length, take, Some, None, Ok, Err, Option, Result}
use Rattle.std.specs.Borrow.{Bor}

-- go on with the value, or stop with the fault as the next layer has it
abbrev pub and_then : {X Y E F : Type 0} → Result X E → (E → F) → (X → Result Y F) → Result Y F
and_then (Ok x) up go = go x
and_then (Err e) up go = Err (up e)

-- the same within one layer
abbrev pub then : {X Y E : Type 0} → Result X E → (X → Result Y E) → Result Y E
then r go = and_then r (λ e. e) go

-- an answer with its value seen through a function
abbrev pub under : {X Y E : Type 0} → (X → Y) → Result X E → Result Y E
under f (Ok x) = Ok (f x)
under f (Err e) = Err e

-- the values of all answers, or the first fault
abbrev pub gathered : {X E : Type 0} → List (Result X E) → Result (List X) E
gathered [] = Ok []
gathered (r ∷ rs) = then r (λ x. then (gathered rs) (λ xs. Ok (x ∷ xs)))

-- the first of the answers that a text is told as: none is left, a value and the text behind it, or a fault
abbrev pub First : {X Y E : Type 0} → (List ℕ → List (Result Y E)) → (X → Y) → List ℕ → Result (Option (X × Bor (List ℕ))) E → Type 0
First told seen before (Ok None) = told before ≡ []
First told seen before (Ok (Some (x, rest))) = (told before ≡ Ok (seen x) ∷ told rest.now) × (length rest.now < length before)
First told seen before (Err e) = take 1 (told before) ≡ Err e ∷ []

-- what removing the first of the answers leaves: nothing was left, the first value is removed, or a fault stands first and all stays
abbrev pub Removed : {X Y E : Type 0} → (List ℕ → List (Result Y E)) → (X → Y) → Result (Option X) E → List ℕ → List ℕ → Type 0
Removed told seen (Ok None) before after = (told before ≡ []) × (after ≡ before)
Removed told seen (Ok (Some x)) before after = (told before ≡ Ok (seen x) ∷ told after) × (length after < length before)
Removed told seen (Err e) before after = (take 1 (told before) ≡ Err e ∷ []) × (after ≡ before)

-- what an iterator over answers removes: nothing is left, the first value is removed, or a fault stands first and behind it nothing is left
abbrev pub Next : {X Y E : Type 0} → (List ℕ → List (Result Y E)) → (X → Y) → Option (Result X E) → List ℕ → List ℕ → Type 0
Next told seen None before after = (told before ≡ []) × (after ≡ before)
Next told seen (Some (Ok x)) before after = (told before ≡ Ok (seen x) ∷ told after) × (length after < length before)
Next told seen (Some (Err e)) before after = (take 1 (told before) ≡ Err e ∷ []) × (told after ≡ [])
