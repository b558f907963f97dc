-- What is cut off the front of a text. Assumes nothing.
use Rattle.std.specs.Prelude.{◌≡◌, ℕ, ◌<◌, List, [], ◌∷◌, length, Some, None, Option}
use Rattle.std.specs.Borrow.{Bor}

-- a text is told as a list: nothing is told of it, or its first item is cut off and the rest is shorter
abbrev pub Cut : (List ℕ → List (List ℕ)) → List ℕ → Option (Bor (List ℕ) × Bor (List ℕ)) → Type 0
Cut told text None = told text ≡ []
Cut told text (Some (item, rest)) = (told text ≡ item.now ∷ told rest.now) × (length rest.now < length text)

-- what removing the first item leaves: the text as it is where nothing is told of it, or else a shorter rest
abbrev pub Removed : (List ℕ → List (List ℕ)) → Option (Bor (List ℕ)) → List ℕ → List ℕ → Type 0
Removed told None before after = (told before ≡ []) × (after ≡ before)
Removed told (Some item) before after = (told before ≡ item.now ∷ told after) × (length after < length before)
