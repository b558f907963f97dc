-- How many fields a statement has, and text in `.cstr` alone. Assumes nothing.
use Rattle.std.specs.Prelude.{ℕ, ◌+◌, Bool, cond, not, List, [], ◌∷◌, length, drop, Ok, Err, Result, ◌==◌, slice_index}
use Rattle.std.specs.List.{list_any, list_all}
use Rattle.faults.specs.declared.StatementFault.{StatementFault}
use Rattle.faults.specs.declared.StatementFault.TheVariants.{Malformed}
use Rattle.faults.specs.Chains.{then, under, gathered}
use Rattle.operands.specs.Texts.{characters}

-- a field without a quote
abbrev pub plain : List ℕ → Bool
plain field = not (list_any (λ c. c == 34) field)

-- no text among the fields
abbrev pub plain_fields : List (List ℕ) → Result Unit StatementFault
plain_fields fs = cond (list_all plain fs) (Ok tt) (Err Malformed)

-- so many fields and no more, and no text among them
abbrev pub exactly : ℕ → List (List ℕ) → Result Unit StatementFault
exactly n fs = cond (length fs == n) (plain_fields fs) (Err Malformed)

-- one field or more, and no text among them
abbrev pub some_fields : List (List ℕ) → Result Unit StatementFault
some_fields fs = cond (length fs == 0) (Err Malformed) (plain_fields fs)

-- the first field, and those behind it
abbrev pub first_field : List (List ℕ) → Result (List ℕ × List (List ℕ)) StatementFault
first_field [] = Err Malformed
first_field (f ∷ fs) = Ok (f, fs)

-- one field and no more, which is no text
abbrev pub only_field : List (List ℕ) → Result (List ℕ) StatementFault
only_field fs = then (exactly 1 fs) (λ right. under (λ a. a.0) (first_field fs))

-- items with their number
abbrev pub numbered : {X : Type 0} → List X → List X × ℕ
numbered xs = (xs, length xs)

-- characters with the number of words that they and a zero are
abbrev pub terminated : List ℕ → List ℕ × ℕ
terminated cs = (cs, length cs + 1)

-- one text and nothing else
abbrev pub string : List (List ℕ) → Result (List ℕ) StatementFault
string [] = Err Malformed
string (f ∷ fs) = then (exactly 0 fs) (λ end. cond (slice_index f 0 == 34) (gathered (characters (drop 1 f))) (Err Malformed))
