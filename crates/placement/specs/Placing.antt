-- The words of an operation in a lent buffer. Assumes nothing.
use Rattle.std.specs.Prelude.{ℕ, cond, List, [], ◌∷◌, ◌++◌, map, length, Ok, Err, Result, nat_lt}
use Rattle.buffers.specs.Buffers.{blank, padded}
use Rattle.faults.specs.declared.LabelFault.{LabelFault}
use Rattle.faults.specs.declared.StatementFault.{StatementFault}
use Rattle.faults.specs.declared.StatementFault.TheVariants.{TooManyWords, InLabel}
use Rattle.faults.specs.Chains.{under}
use Rattle.operations.specs.Kinds.{Read, seen_values, seen_text}
use Rattle.placement.specs.declared.expansion.Words.{Words}
use Rattle.placement.specs.declared.expansion.Words.TheVariants.{Nothing, One, Two, Each, Characters}
use Rattle.placement.specs.Resolving.{ValuesOf, resolved_word, resolved}
use Rattle.placement.specs.Expansion.{expanded, words_in}

-- the words that an operation at an address places
abbrev pub words_of : ValuesOf → ℕ → Read → Result (List ℕ) LabelFault
words_of labels address o = under (λ r. words_in (expanded address r)) (resolved labels address o)

-- the words that the code holds: by themselves, or in a part of a line
abbrev pub answers : ValuesOf → Words → List (Result ℕ LabelFault)
answers labels Nothing = []
answers labels (One a) = Ok a ∷ []
answers labels (Two a b) = Ok a ∷ Ok b ∷ []
answers labels (Each vs) = map (resolved_word labels) (seen_values vs)
answers labels (Characters cs) = map Ok (seen_text cs ++ 0 ∷ [])

-- what is answered, and the buffer after
pub record Placing : Type 0 where
  pub answer : Result ℕ StatementFault
  pub after : List ℕ

-- the words at the front of a buffer of a length, zeros behind them; all zero where they do not fit or a label is at fault
abbrev pub placing : Result (List ℕ) LabelFault → ℕ → Placing
placing (Ok ws) n =
    cond (nat_lt n (length ws)) (record { answer = Err TooManyWords; after = blank n })
    (record { answer = Ok (length ws); after = padded ws n })
placing (Err fault) n = record { answer = Err (InLabel fault); after = blank n }
