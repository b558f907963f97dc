-- What holds of the words that operations place. Assumes nothing.
use Rattle.std.specs.Prelude.{◌≡◌, ℕ, ◌+◌, ◌<◌, true, List, length, Ok}
use Rattle.words.specs.Immediates.{extended}
use Rattle.words.specs.Values.{wrapped}
use Rattle.words.specs.Acts.{behind}
use Rattle.operands.specs.declared.Immediate.TheVariants.{Label}
use Rattle.operations.specs.Kinds.{Read, width_of}
use Rattle.placement.specs.Resolving.{ValuesOf, reaches}
use Rattle.placement.specs.Expansion.{distance_of}
use Rattle.placement.specs.Placing.{words_of}

pub record PlacementLaws : Type 0 where
  -- an operation's width is the number of its words, wherever it stands and whatever values its labels have
  pub widths : (labels : ValuesOf) (address : ℕ) (o : Read) (ws : List ℕ) → words_of labels address o ≡ Ok ws → length ws ≡ width_of o
  -- a branch that reaches a label goes to exactly the label's value
  pub branches : (address v : ℕ) → address < 65536 → v < 65536 → reaches address v ≡ true → wrapped (behind address + extended (distance_of address (Label v))) ≡ v
