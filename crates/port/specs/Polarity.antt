-- What a polarity means, by what the port below it means.
-- Assumes nothing.
use Rattle.port.specs.Meaning.{Meaning, masked}
use Rattle.port.specs.declared.polarities.Polarity.{Polarity}

-- the meaning of a polarity, by the meaning of the ports of the kind below it
abbrev pub through : {X : Type 0} → (X → Meaning) → Polarity X → Meaning
through means polarity = masked polarity.mask (means polarity.below)
