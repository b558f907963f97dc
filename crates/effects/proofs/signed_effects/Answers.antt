use Rattle.effects.proofs.Told.{signed_effects}
use Rattle.effects.proofs.Wholes.{once, of_signed}
use Rattle.effects.proofs.signed_effects.Goals as goal

pub returns : goal.returns
returns c = record { effects = signed_effects; once = once; signed = of_signed }
