use Rattle.bounds.proofs.Piles.{piles_are_sound}
use Rattle.bounds.proofs.theorems.piles_are_sound.Goals as goal

pub returns : goal.returns
returns g c = piles_are_sound g.met.V.Tally.lawful
