use Rattle.bounds.proofs.Floors.{estimates_are_floors}
use Rattle.bounds.proofs.theorems.estimates_are_floors.Goals as goal

pub returns : goal.returns
returns g c = estimates_are_floors g.met.V.Tally.lawful
