use Rattle.tables.proofs.Closing.{greatest_is_sole}
use Rattle.tables.proofs.Order.{laws_of}
use Rattle.tables.proofs.theorems.greatest_is_sole.Goals as goal

pub returns : goal.returns
returns g c = greatest_is_sole (laws_of g.V.Tally g.met.V.Tally.lawful)
