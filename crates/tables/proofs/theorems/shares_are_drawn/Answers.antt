use Rattle.tables.proofs.Closing.{shares_are_drawn}
use Rattle.tables.proofs.Order.{laws_of}
use Rattle.tables.proofs.theorems.shares_are_drawn.Goals as goal

pub returns : goal.returns
returns g c = shares_are_drawn (laws_of g.V.Tally g.met.V.Tally.lawful)
