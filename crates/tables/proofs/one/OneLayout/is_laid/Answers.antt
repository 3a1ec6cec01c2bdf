use Rattle.tables.proofs.OneFact.{singles_laid}
use Rattle.tables.proofs.Order.{laws_of}
use Rattle.tables.proofs.one.OneLayout.is_laid.Goals as goal

pub returns : goal.returns
returns g c = λ b. singles_laid (laws_of g.V.Tally g.met.V.Tally.lawful) b
