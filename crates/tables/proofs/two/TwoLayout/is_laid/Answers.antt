use Rattle.tables.proofs.TwoFacts.{pairs_laid}
use Rattle.tables.proofs.Order.{laws_of}
use Rattle.tables.proofs.two.TwoLayout.is_laid.Goals as goal

pub returns : goal.returns
returns g c = λ b. pairs_laid (laws_of g.V.Tally g.met.V.Tally.lawful) b
