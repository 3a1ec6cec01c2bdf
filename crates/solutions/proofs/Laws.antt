-- Minutes keep the laws of a kind of cost, as the tables ask for them.
use Rattle.costs.specs.contracts.minutes.sums.MinutesTally.TheImpl.Laws.{lawful}
use Rattle.tables.proofs.Order.{LawsOf}
use Rattle.costs.specs.Kinds.{minutes}

pub minutes_laws : LawsOf minutes
minutes_laws = record { lawful = lawful.lawful }
