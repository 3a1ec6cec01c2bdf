-- Minutes and the worst price keep the laws of a kind of cost, as their implementations show.
use Rattle.costs.specs.Kinds.{minutes, worst}
use Rattle.costs.specs.Laws.{Lawful}
use Rattle.costs.specs.contracts.minutes.sums.MinutesTally.TheImpl.Laws.{lawful as of_minutes}
use Rattle.costs.specs.contracts.worst.WorstTally.TheImpl.Laws.{lawful as of_worst}
use Rattle.tables.proofs.Order.{LawsOf}

pub minutes_lawful : Lawful minutes.at_most minutes.nil minutes.join
minutes_lawful = of_minutes.lawful

pub worst_lawful : Lawful worst.at_most worst.nil worst.join
worst_lawful = of_worst.lawful

-- the same, as the tables ask for them
pub minutes_laws : LawsOf minutes
minutes_laws = record { lawful = minutes_lawful }

pub worst_laws : LawsOf worst
worst_laws = record { lawful = worst_lawful }
