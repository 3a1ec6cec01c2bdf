use Rattle.tasks.proofs.Places.{at_less}
use Rattle.records.proofs.table.Records.shut.Goals as goal

pub put-requires : goal.put-requires
put-requires g c = at_less c.in-Some.ensures
