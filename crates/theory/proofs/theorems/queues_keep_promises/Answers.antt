use Rattle.theory.proofs.Kept.{queues_keep_promises}
use Rattle.theory.proofs.theorems.queues_keep_promises.Goals as goal

pub returns : goal.returns
returns g c = queues_keep_promises g.met.V.Tally.lawful
