use Rattle.theory.proofs.Single.{only_sum_counts}
use Rattle.theory.proofs.theorems.only_the_sum_counts.Goals as goal

pub returns : goal.returns
returns g c = only_sum_counts g.met.V.Tally.lawful
