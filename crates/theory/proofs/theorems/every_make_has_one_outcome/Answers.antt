use Rattle.theory.proofs.Single.{every_make_decided}
use Rattle.theory.proofs.theorems.every_make_has_one_outcome.Goals as goal

pub returns : goal.returns
returns g c = every_make_decided
