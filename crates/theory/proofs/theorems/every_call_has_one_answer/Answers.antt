use Rattle.theory.proofs.Single.{every_call_answered}
use Rattle.theory.proofs.theorems.every_call_has_one_answer.Goals as goal

pub returns : goal.returns
returns g c = every_call_answered g.met.V.Tally.lawful
