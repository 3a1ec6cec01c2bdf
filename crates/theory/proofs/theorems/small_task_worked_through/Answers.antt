use Rattle.theory.proofs.Examples.{worked}
use Rattle.theory.proofs.theorems.small_task_worked_through.Goals as goal

pub returns : goal.returns
returns c = worked
