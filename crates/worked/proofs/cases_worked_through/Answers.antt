use Rattle.worked.proofs.Cases.{worked_cases}
use Rattle.worked.proofs.cases_worked_through.Goals as goal

pub returns : goal.returns
returns c = worked_cases
