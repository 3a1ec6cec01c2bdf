use Rattle.tasks.proofs.Chains.{chains_are_good_lists}
use Rattle.tasks.proofs.theorems.chains_are_good_lists.Goals as goal

pub returns : goal.returns
returns c = chains_are_good_lists
