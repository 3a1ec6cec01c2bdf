use Rattle.tasks.proofs.Chains.{good_lists_have_chains}
use Rattle.tasks.proofs.theorems.good_lists_have_chains.Goals as goal

pub returns : goal.returns
returns c = good_lists_have_chains
