use Rattle.facts.proofs.Members.{same_facts}
use Rattle.facts.proofs.sets.equal_facts_equal_sets.Goals as goal

pub returns : goal.returns
returns c = same_facts
