use Rattle.facts.proofs.Members.{counted}
use Rattle.facts.proofs.sets.count_facts.Goals as goal

pub returns : goal.returns
returns c = counted c.args.set
