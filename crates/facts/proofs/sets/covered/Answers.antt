use Rattle.facts.proofs.Words.{covers}
use Rattle.facts.proofs.sets.covered.Goals as goal

pub returns : goal.returns
returns c = covers c.args.word c.args.by
