use Rattle.facts.proofs.Words.{bit_of_or}
use Rattle.facts.proofs.sets.either.Goals as goal

pub returns : goal.returns
returns c = bit_of_or c.args.word c.args.other
