use Rattle.facts.proofs.Words.{bit_of_less}
use Rattle.facts.proofs.sets.less.Goals as goal

pub returns : goal.returns
returns c = bit_of_less c.args.word c.args.other
