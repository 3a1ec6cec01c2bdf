use Rattle.facts.proofs.Words.{bit_none}
use Rattle.facts.proofs.sets.no_bits.Goals as goal

pub returns : goal.returns
returns c = bit_none
