use Rattle.std.proofs.Common.{arith}
use Rattle.facts.proofs.Words.{shares}
use Rattle.facts.proofs.sets.share.Goals as goal

pub returns : goal.returns
returns c = shares c.args.word c.args.other (omega (arith, c.ranges.word.fits))
