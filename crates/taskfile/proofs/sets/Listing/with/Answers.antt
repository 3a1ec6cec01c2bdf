use Rattle.std.proofs.Common.{refl, arith}
use Rattle.taskfile.proofs.Decimals.{same_numeral}
use Rattle.taskfile.proofs.sets.Listing.with.Goals as goal

pub returns-then-n-self : goal.returns-then-n-self
returns-then-n-self c = (refl, λ n m le. let e = same_numeral c.args.item.now n c.in_ok-n.n m c.in_ok-n.ensures in omega arith)
