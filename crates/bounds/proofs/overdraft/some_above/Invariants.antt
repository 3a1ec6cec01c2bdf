use Rattle.bounds.proofs.Shares.{Passed}
use Rattle.bounds.proofs.overdraft.some_above.Given as goal

abbrev pub invariant-loop-number : goal.invariant-loop-number
invariant-loop-number g l = Passed g.B.Value.Tally l.moves (g.B.Bound.shared l.bound) l.number
