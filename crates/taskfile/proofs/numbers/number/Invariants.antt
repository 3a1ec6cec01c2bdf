use Rattle.taskfile.proofs.Decimals.{Sofar}
use Rattle.taskfile.proofs.numbers.number.Given as goal

abbrev pub invariant-loop-b : goal.invariant-loop-b
invariant-loop-b l = Sofar l.v l.b-index l.n
