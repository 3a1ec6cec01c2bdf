use Rattle.tasks.proofs.Checks.{Passed}
use Rattle.tasks.proofs.task.checking.seek.Given as goal

abbrev pub invariant-loop-number : goal.invariant-loop-number
invariant-loop-number l = Passed l.draft l.refusal l.number
