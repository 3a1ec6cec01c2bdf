use Rattle.taskfile.proofs.Listings.{Left}
use Rattle.taskfile.proofs.sets.set.Given as goal

-- what is right of the rest is right of the whole
abbrev pub invariant-loop-item : goal.invariant-loop-item
invariant-loop-item l = Left l.v l.read l.item-iterator.done l.item-iterator.rest.now
