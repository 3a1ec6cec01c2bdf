use Rattle.std.proofs.Common.{take}
use Rattle.tasks.specs.Tasks.{moves_of}
use Rattle.costs.specs.Lists.{Costs}
use Rattle.costs.proofs.lists.join_charges.Given as goal

abbrev pub invariant-loop-number : goal.invariant-loop-number
invariant-loop-number g l = Costs g.V.Tally (moves_of l.task) (take l.number-index l.list) l.cost
