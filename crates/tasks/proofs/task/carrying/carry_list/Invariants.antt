use Rattle.std.proofs.Common.{take}
use Rattle.tasks.specs.Lists.{Carried}
use Rattle.tasks.proofs.task.carrying.carry_list.Given as goal

abbrev pub invariant-loop-at : goal.invariant-loop-at
invariant-loop-at l = Carried l.moves l.initial.facts (take l.at l.list) l.facts
