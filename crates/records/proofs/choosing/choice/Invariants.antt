use Rattle.std.proofs.Common.{take}
use Rattle.records.proofs.Picks.{Picked}
use Rattle.records.proofs.choosing.choice.Given as goal

abbrev pub invariant-loop-number : goal.invariant-loop-number
invariant-loop-number g l = Picked g.V.Tally (take l.number l.rows) l.best
