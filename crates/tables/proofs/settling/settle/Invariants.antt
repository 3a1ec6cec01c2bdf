use Rattle.std.proofs.Common.{false}
use Rattle.tables.specs.Nets.{read, place_of}
use Rattle.tables.specs.Origins.{setting_in}
use Rattle.tables.specs.Settling.{Settling}
use Rattle.tables.proofs.Cells.{undone}
use Rattle.tables.proofs.settling.settle.Given as goal

-- between two rounds
abbrev pub invariant-loop-chosen : goal.invariant-loop-chosen
invariant-loop-chosen g l =
    let n = g.L.Layout.net (setting_in l.origin) in
    Settling g.V.Tally n (place_of n l.table) (read n false l.done)

abbrev pub decreases-loop-chosen : goal.decreases-loop-chosen
decreases-loop-chosen g l = undone l.done
