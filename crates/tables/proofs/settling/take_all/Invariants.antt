use Rattle.tables.specs.Nets.{place_of}
use Rattle.tables.specs.Origins.{setting_in}
use Rattle.tables.specs.Settling.{touches, Before, Turned}
use Rattle.tables.proofs.settling.take_all.Given as goal

abbrev pub invariant-loop-m : goal.invariant-loop-m
invariant-loop-m g l =
    let n = g.L.Layout.net (setting_in l.origin) in
    Turned g.V.Tally n (λ t. touches (n.inside t) l.settled) (Before 0) (Before l.m-index) (place_of n l.initial.table) (place_of n l.table)
