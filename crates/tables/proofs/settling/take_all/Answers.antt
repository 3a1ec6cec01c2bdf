use Rattle.std.proofs.Common.{◌≡◌, length, subst, arith}
use Rattle.tasks.proofs.Checks.{no_move}
use Rattle.tasks.proofs.Places.{at_get}
use Rattle.tables.specs.Nets.{place_of}
use Rattle.tables.specs.Origins.{setting_in}
use Rattle.tables.specs.Settling.{touches, Before, Turned}
use Rattle.tables.proofs.settling.take_all.Goals as goal

pub loop-m-preserved : goal.loop-m-preserved
loop-m-preserved g c =
    let i = c.loop-m.m-index in
    let one = c.take.ensures i (at_get c.args.origin.now.moves.now i no_move c.loop-m-test.true) in
    record { runs = λ done floor r. one.runs done floor (c.loop-m.invariant.runs done floor r) }

pub returns : goal.returns
returns g c =
    let n = g.L.Layout.net (setting_in c.args.origin.now) in
    let end : c.loop-m.m-index ≡ length c.args.origin.now.moves.now = omega (arith, c.loop-m.auto.m-index-end, c.loop-m-test.false) in
    subst (λ i. Turned g.V.Tally n (λ t. touches (n.inside t) c.args.settled) (Before 0) (Before i) (place_of n c.args.table.now) (place_of n c.loop-m.table)) end c.loop-m.invariant
