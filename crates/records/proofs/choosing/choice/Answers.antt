use Rattle.std.proofs.Common.{take_all, subst}
use Rattle.records.proofs.Picks.{Picked, picked_next}
use Rattle.records.proofs.Places.{at_read}
use Rattle.records.proofs.choosing.choice.Goals as goal

pub loop-number-init : goal.loop-number-init
loop-number-init g c = λ j q a w. elim a [ ]

pub loop-number-preserved : goal.loop-number-preserved
loop-number-preserved g c =
    let rows = c.args.rows.now in
    let here = at_read rows c.loop-number.number c.index-rows-number.result c.loop-number-test.true c.index-rows-number.is in
    picked_next (record { lawful = g.met.V.Tally.lawful }) rows here c.loop-number.best c.better-best.ensures c.loop-number.invariant

pub returns : goal.returns
returns g c = subst (λ l. Picked g.V.Tally l c.loop-number.best) (take_all c.loop-number.number c.args.rows.now c.loop-number-test.false) c.loop-number.invariant
