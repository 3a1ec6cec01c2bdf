use Rattle.std.proofs.Common.{◌≡◌, Some, length, subst, arith}
use Rattle.tables.specs.Nets.{place_of}
use Rattle.tables.specs.Origins.{setting_in}
use Rattle.tables.specs.Settling.{touches, Before, Turned}
use Rattle.tables.proofs.Cells.{undone_less}
use Rattle.tables.proofs.Order.{laws_of}
use Rattle.tables.proofs.Rounds.{first_round, next_round, last_round}
use Rattle.tables.proofs.settling.settle.Goals as goal

pub loop-chosen-init : goal.loop-chosen-init
loop-chosen-init g c =
    let b = setting_in c.args.origin.now in
    first_round (g.L.Layout.net b) (laws_of g.V.Tally g.met.V.Tally.lawful) (c.is_laid.ensures b) c.begin.new.table c.begin.ensures 4096 c.take_all.new.table c.take_all.ensures

pub loop-chosen-smaller : goal.loop-chosen-smaller
loop-chosen-smaller g c =
    let b = setting_in c.args.origin.now in
    let few = (c.is_laid.ensures b).numbers.few c.requires.known.few in
    undone_less c.loop-chosen.done c.in-Some.chosen
    (omega (arith, c.in-Some.ensures.inside, c.loop-chosen.array_long, c.loop-chosen.auto.table, c.take_all.auto.table, c.begin.auto.table, c.requires.whole, few)) c.in-Some.ensures.undone

pub loop-chosen-preserved : goal.loop-chosen-preserved
loop-chosen-preserved g c =
    let b = setting_in c.args.origin.now in
    let n = g.L.Layout.net b in
    let laid = c.is_laid.ensures b in
    let few = laid.numbers.few c.requires.known.few in
    let old = c.loop-chosen.table in
    let new = c.take_all-in-Some.new.table in
    let whole : length old ≡ n.count = omega (arith, c.loop-chosen.auto.table, c.take_all.auto.table, c.begin.auto.table, c.requires.whole) in
    next_round n (laws_of g.V.Tally g.met.V.Tally.lawful) laid old new c.loop-chosen.done c.in-Some.chosen whole (omega (arith, c.loop-chosen.array_long, few)) c.in-Some.ensures c.loop-chosen.invariant
    (subst (λ k. Turned g.V.Tally n (λ t. touches (n.inside t) (Some k)) (Before 0) (Before (length b.moves)) (place_of n old) (place_of n new)) c.place.ensures c.take_all-in-Some.ensures)

pub returns : goal.returns
returns g c =
    let b = setting_in c.args.origin.now in
    let n = g.L.Layout.net b in
    let whole : length c.loop-chosen.table ≡ n.count = omega (arith, c.loop-chosen.auto.table, c.take_all.auto.table, c.begin.auto.table, c.requires.whole) in
    last_round n (laws_of g.V.Tally g.met.V.Tally.lawful) (c.is_laid.ensures b) c.loop-chosen.table c.loop-chosen.done whole c.loop-chosen.invariant c.in_default.ensures c.requires.known
