use Rattle.std.proofs.Common.{sym, ap, ◌∙◌}
use Rattle.tables.specs.Equation.{offer_of}
use Rattle.tables.specs.Nets.{singles, place_of}
use Rattle.tables.specs.Origins.{setting_in}
use Rattle.tables.proofs.OneFact.{single_passes, single_lowers}
use Rattle.tables.proofs.Order.{laws_of}
use Rattle.tables.proofs.Tops.{singles_top, top_sole}
use Rattle.tables.proofs.one.OneLayout.take.Goals as goal

pub returns-then-not-is_touched : goal.returns-then-not-is_touched
returns-then-not-is_touched g c = λ j at.
    let b = setting_in c.args.origin.now in
    single_passes (laws_of g.V.Tally g.met.V.Tally.lawful) b c.args.settled j c.args.m.now at (place_of (singles g.V.Tally b) c.args.table.now) (sym c.is_touched.ensures ∙ c.if-not-is_touched.true)

pub returns : goal.returns
returns g c = λ j at.
    let tally = g.V.Tally in
    let laws = laws_of tally g.met.V.Tally.lawful in
    let b = setting_in c.args.origin.now in
    let m = c.args.m.now in
    let val = place_of (singles tally b) c.args.table.now in
    single_lowers laws b c.args.settled j m at val (place_of (singles tally b) c.lower_singles.new.table) c.without.result c.offer-offer.result (sym c.is_touched.ensures ∙ c.if-not-is_touched.false) c.without.ensures
    (c.offer-offer.ensures ∙ ap (offer_of tally b m) (top_sole laws c.highest_single.ensures (singles_top laws val m.needs))) c.lower_singles.ensures
