use Rattle.std.proofs.Common.{ap, ◌∙◌, sym, subst, T}
use Rattle.costs.specs.Estimates.{not_above}
use Rattle.tables.specs.Equation.{offer_of}
use Rattle.tables.specs.Nets.{singles, place_of, heads}
use Rattle.tables.specs.Origins.{setting_in}
use Rattle.tables.specs.Reading.{highest, past}
use Rattle.tables.proofs.Decisions.{decides_like, decides_same, top_tells}
use Rattle.tables.proofs.OneFact.{heads_top}
use Rattle.tables.proofs.Order.{laws_of}
use Rattle.tables.proofs.Tops.{singles_top, top_sole}
use Rattle.tables.proofs.one.OneLayout.keeps_move.Goals as goal

pub returns : goal.returns
returns g c =
    let tally = g.V.Tally in
    let laws = laws_of tally g.met.V.Tally.lawful in
    let b = setting_in c.args.places.now.origin in
    let m = c.args.m.now in
    let val = place_of (singles tally b) c.args.places.now.table.now in
    let offer = c.offer-offer.result in
    let top = highest tally (heads m) val (past m.makes) in
    decides_same c.singles_within.result (not_above tally.at_most top offer)
    (decides_like (λ h p head. h p (subst T (sym (c.without.ensures p)) head)) (λ h p i. h p (subst T (c.without.ensures p) i)) c.singles_within.ensures)
    (top_tells laws top offer (heads_top laws b val m))
    ∙ ap (not_above tally.at_most top) (c.offer-offer.ensures ∙ ap (offer_of tally b m) (top_sole laws c.highest_single.ensures (singles_top laws val m.needs)))
