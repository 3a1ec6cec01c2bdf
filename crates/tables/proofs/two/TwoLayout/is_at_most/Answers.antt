use Rattle.costs.specs.Estimates.{not_above}
use Rattle.tables.specs.Nets.{pairs, place_of}
use Rattle.tables.specs.Origins.{setting_in}
use Rattle.tables.specs.Reading.{estimate_by_pairs}
use Rattle.tables.proofs.Decisions.{decides_like, decides_same, top_tells}
use Rattle.tables.proofs.Order.{laws_of}
use Rattle.tables.proofs.Tops.{pairs_top}
use Rattle.tables.proofs.two.TwoLayout.is_at_most.Goals as goal

pub returns : goal.returns
returns g c =
    let tally = g.V.Tally in
    let laws = laws_of tally g.met.V.Tally.lawful in
    let val = place_of (pairs tally (setting_in c.args.places.now.origin)) c.args.places.now.table.now in
    let top = estimate_by_pairs tally val c.args.set in
    decides_same c.pairs_within.result (not_above tally.at_most top c.args.limit)
    (decides_like (λ h k i. h k.1 i.1 k.0 i.0) (λ h r i p j. h (p, r) (j, i)) c.pairs_within.ensures)
    (top_tells laws top c.args.limit (pairs_top laws val c.args.set))
