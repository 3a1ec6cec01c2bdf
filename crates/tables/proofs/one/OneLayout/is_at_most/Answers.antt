use Rattle.costs.specs.Estimates.{not_above}
use Rattle.tables.specs.Nets.{singles, place_of}
use Rattle.tables.specs.Origins.{setting_in}
use Rattle.tables.specs.Reading.{estimate_by_singles}
use Rattle.tables.proofs.Decisions.{decides_same, top_tells}
use Rattle.tables.proofs.Order.{laws_of}
use Rattle.tables.proofs.Tops.{singles_top}
use Rattle.tables.proofs.one.OneLayout.is_at_most.Goals as goal

pub returns : goal.returns
returns g c =
    let tally = g.V.Tally in
    let laws = laws_of tally g.met.V.Tally.lawful in
    let val = place_of (singles tally (setting_in c.args.places.now.origin)) c.args.places.now.table.now in
    let top = estimate_by_singles tally val c.args.set in
    decides_same c.singles_within.result (not_above tally.at_most top c.args.limit) c.singles_within.ensures (top_tells laws top c.args.limit (singles_top laws val c.args.set))
