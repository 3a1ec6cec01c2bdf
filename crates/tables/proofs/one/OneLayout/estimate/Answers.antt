use Rattle.tables.specs.Nets.{singles, place_of}
use Rattle.tables.specs.Origins.{setting_in}
use Rattle.tables.proofs.Order.{laws_of}
use Rattle.tables.proofs.Tops.{singles_top, top_sole}
use Rattle.tables.proofs.one.OneLayout.estimate.Goals as goal

pub returns : goal.returns
returns g c =
    let laws = laws_of g.V.Tally g.met.V.Tally.lawful in
    top_sole laws c.highest_single.ensures (singles_top laws (place_of (singles g.V.Tally (setting_in c.args.places.now.origin)) c.args.places.now.table.now) c.args.set)
