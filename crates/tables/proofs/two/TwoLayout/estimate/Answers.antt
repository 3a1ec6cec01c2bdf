use Rattle.tables.specs.Nets.{pairs, place_of}
use Rattle.tables.specs.Origins.{setting_in}
use Rattle.tables.proofs.Order.{laws_of}
use Rattle.tables.proofs.Tops.{pairs_top, top_sole}
use Rattle.tables.proofs.two.TwoLayout.estimate.Goals as goal

pub returns : goal.returns
returns g c =
    let laws = laws_of g.V.Tally g.met.V.Tally.lawful in
    top_sole laws c.highest_pair.ensures (pairs_top laws (place_of (pairs g.V.Tally (setting_in c.args.places.now.origin)) c.args.places.now.table.now) c.args.set)
