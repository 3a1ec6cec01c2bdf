use Rattle.std.proofs.Common.{get_or, ap, ◌∙◌}
use Rattle.records.proofs.Places.{at_read}
use Rattle.records.proofs.reading.read.Goals as goal

pub returns : goal.returns
returns g c =
    let t = c.args.table.now in
    let x = c.index-table-from.result in
    at_read t c.args.number x c.requires (c.index-table-from.is ∙ ap (λ k. get_or t k x) c.from.ensures)
