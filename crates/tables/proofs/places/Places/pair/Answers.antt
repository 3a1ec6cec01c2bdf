use Rattle.std.proofs.Common.{get_or, sym, ap, ◌∙◌, None}
use Rattle.facts.proofs.Tests.{from_true, not_both}
use Rattle.tables.specs.Nets.{pairs}
use Rattle.tables.specs.Origins.{setting_in}
use Rattle.tables.proofs.Cells.{inside, outside}
use Rattle.tables.proofs.places.Places.pair.Goals as goal

pub returns-then-p-facts : goal.returns-then-p-facts
returns-then-p-facts g c =
    let b = setting_in c.args.self.now.origin in
    let table = c.args.self.now.table.now in
    c.at.ensures ∙ ap (λ i. get_or table i None) c.number_of.ensures ∙ sym (inside (pairs g.V.Tally b) None table (c.args.p, c.args.q) (from_true c.if-p-facts.true))

pub returns-else-p-facts : goal.returns-else-p-facts
returns-else-p-facts g c =
    let b = setting_in c.args.self.now.origin in
    sym (outside (pairs g.V.Tally b) None c.args.self.now.table.now (c.args.p, c.args.q) (λ h. not_both h c.if-p-facts.false))
