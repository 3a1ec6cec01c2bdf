use Rattle.std.proofs.Common.{get_or, sym, ap, ◌∙◌, arith, None}
use Rattle.tables.specs.Nets.{singles}
use Rattle.tables.specs.Origins.{setting_in}
use Rattle.tables.proofs.Cells.{inside, outside}
use Rattle.tables.proofs.OneFact.{below, from_below}
use Rattle.tables.proofs.places.Places.single.Goals as goal

pub returns-then-p-self : goal.returns-then-p-self
returns-then-p-self g c =
    let b = setting_in c.args.self.now.origin in
    let table = c.args.self.now.table.now in
    c.at.ensures ∙ ap (λ i. get_or table i None) c.from.ensures ∙ sym (inside (singles g.V.Tally b) None table c.args.p (from_below b.facts c.args.p c.if-p-self.true))

pub returns-else-p-self : goal.returns-else-p-self
returns-else-p-self g c =
    let b = setting_in c.args.self.now.origin in
    sym (outside (singles g.V.Tally b) None c.args.self.now.table.now c.args.p (λ h. omega (arith, below b.facts c.args.p h, c.if-p-self.false)))
