use Rattle.std.proofs.Common.{subst, arith}
use Rattle.tables.specs.Nets.{singles}
use Rattle.tables.specs.Origins.{setting_in}
use Rattle.tables.specs.Settling.{LowersAt}
use Rattle.tables.proofs.Cells.{lowered}
use Rattle.tables.proofs.OneFact.{singles_numbered, from_below}
use Rattle.tables.proofs.Order.{laws_of}
use Rattle.tables.proofs.one.lower_single.Goals as goal

pub returns-then-p-origin : goal.returns-then-p-origin
returns-then-p-origin g c =
    let tally = g.V.Tally in
    let laws = laws_of tally g.met.V.Tally.lawful in
    let b = setting_in c.args.origin.now in
    lowered (singles tally b) (singles_numbered laws b) laws c.args.table.now c.lower_at.new.table c.args.p c.args.offer (from_below b.facts c.args.p c.if-p-origin.true) (omega (arith, c.requires))
    (subst (λ i. LowersAt tally i c.args.offer c.args.table.now c.lower_at.new.table) c.from.ensures c.lower_at.ensures)
