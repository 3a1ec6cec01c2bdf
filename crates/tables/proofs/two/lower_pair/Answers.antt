use Rattle.std.proofs.Common.{subst, arith}
use Rattle.facts.proofs.Tests.{from_true}
use Rattle.tables.specs.Nets.{pairs}
use Rattle.tables.specs.Origins.{setting_in}
use Rattle.tables.specs.Settling.{LowersAt}
use Rattle.tables.proofs.Cells.{lowered}
use Rattle.tables.proofs.Order.{laws_of}
use Rattle.tables.proofs.TwoFacts.{pairs_numbered}
use Rattle.tables.proofs.two.lower_pair.Goals as goal

pub returns-then-p-origin : goal.returns-then-p-origin
returns-then-p-origin g c =
    let tally = g.V.Tally in
    let laws = laws_of tally g.met.V.Tally.lawful in
    let b = setting_in c.args.origin.now in
    lowered (pairs tally b) (pairs_numbered laws b) laws c.args.table.now c.lower_at.new.table (c.args.p, c.args.q) c.args.offer (from_true c.if-p-origin.true) (omega (arith, c.requires))
    (subst (λ i. LowersAt tally i c.args.offer c.args.table.now c.lower_at.new.table) c.number_of.ensures c.lower_at.ensures)
