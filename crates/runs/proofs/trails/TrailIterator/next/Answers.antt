use Rattle.std.proofs.Common.{refl, subst}
use Rattle.tasks.specs.Places.{At}
use Rattle.records.proofs.Places.{at_read}
use Rattle.runs.proofs.trails.TrailIterator.next.Goals as goal

pub returns-clause-steps : goal.returns-clause-steps
returns-clause-steps g c =
    let found = c.in_ok-row.ensures.lookup in
    let rows = c.args.self.now.rows.now in
    let row = c.in_ok-row.row.now in
    let here = subst (λ i. At rows i row) c.from.ensures (at_read rows c.from.result row found.3.0 found.1) in
    (refl, (row, here, c.if-self-eq0.false, refl, refl))
