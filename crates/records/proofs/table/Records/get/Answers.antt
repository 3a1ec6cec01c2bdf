use Rattle.std.proofs.Common.{◌≤◌, length, subst₂, arith, ap}
use Rattle.tasks.specs.Places.{At}
use Rattle.records.specs.Tables.{recs_of}
use Rattle.records.proofs.Places.{at_read}
use Rattle.records.proofs.table.Records.get.Goals as goal

pub returns-in_err-row : goal.returns-in_err-row
returns-in_err-row g c =
    let past : length (recs_of c.args.self.now) ≤ c.args.number = omega (arith, c.in_err-row.ensures.lookup.3, ap length c.rows.ensures.rows, c.from.ensures) in
    rw c.from_residual.ensures past

pub returns : goal.returns
returns g c =
    let found = c.in_ok-row.ensures.lookup in
    let row = c.in_ok-row.row.now in
    subst₂ (λ l i. At l i row) c.rows.ensures.rows c.from.ensures (at_read c.rows.result.now c.from.result row found.3.0 found.1)
