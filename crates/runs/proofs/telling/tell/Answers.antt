use Rattle.std.proofs.Common.{length, ap, subst, arith}
use Rattle.records.specs.Tables.{recs_of}
use Rattle.runs.specs.Ends.{Inside}
use Rattle.runs.proofs.Endings.{plan_told, none_told, full_told}
use Rattle.runs.proofs.telling.tell.Goals as goal

pub read-requires : goal.read-requires
read-requires g c =
    let h = c.args.holding.now in
    let less = subst (Inside (length (recs_of h.records))) c.in-Planned.is h.inside in
    omega (arith, less, ap length c.rows.ensures.rows)

pub read-requires-in-Filled : goal.read-requires-in-Filled
read-requires-in-Filled g c =
    let h = c.args.holding.now in
    let less = subst (Inside (length (recs_of h.records))) c.in-Filled.is h.inside in
    omega (arith, less, ap length c.rows-in-Filled.ensures.rows)

pub returns-in-Planned : goal.returns-in-Planned
returns-in-Planned g c =
    plan_told _ _ c.in-Planned.is (rw c.rows.ensures.rows at c.read.ensures) (rw c.rows-in-Planned.ensures.rows at c.trail_length.ensures)

pub returns-in-Exhausted : goal.returns-in-Exhausted
returns-in-Exhausted g c = none_told _ _ c.in-Exhausted.is c.nil.ensures

pub returns-in-Filled : goal.returns-in-Filled
returns-in-Filled g c = full_told _ _ c.in-Filled.is (rw c.rows-in-Filled.ensures.rows at c.read-in-Filled.ensures)
