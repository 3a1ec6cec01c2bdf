use Rattle.std.proofs.Common.{length, ap, subst, arith}
use Rattle.tasks.proofs.Places.{at_less}
use Rattle.theory.specs.Openings.{Unrecorded}
use Rattle.records.specs.Tables.{recs_of, IsRecorded}
use Rattle.records.proofs.Entering.{taken_add, taken_lower}
use Rattle.records.proofs.table.Records.enter.Goals as goal

pub returns-in_default-clause-entered : goal.returns-in_default-clause-entered
returns-in_default-clause-entered g c P i choice k m t e lent lead is =
    taken_add P (recs_of c.args.self.now) i choice k m lead c.args.new is (recs_of c.add.new.self) lent (subst (λ l. Unrecorded l c.args.new.set) c.rows.ensures.rows c.in_default.ensures) c.add.result c.add.ensures.added

pub lower-requires : goal.lower-requires
lower-requires g c = omega (arith, at_less c.in-Some.ensures.1.at, ap length c.rows.ensures.rows)

pub returns-clause-entered : goal.returns-clause-entered
returns-clause-entered g c P i choice k m t e lent lead is =
    taken_lower P (recs_of c.args.self.now) i choice k m lead c.args.new is (subst (λ l. IsRecorded l c.args.new.set c.in-Some.number) c.rows.ensures.rows c.in-Some.ensures) c.lower.ensures.lowered
