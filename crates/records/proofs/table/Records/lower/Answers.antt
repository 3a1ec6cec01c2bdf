use Rattle.std.proofs.Common.{set, ap, ◌∙◌, subst}
use Rattle.tasks.specs.Places.{At}
use Rattle.records.specs.Tables.{recs_of}
use Rattle.records.proofs.table.Records.lower.Goals as goal

pub returns-clause-lowered : goal.returns-clause-lowered
returns-clause-lowered g c =
    let old = c.read-old.result in (
      old,
      subst (λ l. At l c.args.number old) c.rows.ensures.rows c.read-old.ensures,
      c.put.ensures.put ∙ ap (λ r. set (recs_of c.args.self.now) c.args.number r) c.lowered.ensures,
    )
