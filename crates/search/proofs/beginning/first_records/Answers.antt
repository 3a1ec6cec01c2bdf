use Rattle.std.proofs.Common.{length, sym, ap, ◌∙◌, subst, arith}
use Rattle.theory.specs.Records.{First, no_hope}
use Rattle.theory.specs.declared.record.Mark.TheVariants.{Waiting}
use Rattle.records.specs.Openings.{problem_of}
use Rattle.records.specs.Tables.{recs_of}
use Rattle.search.proofs.Making.{goal_first, first_added}
use Rattle.search.proofs.beginning.first_records.Goals as goal

pub returns-in-Some-clause-first : goal.returns-in-Some-clause-first
returns-in-Some-clause-first g c e some =
    let P = problem_of g.V.Tally g.B.Bound c.args.task.now c.args.bound.now (length c.args.table.now) in
    let hope = sym (c.estimate.ensures ∙ ap (λ s. g.B.Bound.estimated c.args.bound.now s) c.goal.ensures) ∙ c.in-Some.is in
    let is = c.goal_record.ensures ∙ ap (λ s. record { set = s; spent = g.V.Tally.nil; promise = c.in-Some.promise; parent = 65535; via = 65535; mark = Waiting }) c.goal-in-Some.ensures in
    let new = c.new-records.ensures in
    let added = first_added (recs_of c.add.new.self) c.goal_record.result c.add.result c.add.ensures.added new.none (omega (arith, new.room, some)) in
    subst (First P) (sym added) (goal_first P hope is)

pub returns-in_default-clause-first : goal.returns-in_default-clause-first
returns-in_default-clause-first g c e some =
    let P = problem_of g.V.Tally g.B.Bound c.args.task.now c.args.bound.now (length c.args.table.now) in
    let never = sym (c.estimate.ensures ∙ ap (λ s. g.B.Bound.estimated c.args.bound.now s) c.goal.ensures) ∙ c.in_default.is in
    subst (First P) (sym c.new-records.ensures.none) (no_hope never)
