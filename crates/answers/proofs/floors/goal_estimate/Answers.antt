use Rattle.std.proofs.Common.{◌≡◌, ℕ, List, length, replicate, Ok, Err, Result, sym, ap, ◌∙◌, subst, arith, None}
use lib.ListN.{length-replicate}
use Rattle.std.proofs.lemmas.Nat.{mul-le}
use Rattle.tasks.specs.Tasks.{facts_of, goal_of}
use Rattle.tasks.specs.declared.task.Task.{Task}
use Rattle.tasks.proofs.Checks.{few_facts}
use Rattle.costs.specs.Estimates.{Estimate}
use Rattle.costs.specs.declared.minutes.Minutes.{Minutes}
use Rattle.tables.specs.Equation.{Setting, setting_of}
use Rattle.tables.specs.Nets.{pairs, estimate_by}
use Rattle.tables.specs.Worked.{WorksOut}
use Rattle.tables.specs.declared.refusal.TableTooShort.{TableTooShort}
use Rattle.costs.specs.Kinds.{minutes}
use Rattle.answers.specs.Floors.{IsFloor}
use Rattle.answers.proofs.floors.goal_estimate.Goals as goal

-- a table of 4,096 places is worked out, and its estimate of the goal is the floor
floor : (t : Task) (groups : ℕ) → (old new : List (Estimate Minutes)) → length old ≡ 4096 → (r : Result ℕ TableTooShort) → WorksOut minutes (pairs minutes (setting_of t groups)) old new r
    → IsFloor t groups (estimate_by (pairs minutes (setting_of t groups)) new (goal_of t))
floor t groups old new places (Ok n) h =
    let table = h.2 in record { est = table.est; greatest = table.greatest; is = table.reads (goal_of t) }
floor t groups old new places (Err short) h =
    let few = few_facts t in absurd (omega (arith, places, h.0, mul-le (facts_of t) (facts_of t) 64 64 few few))

pub returns : goal.returns
returns c =
    let t = c.args.task.now in
    let blank : List (Estimate Minutes) = replicate 4096 None in
    let b = setting_of t c.args.groups in
    let table = c.work_out.new.table in
    let is : c.estimate.result ≡ estimate_by (pairs minutes b) table (goal_of t) =
    c.estimate.ensures
    ∙ ap (λ (s : Setting). estimate_by (pairs minutes s) c.of.result.places.table.now c.goal.result) c.of.ensures.0
    ∙ ap (λ l. estimate_by (pairs minutes b) l c.goal.result) c.of.ensures.1
    ∙ ap (λ s. estimate_by (pairs minutes b) table s) c.goal.ensures in
    subst (IsFloor t c.args.groups) (sym is) (floor t c.args.groups blank table (length-replicate {A = Estimate Minutes} 4096 None) c.work_out.result c.work_out.ensures)
