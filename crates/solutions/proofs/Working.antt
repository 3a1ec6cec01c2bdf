-- The pair table that the program works out has a place for each two facts of a task.
use Rattle.std.proofs.Common.{◌≡◌, ℕ, List, length, Ok, Err, Result, arith}
use Rattle.std.proofs.lemmas.Nat.{mul-le}
use Rattle.tasks.specs.Tasks.{facts_of}
use Rattle.tasks.specs.declared.task.Task.{Task}
use Rattle.tasks.proofs.Checks.{few_facts}
use Rattle.costs.specs.Estimates.{Estimate}
use Rattle.costs.specs.declared.minutes.Minutes.{Minutes}
use Rattle.tables.specs.Equation.{setting_of}
use Rattle.tables.specs.Nets.{pairs}
use Rattle.tables.specs.Worked.{WorksOut, WorkedOut}
use Rattle.tables.specs.declared.refusal.TableTooShort.{TableTooShort}
use Rattle.costs.specs.Kinds.{minutes}

pub worked_out : (t : Task) (groups : ℕ) → (old new : List (Estimate Minutes)) → length old ≡ 4096 → (r : Result ℕ TableTooShort)
    → WorksOut minutes (pairs minutes (setting_of t groups)) old new r → WorkedOut minutes (pairs minutes (setting_of t groups)) new
worked_out t groups old new places (Ok n) h = h.2
worked_out t groups old new places (Err short) h =
    let few = few_facts t in absurd (omega (arith, places, h.0, mul-le (facts_of t) (facts_of t) 64 64 few few))
