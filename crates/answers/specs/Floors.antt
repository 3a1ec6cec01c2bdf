-- What the goal of a task costs at least, and how that is printed.
use Rattle.std.specs.Prelude.{◌≡◌, ℕ, List, codes, decimal, None, Some}
use Rattle.facts.specs.declared.sets.FactSet.{FactSet}
use Rattle.tasks.specs.Tasks.{goal_of}
use Rattle.tasks.specs.declared.task.Task.{Task}
use Rattle.costs.specs.Estimates.{Estimate}
use Rattle.costs.specs.Kinds.{minutes}
use Rattle.costs.specs.declared.minutes.Minutes.{Minutes}
use Rattle.tables.specs.Equation.{setting_of, Greatest}

-- the floor is the estimate of the goal in the greatest solution at pairs, with these groups counted
pub record IsFloor (t : Task) (groups : ℕ) (floor : Estimate Minutes) : Type 0 where
  pub est : FactSet → Estimate Minutes
  pub greatest : Greatest minutes (setting_of t groups) 2 est
  pub is : floor ≡ est (goal_of t)

abbrev pub floor_text : Estimate Minutes → List ℕ
floor_text (Some cost) = decimal cost.total
floor_text None = codes "never"
