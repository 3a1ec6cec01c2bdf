-- The bounds that are lent to the searches: one that knows nothing, those that read tables, and sums.
use Rattle.std.specs.Prelude.{ℕ, ◌^◌, true, ◌&&◌, Some}
use Rattle.facts.specs.declared.sets.FactSet.{FactSet}
use Rattle.tasks.specs.Tasks.{draft_of, moves_of}
use Rattle.tasks.specs.declared.task.Task.{Task}
use Rattle.costs.specs.Estimates.{Estimate}
use Rattle.costs.specs.declared.tally.Tally.{Ghosts}
use Rattle.bounds.specs.Piles.{sum_estimate, sum_share}
use Rattle.tables.specs.Equation.{setting_of, Greatest}
use Rattle.tables.specs.Reading.{share_at}
use Rattle.theory.specs.Problem.{Problem, Lent}

-- it fits every task; all its estimates and shares are nil
abbrev pub blind : {V : Type 0} → Ghosts V → Lent V
blind tally = record { fits = true; estimate = λ s. Some tally.nil; share = λ k. tally.nil }

-- which groups a table counts: all eight, or one
abbrev pub every_group : ℕ
every_group = 255

abbrev pub only_group : ℕ → ℕ
only_group i = 2 ^ i

-- a table gives the greatest solution of the cost equation; m is 1 for single facts and 2 for pairs
pub record Table {V : Type 0} (tally : Ghosts V) (t : Task) (groups m : ℕ) : Type 0 where
  pub est : FactSet → Estimate V
  pub greatest : Greatest tally (setting_of t groups) m est

-- the bound that reads the table, for the task that it was worked out for
abbrev pub reading : {V : Type 0} {tally : Ghosts V} {t : Task} {groups m : ℕ} → Table tally t groups m → Lent V
reading {tally = tally} {t = t} {groups = groups} table = record { fits = true; estimate = table.est; share = share_at tally groups (moves_of t) }

abbrev pub summed : {V : Type 0} → Ghosts V → Lent V → Lent V → Lent V
summed tally one other = record {
  fits = one.fits && other.fits;
  estimate = sum_estimate tally one.estimate other.estimate;
  share = sum_share tally one.share other.share;
}

-- a task, a bound, and so many places for records
abbrev pub posing : {V : Type 0} (tally : Ghosts V) → Task → Lent V → ℕ → Problem tally
posing tally t b room = record { draft = draft_of t; bound = b; room = room }
