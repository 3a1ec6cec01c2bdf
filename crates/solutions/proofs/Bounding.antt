-- The bound over a pair table that was worked out for a task can be used on that task.
use Rattle.std.proofs.Common.{◌≡◌, ℕ, true, List, None, sym, refl, subst₂}
use Rattle.facts.specs.declared.sets.FactSet.{FactSet}
use Rattle.tasks.specs.Tasks.{draft_of}
use Rattle.tasks.specs.declared.task.Task.{Task}
use Rattle.costs.specs.Estimates.{Estimate}
use Rattle.costs.specs.declared.minutes.Minutes.{Minutes}
use Rattle.bounds.specs.Sound.{Overdrawn}
use Rattle.tables.specs.Equation.{Setting, setting_of, Greatest}
use Rattle.tables.specs.Nets.{pairs, place_of, estimate_by}
use Rattle.tables.specs.Reading.{share_at}
use Rattle.tables.specs.Rules.{fits}
use Rattle.tables.specs.Worked.{WorkedOut}
use Rattle.tables.proofs.Cells.{outside}
use Rattle.tables.proofs.Closing.{shares_are_drawn}
use Rattle.tables.proofs.Keeping.{fits_tells}
use Rattle.tables.proofs.TwoFacts.{pairs_laid}
use Rattle.theory.specs.Problem.{Lent}
use Rattle.costs.specs.Kinds.{minutes}
use Rattle.solutions.proofs.Laws.{minutes_laws}

-- what is seen of the bound over a table
abbrev pub seen : Setting → List (Estimate Minutes) → Task → Lent Minutes
seen b table t = record {
  fits = fits minutes (pairs minutes b) (place_of (pairs minutes b) table) t;
  estimate = λ s. estimate_by (pairs minutes b) table s;
  share = λ k. share_at minutes b.groups b.moves k;
}

-- a bound that can be used, with the greatest estimates at pairs
pub record Useful (t : Task) (groups : ℕ) (b : Lent Minutes) : Type 0 where
  pub est : FactSet → Estimate Minutes
  pub greatest : Greatest minutes (setting_of t groups) 2 est
  pub estimates : (s : FactSet) → b.estimate s ≡ est s
  pub fits : b.fits ≡ true
  pub drawn : Overdrawn minutes t b.share → ⊥

useful_table : (t : Task) (groups : ℕ) (table : List (Estimate Minutes)) → WorkedOut minutes (pairs minutes (setting_of t groups)) table
    → Useful t groups (seen (setting_of t groups) table t)
useful_table t groups table worked =
    let n = pairs minutes (setting_of t groups) in
    let val = place_of n table in
    let laid = pairs_laid minutes_laws (setting_of t groups) in record {
      est = worked.est;
      greatest = worked.greatest;
      estimates = worked.reads;
      fits = (fits_tells n minutes_laws laid.tops val (laid.tells val (outside n None table)) t).1 (record { same = record { facts = refl; start = refl; moves = refl }; rules = worked.rules });
      drawn = shares_are_drawn minutes_laws (draft_of t) groups;
    }

pub useful : (t : Task) (groups : ℕ) (table : List (Estimate Minutes)) → WorkedOut minutes (pairs minutes (setting_of t groups)) table
    → (b : Setting) (read : List (Estimate Minutes)) → b ≡ setting_of t groups → read ≡ table → Useful t groups (seen b read t)
useful t groups table worked b read from same = subst₂ (λ s l. Useful t groups (seen s l t)) (sym from) (sym same) (useful_table t groups table worked)
