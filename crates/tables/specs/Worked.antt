-- What working out a table comes to.
use Rattle.std.specs.Prelude.{◌≡◌, ℕ, ◌<◌, ◌≤◌, List, length, Ok, Err, Result, slice_index_or, None}
use Rattle.facts.specs.declared.sets.FactSet.{FactSet}
use Rattle.costs.specs.Estimates.{Estimate}
use Rattle.costs.specs.declared.tally.Tally.{Ghosts}
use Rattle.tables.specs.Equation.{Setting, Greatest}
use Rattle.tables.specs.Nets.{Net, Present, place_of, estimate_by}
use Rattle.tables.specs.Rules.{Rules}
use Rattle.tables.specs.declared.refusal.TableTooShort.{TableTooShort}

-- the places from `count` on are as they were
abbrev pub SamePast : {V : Type 0} → ℕ → List (Estimate V) → List (Estimate V) → Type 0
SamePast count old new = (k : ℕ) → count ≤ k → slice_index_or new k None ≡ slice_index_or old k None

-- the table holds the greatest solution at the sets of its places; a bound that reads it keeps its rules, and estimates every set so
pub record WorkedOut {V K : Type 0} {b : Setting} (tally : Ghosts V) (n : Net V b K) (table : List (Estimate V)) : Type 0 where
  pub est : FactSet → Estimate V
  pub greatest : Greatest tally b n.size est
  pub holds : (k : K) (s : FactSet) → Present n k → n.Names k s → slice_index_or table (n.number k) None ≡ est s
  pub rules : Rules tally n (place_of n table)
  pub reads : (s : FactSet) → estimate_by n table s ≡ est s

-- the table worked out, and its later places as they were; or too few places, and the table as it was
abbrev pub WorksOut : {V K : Type 0} {b : Setting} (tally : Ghosts V) → Net V b K → List (Estimate V) → List (Estimate V) → Result ℕ TableTooShort → Type 0
WorksOut tally n old new (Ok count) = (count ≡ n.count) × (n.count ≤ length old) × WorkedOut tally n new × SamePast n.count old new
WorksOut tally n old new (Err short) = (length old < n.count) × (new ≡ old)
