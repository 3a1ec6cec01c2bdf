-- What the estimates of all sets have to be: the cost equation and its greatest solution.
use Rattle.std.specs.Prelude.{◌≡◌, ℕ, ◌≤◌, cond, T, ◌⊎◌, List, length, None, Some}
use Rattle.facts.specs.Sets.{has, Within, Among}
use Rattle.facts.specs.Words.{bit}
use Rattle.facts.specs.declared.sets.FactSet.{FactSet}
use Rattle.tasks.specs.Moves.{Regresses}
use Rattle.tasks.specs.Places.{At}
use Rattle.tasks.specs.Tasks.{draft_of}
use Rattle.tasks.specs.declared.draft.Draft.{Draft}
use Rattle.tasks.specs.declared.moves.Move.{Move}
use Rattle.tasks.specs.declared.task.Task.{Task}
use Rattle.costs.specs.Lists.{charge_of}
use Rattle.costs.specs.Estimates.{Estimate}
use Rattle.costs.specs.declared.tally.Tally.{Ghosts}
use Rattle.bounds.specs.Sound.{NotAbove, joined_with}

-- what a table is worked out from; bit i of `groups`, from the lowest, counts the moves of group i
pub record Setting : Type 0 where
  pub facts : ℕ
  pub start : FactSet
  pub moves : List Move
  pub groups : ℕ

abbrev pub setting_from : Draft → ℕ → Setting
setting_from d groups = record { facts = d.facts; start = d.start; moves = d.moves.now; groups = groups }

-- a task's tables are those of its draft
abbrev pub setting_of : Task → ℕ → Setting
setting_of t groups = setting_from (draft_of t) groups

-- a move's counted charge: its charge if its group is counted, otherwise nil
abbrev pub charge_if_counted : {V : Type 0} → Ghosts V → ℕ → Move → V
charge_if_counted tally groups m = cond (bit groups m.group) (charge_of tally m) tally.nil

-- a move's counted charge joined with an estimate
abbrev pub offer_of : {V : Type 0} → Ghosts V → Setting → Move → Estimate V → Estimate V
offer_of tally b m e = joined_with tally (charge_if_counted tally b.groups m) e

-- s has at most m facts: a list of at most m numbers has them all
pub record Few (m : ℕ) (s : FactSet) : Type 0 where
  pub listed : List ℕ
  pub short : length listed ≤ m
  pub whole : (f : ℕ) → T (has s f) → Among f listed

-- e is the least estimate that P has, and never if it has none
pub record Least {V : Type 0} (tally : Ghosts V) (P : Estimate V → Type 0) (e : Estimate V) : Type 0 where
  pub lower : (f : Estimate V) → P f → NotAbove tally e f
  pub reached : P e ⊎ (e ≡ None)

-- e is the highest estimate that P has
pub record Highest {V : Type 0} (tally : Ghosts V) (P : Estimate V → Type 0) (e : Estimate V) : Type 0 where
  pub upper : (f : Estimate V) → P f → NotAbove tally f e
  pub reached : P e

-- some move regresses s to a set with whose estimate its counted charge comes to e
pub record Offers {V : Type 0} (tally : Ghosts V) (b : Setting) (est : FactSet → Estimate V) (s : FactSet) (e : Estimate V) : Type 0 where
  pub number : ℕ
  pub move : Move
  pub at : At b.moves number move
  pub to : FactSet
  pub regresses : Regresses move s to
  pub is : e ≡ offer_of tally b move (est to)

-- some subset of s with at most m facts has the estimate e
pub record Parts {V : Type 0} (m : ℕ) (est : FactSet → Estimate V) (s : FactSet) (e : Estimate V) : Type 0 where
  pub part : FactSet
  pub inside : Within part s
  pub few : Few m part
  pub is : e ≡ est part

-- the equation; m is 1 for single facts and 2 for pairs
pub record Solves {V : Type 0} (tally : Ghosts V) (b : Setting) (m : ℕ) (est : FactSet → Estimate V) : Type 0 where
  pub within : (s : FactSet) → Within s b.start → est s ≡ Some tally.nil
  pub few : (s : FactSet) → (Within s b.start → ⊥) → Few m s → Least tally (Offers tally b est s) (est s)
  pub many : (s : FactSet) → (Within s b.start → ⊥) → (Few m s → ⊥) → Highest tally (Parts m est s) (est s)

-- of several solutions the greatest at every set
pub record Greatest {V : Type 0} (tally : Ghosts V) (b : Setting) (m : ℕ) (est : FactSet → Estimate V) : Type 0 where
  pub solves : Solves tally b m est
  pub above : (other : FactSet → Estimate V) → Solves tally b m other → (s : FactSet) → NotAbove tally (other s) (est s)
