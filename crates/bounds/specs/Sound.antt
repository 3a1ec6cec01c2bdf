-- The two laws of a bound, when it is overdrawn, and what follows.
use Rattle.std.specs.Prelude.{◌≡◌, ℕ, false, T, List, Some}
use Rattle.facts.specs.Sets.{Within}
use Rattle.facts.specs.declared.sets.FactSet.{FactSet}
use Rattle.tasks.specs.Faults.{Faultless}
use Rattle.tasks.specs.Lists.{Chain, GoodIn}
use Rattle.tasks.specs.Moves.{Regresses}
use Rattle.tasks.specs.Places.{At}
use Rattle.tasks.specs.Tasks.{draft_of}
use Rattle.tasks.specs.declared.draft.Draft.{Draft}
use Rattle.tasks.specs.declared.moves.Move.{Move}
use Rattle.tasks.specs.declared.task.Task.{Task}
use Rattle.costs.specs.Estimates.{not_above, join_each}
use Rattle.costs.specs.Lists.{Costs, charge_of}
use Rattle.costs.specs.Estimates.{Estimate}
use Rattle.costs.specs.declared.tally.Tally.{Ghosts}

-- one estimate is at most another
abbrev pub NotAbove : {V : Type 0} → Ghosts V → Estimate V → Estimate V → Type 0
NotAbove tally e f = T (not_above tally.at_most e f)

-- a value joined with an estimate
abbrev pub joined_with : {V : Type 0} → Ghosts V → V → Estimate V → Estimate V
joined_with tally v e = join_each tally.join (Some v) e

pub record SoundIn {V : Type 0} (tally : Ghosts V) (d : Draft) (estimate : FactSet → Estimate V) (share : ℕ → V) : Type 0 where
  -- a set within the start costs nothing
  pub within : (s : FactSet) → Within s d.start → estimate s ≡ Some tally.nil
  -- if a move regresses s to u, the estimate of s is at most the move's share joined with the estimate of u
  pub step : (k : ℕ) (m : Move) (s u : FactSet) → At d.moves.now k m → Regresses m s u
      → NotAbove tally (estimate s) (joined_with tally (share k) (estimate u))

-- the laws of a task are those of its draft
abbrev pub Sound : {V : Type 0} → Ghosts V → Task → (FactSet → Estimate V) → (ℕ → V) → Type 0
Sound tally t estimate share = SoundIn tally (draft_of t) estimate share

-- some move's share is above its charge
abbrev pub SomeAbove : {V : Type 0} → Ghosts V → List Move → (ℕ → V) → Type 0
SomeAbove tally moves share = (k : ℕ) × (m : Move) × At moves k m × (tally.at_most (share k) (charge_of tally m) ≡ false)

abbrev pub OverdrawnIn : {V : Type 0} → Ghosts V → Draft → (ℕ → V) → Type 0
OverdrawnIn tally d share = SomeAbove tally d.moves.now share

abbrev pub Overdrawn : {V : Type 0} → Ghosts V → Task → (ℕ → V) → Type 0
Overdrawn tally t share = OverdrawnIn tally (draft_of t) share

-- estimates that keep the laws, with shares that are not overdrawn
pub record Trusted {V : Type 0} (tally : Ghosts V) (d : Draft) (estimate : FactSet → Estimate V) (share : ℕ → V) : Type 0 where
  pub sound : SoundIn tally d estimate share
  pub drawn : OverdrawnIn tally d share → ⊥

-- no chain from a set to one within the start costs less than the set's estimate; and where the draft has no fault, no good list less than that of the goal
pub record Floors {V : Type 0} (tally : Ghosts V) (d : Draft) (estimate : FactSet → Estimate V) : Type 0 where
  pub chains : (s u : FactSet) (l : List ℕ) (v : V) → Chain d.moves.now s l u → Within u d.start → Costs tally d.moves.now l v
      → NotAbove tally (estimate s) (Some v)
  pub lists : Faultless d → (l : List ℕ) (v : V) → GoodIn d l → Costs tally d.moves.now l v → NotAbove tally (estimate d.goal) (Some v)

abbrev pub EstimatesAreFloors : {V : Type 0} → Ghosts V → Type 0
EstimatesAreFloors {V} tally = (d : Draft) (estimate : FactSet → Estimate V) (share : ℕ → V) → Trusted tally d estimate share → Floors tally d estimate
