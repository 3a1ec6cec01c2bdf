-- Lists of moves carried out, good lists, and chains of regressions.
use Rattle.std.specs.Prelude.{ℕ, ◌<◌, List, [], ◌∷◌, length, take, Ok, Err, Result, Decides, slice_index}
use Rattle.facts.specs.Sets.{Within}
use Rattle.facts.specs.declared.sets.FactSet.{FactSet}
use Rattle.tasks.specs.Faults.{Faultless}
use Rattle.tasks.specs.Moves.{Carries, Regresses}
use Rattle.tasks.specs.Places.{At}
use Rattle.tasks.specs.Tasks.{draft_of, start_of, goal_of, moves_of}
use Rattle.tasks.specs.declared.draft.Draft.{Draft}
use Rattle.tasks.specs.declared.moves.Move.{Move}
use Rattle.tasks.specs.declared.task.Task.{Task}
use Rattle.tasks.specs.declared.task.carrying.Arrival.{Arrival}
use Rattle.tasks.specs.declared.task.carrying.Stuck.{Stuck}

-- the move of this number can be carried out in s, and leaves t
abbrev pub Step : List Move → ℕ → FactSet → FactSet → Type 0
Step moves k s t = (m : Move) × At moves k m × Carries m s t

-- the moves of these numbers, carried out in order, lead from s to the last set
pub data Carried (moves : List Move) : FactSet → List ℕ → FactSet → Type 0 where
  none : {s : FactSet} → Carried moves s [] s
  first : {s t u : FactSet} {k : ℕ} {l : List ℕ} → Step moves k s t → Carried moves t l u → Carried moves s (k ∷ l) u

-- a good list can be carried out in order from the start, and leaves every goal fact standing
pub record GoodIn (d : Draft) (l : List ℕ) : Type 0 where
  pub end : FactSet
  pub carried : Carried d.moves.now d.start l end
  pub stands : Within d.goal end

-- a task's good lists are those of its draft
abbrev pub Good : Task → List ℕ → Type 0
Good t l = GoodIn (draft_of t) l

-- the moves before this place can be carried out, and the one at it cannot
pub record StuckAt (moves : List Move) (s : FactSet) (l : List ℕ) (at : ℕ) : Type 0 where
  pub inside : at < length l
  pub facts : FactSet
  pub carried : Carried moves s (take at l) facts
  pub stuck : (u : FactSet) → Step moves (slice_index l at) facts u → ⊥

-- what carrying out a list from the start comes to
abbrev pub ComesTo : Task → List ℕ → Result Arrival Stuck → Type 0
ComesTo t l (Ok end) = Carried (moves_of t) (start_of t) l end.facts × Decides end.goal (Within (goal_of t) end.facts)
ComesTo t l (Err stuck) = StuckAt (moves_of t) (start_of t) l stuck.at

-- regressions lead from s to the last set, by the moves of these numbers, the last of them first: that is the order of carrying out
pub data Chain (moves : List Move) (s : FactSet) : List ℕ → FactSet → Type 0 where
  none : Chain moves s [] s
  back : {t u : FactSet} {k : ℕ} {m : Move} {l : List ℕ} → Chain moves s l t → At moves k m → Regresses m t u → Chain moves s (k ∷ l) u

-- a chain of regressions from the goal to a set within the start
pub record Reaches (d : Draft) (l : List ℕ) : Type 0 where
  pub last : FactSet
  pub chain : Chain d.moves.now d.goal l last
  pub within : Within last d.start

-- the first list is the second with some elements left out
pub data Sublist : List ℕ → List ℕ → Type 0 where
  empty : Sublist [] []
  keep : {k : ℕ} {l r : List ℕ} → Sublist l r → Sublist (k ∷ l) (k ∷ r)
  skip : {k : ℕ} {l r : List ℕ} → Sublist l r → Sublist l (k ∷ r)

-- of every draft, whether it has a fault or not
abbrev pub ChainsAreGoodLists : Type 0
ChainsAreGoodLists = (d : Draft) (l : List ℕ) → Reaches d l → GoodIn d l

-- of a draft that has no fault, as a task's has none
abbrev pub GoodListsHaveChains : Type 0
GoodListsHaveChains = (d : Draft) → Faultless d → (l : List ℕ) → GoodIn d l → (some : List ℕ) × Reaches d some × Sublist some l
