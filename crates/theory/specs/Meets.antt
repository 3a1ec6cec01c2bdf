-- The sets that regression from the goal meets.
use Rattle.std.specs.Prelude.{◌≡◌, ℕ, ◌<◌, List, length}
use Rattle.facts.specs.declared.sets.FactSet.{FactSet}
use Rattle.tasks.specs.Moves.{Regresses}
use Rattle.tasks.specs.Places.{At}
use Rattle.tasks.specs.Tasks.{draft_of}
use Rattle.tasks.specs.declared.draft.Draft.{Draft}
use Rattle.tasks.specs.declared.moves.Move.{Move}
use Rattle.tasks.specs.declared.task.Task.{Task}

-- the goal is met, and so is every set to which a move regresses a set that is met
pub data Meets (d : Draft) : FactSet → Type 0 where
  goal : Meets d d.goal
  back : {s u : FactSet} {k : ℕ} {m : Move} → Meets d s → At d.moves.now k m → Regresses m s u → Meets d u

-- regression meets more than this many different sets
pub record MeetsMoreIn (d : Draft) (room : ℕ) : Type 0 where
  pub sets : List FactSet
  pub more : room < length sets
  pub met : (i : ℕ) (s : FactSet) → At sets i s → Meets d s
  pub distinct : (i j : ℕ) (s : FactSet) → At sets i s → At sets j s → i ≡ j

-- for a task, from its draft
abbrev pub MeetsMore : Task → ℕ → Type 0
MeetsMore t room = MeetsMoreIn (draft_of t) room
