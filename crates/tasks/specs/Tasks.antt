-- The parts of a task.
use Rattle.std.specs.Prelude.{ℕ, List}
use Rattle.facts.specs.declared.sets.FactSet.{FactSet}
use Rattle.tasks.specs.declared.draft.Draft.{Draft}
use Rattle.tasks.specs.declared.moves.Move.{Move}
use Rattle.tasks.specs.declared.task.Task.{Task}

abbrev pub draft_of : Task → Draft
draft_of t = t.draft

abbrev pub facts_of : Task → ℕ
facts_of t = (draft_of t).facts

abbrev pub start_of : Task → FactSet
start_of t = (draft_of t).start

abbrev pub goal_of : Task → FactSet
goal_of t = (draft_of t).goal

abbrev pub moves_of : Task → List Move
moves_of t = (draft_of t).moves.now
