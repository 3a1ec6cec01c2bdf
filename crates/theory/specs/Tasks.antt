-- The small tasks that are worked through.
use Rattle.std.specs.Prelude.{ℕ, T, List, [], ◌∷◌}
use Rattle.facts.specs.declared.sets.FactSet.{FactSet}
use Rattle.tasks.specs.declared.draft.Draft.{Draft}
use Rattle.tasks.specs.declared.moves.Move.{Move}
use Rattle.tasks.specs.declared.task.Task.{Task}
use Rattle.tasks.proofs.Fine.{is_fine, fine_is_faultless}

-- bit f of the number says whether fact f is in the set
abbrev pub set_of : ℕ → FactSet
set_of n = record { word = n }

-- so many facts, a start, a goal and moves; where the moves are kept does not matter
abbrev pub draft_with : ℕ → ℕ → ℕ → List Move → Draft
draft_with facts start goal moves = record { facts = facts; start = set_of start; goal = set_of goal; moves = record { ref_ptr = (0, 0); now = moves } }

-- move 0 needs fact 0, makes fact 1 and breaks fact 0, at 15; move 1 makes fact 2, at 4
abbrev pub two_moves : List Move
two_moves = record { group = 0; price = 15; needs = set_of 1; makes = set_of 2; breaks = set_of 1 }
    ∷ record { group = 1; price = 4; needs = set_of 0; makes = set_of 4; breaks = set_of 0 } ∷ []

-- the task of such a draft, which the test shows to have no fault
abbrev pub task_with : (facts start goal : ℕ) (moves : List Move) → T (is_fine (draft_with facts start goal moves)) → Task
task_with facts start goal moves fine =
    record { draft = draft_with facts start goal moves; checked = fine_is_faultless (draft_with facts start goal moves) fine }

-- from fact 0 to facts 1 and 2
abbrev pub small : Task
small = task_with 3 1 6 two_moves tt

-- the same with an empty goal, and with an empty start
abbrev pub goalless : Task
goalless = task_with 3 1 0 two_moves tt

abbrev pub startless : Task
startless = task_with 3 0 6 two_moves tt
