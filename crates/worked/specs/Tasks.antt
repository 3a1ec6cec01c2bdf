-- A small task beside those of the theory.
use Rattle.std.specs.Prelude.{[], ◌∷◌}
use Rattle.tasks.specs.declared.task.Task.{Task}
use Rattle.theory.specs.Tasks.{set_of, task_with}

-- two moves at 0, each of which needs what the other makes, and an empty start
abbrev pub circle : Task
circle = task_with 2 0 1 (record { group = 0; price = 0; needs = set_of 1; makes = set_of 2; breaks = set_of 0 }
    ∷ record { group = 0; price = 0; needs = set_of 2; makes = set_of 1; breaks = set_of 0 } ∷ []) tt
