use Rattle.solutions.proofs.response.solve.Goals as goal

pub returns : goal.returns
returns c =
    record { draft = c.in_ok-task.field-0-0; task = c.in_ok-task.task; says_task = c.in_ok-task.ensures; solved = c.search.ensures }
