use Rattle.tasks.proofs.Checks.{few_moves}
use Rattle.tasks.proofs.task.checking.seek_all.Goals as goal

pub seek-requires-2 : goal.seek-requires-2
seek-requires-2 c = λ _. few_moves c.args.draft.now c.in_ok-seek.ensures

pub seek-requires-3 : goal.seek-requires-3
seek-requires-3 c = λ _. few_moves c.args.draft.now c.in_ok-seek.ensures
