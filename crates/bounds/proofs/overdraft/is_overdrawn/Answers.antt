use Rattle.std.proofs.Common.{◌≤◌, length, sym, subst}
use Rattle.tasks.proofs.Checks.{few_moves_of}
use Rattle.bounds.proofs.overdraft.is_overdrawn.Goals as goal

pub some_above-requires : goal.some_above-requires
some_above-requires g c = subst (λ moves. length moves ≤ 1024) (sym c.moves.ensures) (few_moves_of c.args.task.now)
