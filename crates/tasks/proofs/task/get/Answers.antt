use Rattle.std.proofs.Common.{MatchOption, sym, subst}
use Rattle.tasks.specs.Places.{At}
use Rattle.tasks.specs.declared.moves.Move.{Move}
use Rattle.tasks.proofs.Places.{at_lent}
use Rattle.tasks.proofs.task.get.Goals as goal

pub returns : goal.returns
returns c =
    subst (λ k. MatchOption c.copied.result ((m : Move) → At c.args.moves.now k m → ⊥) (At c.args.moves.now k)) c.from.ensures
    (subst (λ r. MatchOption r ((m : Move) → At c.args.moves.now c.from.result m → ⊥) (At c.args.moves.now c.from.result)) (sym c.copied.ensures)
    (at_lent c.args.moves.now c.from.result c.get.result c.get.ensures.lookup))
