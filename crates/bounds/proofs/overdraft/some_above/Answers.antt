use Rattle.std.proofs.Common.{refl}
use Rattle.facts.proofs.Tests.{not_true_false}
use Rattle.tasks.proofs.Checks.{no_move}
use Rattle.tasks.proofs.Places.{at_get}
use Rattle.bounds.proofs.Shares.{passed_more, passed_all}
use Rattle.bounds.proofs.overdraft.some_above.Goals as goal

pub returns-then-is_above : goal.returns-then-is_above
returns-then-is_above g c = (
  (λ _. (c.loop-number.number, _, at_get c.args.moves.now c.loop-number.number no_move c.loop-number-test.true, c.if-is_above.ensures.0 refl)),
  (λ _. refl),
)

pub loop-number-preserved : goal.loop-number-preserved
loop-number-preserved g c =
    passed_more g.B.Value.Tally c.args.moves.now (g.B.Bound.shared c.args.bound.now) c.loop-number.number _ c.loop-number.invariant
    (at_get c.args.moves.now c.loop-number.number no_move c.loop-number-test.true) (λ above. not_true_false (c.if-is_above.ensures.1 above))

pub returns : goal.returns
returns g c =
    passed_all g.B.Value.Tally c.args.moves.now (g.B.Bound.shared c.args.bound.now) c.loop-number.number c.loop-number.invariant c.loop-number-test.false
