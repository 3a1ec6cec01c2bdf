use Rattle.std.proofs.Common.{refl}
use Rattle.tasks.proofs.Checks.{first_move, no_place, passed_more, no_move}
use Rattle.tasks.proofs.Places.{at_get}
use Rattle.tasks.proofs.task.checking.seek.Goals as goal

pub returns-then-move_fault : goal.returns-then-move_fault
returns-then-move_fault c = (
  refl,
  first_move c.args.draft.now c.args.refusal c.if-heading_fault.ensures c.loop-number.number _ c.loop-number.invariant
      (at_get c.args.draft.now.moves.now c.loop-number.number no_move c.loop-number-test.true) (c.if-move_fault.ensures.0 refl),
)

pub loop-number-preserved : goal.loop-number-preserved
loop-number-preserved c =
    passed_more c.args.draft.now c.args.refusal c.loop-number.number _ c.loop-number.invariant
    (at_get c.args.draft.now.moves.now c.loop-number.number no_move c.loop-number-test.true) c.if-move_fault.ensures

pub returns : goal.returns
returns c = no_place c.args.draft.now c.args.refusal c.if-heading_fault.ensures c.loop-number.number c.loop-number.invariant c.loop-number-test.false
