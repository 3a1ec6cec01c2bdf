use Rattle.std.proofs.Common.{sym, subst}
use Rattle.std.proofs.lemmas.List.{take_more, take_all}
use Rattle.tasks.specs.Lists.{Carried, none}
use Rattle.tasks.proofs.Chains.{carried_more}
use Rattle.tasks.proofs.task.carrying.carry_list.Goals as goal

pub loop-at-init : goal.loop-at-init
loop-at-init c = none

pub loop-at-preserved : goal.loop-at-preserved
loop-at-preserved c =
    let list = c.args.list.now in
    subst (λ l. Carried c.args.moves.now c.args.start l c.in-Some.next) (sym (take_more list c.loop-at.at 0 c.loop-at-test.true))
    (carried_more c.loop-at.invariant c.in-Some.ensures)

pub returns : goal.returns
returns c = subst (λ l. Carried c.args.moves.now c.args.start l c.loop-at.facts) (take_all c.loop-at.at c.args.list.now c.loop-at-test.false)
    c.loop-at.invariant
