use Rattle.std.proofs.Common.{◌≡◌, sym, ap, ◌∙◌, subst}
use Rattle.std.proofs.lemmas.List.{take_more, take_all}
use Rattle.tasks.specs.Tasks.{moves_of}
use Rattle.costs.specs.Lists.{charge_of, Costs, nothing}
use Rattle.costs.proofs.Sums.{costs_more}
use Rattle.costs.proofs.lists.join_charges.Goals as goal

pub loop-number-init : goal.loop-number-init
loop-number-init g c = subst (Costs g.V.Tally (moves_of c.args.task.now) _) (sym c.nil-cost.ensures) nothing

pub loop-number-preserved : goal.loop-number-preserved
loop-number-preserved g c =
    let moves = moves_of c.args.task.now in
    let joined : c.join-cost.result ≡ g.V.Tally.join c.loop-number.cost (charge_of g.V.Tally c.in_ok-m.m) =
    c.join-cost.ensures ∙ ap (g.V.Tally.join c.loop-number.cost) c.charge.ensures in
    subst (λ l. Costs g.V.Tally moves l c.join-cost.result) (sym (take_more c.args.list.now c.loop-number.number-index 0 c.loop-number-test.true))
    (subst (Costs g.V.Tally moves _) (sym joined) (costs_more g.met.V.Tally.lawful c.loop-number.invariant c.in_ok-m.ensures))

pub returns : goal.returns
returns g c =
    subst (λ l. Costs g.V.Tally (moves_of c.args.task.now) l c.loop-number.cost)
    (take_all c.loop-number.number-index c.args.list.now c.loop-number-test.false) c.loop-number.invariant
