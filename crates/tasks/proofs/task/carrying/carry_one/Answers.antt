use Rattle.std.proofs.Common.{Some, None, Option, subst, MatchOption}
use Rattle.facts.specs.declared.sets.FactSet.{FactSet}
use Rattle.tasks.specs.Lists.{Step}
use Rattle.tasks.specs.Moves.{Carries}
use Rattle.tasks.proofs.Places.{at_same}
use Rattle.tasks.proofs.task.carrying.carry_one.Goals as goal

pub returns : goal.returns
returns c = tells c.carry.result c.carry.ensures
  where
    tells : (r : Option FactSet) → MatchOption r ((t : FactSet) → Carries c.in_ok-get.field-0 c.args.facts t → ⊥) (Carries c.in_ok-get.field-0 c.args.facts)
        → MatchOption r ((t : FactSet) → Step c.args.moves.now c.args.number c.args.facts t → ⊥) (Step c.args.moves.now c.args.number c.args.facts)
    tells None stuck = λ t step. stuck t (subst (λ m. Carries m c.args.facts t) (at_same step.1 c.in_ok-get.ensures) step.2)
    tells (Some t) carries = (c.in_ok-get.field-0, c.in_ok-get.ensures, carries)
