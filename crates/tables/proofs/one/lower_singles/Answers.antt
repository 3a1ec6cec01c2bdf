use Rattle.std.proofs.Common.{ap, ◌∙◌, inl, inr, ⊎_elim}
use Rattle.tables.proofs.Falls.{lowers_none, lowers_like, lowers_then}
use Rattle.tables.proofs.Order.{laws_of}
use Rattle.tables.proofs.Subsets.{walked, over}
use Rattle.tables.proofs.one.lower_singles.Goals as goal

pub loop-fact-init : goal.loop-fact-init
loop-fact-init g c =
    ((λ f h. h), lowers_none (laws_of g.V.Tally g.met.V.Tally.lawful) (λ k p. p.1.1 p.1.0))

pub loop-fact-preserved : goal.loop-fact-preserved
loop-fact-preserved g c =
    let laws = laws_of g.V.Tally g.met.V.Tally.lawful in
    let x = c.in-Some.fact in
    let step = walked c.loop-fact.invariant.0 c.in-Some.ensures.steps in (
      step.within,
      lowers_then laws c.loop-fact.invariant.1 c.lower_single.ensures
          (λ k p. ⊎_elim (λ h. inl (p.0, h)) (λ e. inr (p.0, e)) (step.more k p.1))
          (λ k p. (p.0, step.still k p.1))
          (λ k p. (p.0, step.now k p.1)),
    )

pub returns : goal.returns
returns g c =
    let laws = laws_of g.V.Tally g.met.V.Tally.lawful in
    let end = over (ap (λ x. x.left) c.into_iter-fact-iterator.ensures.into_iter_gives ∙ c.iter-fact-items.ensures) c.in-None.ensures.steps in
    lowers_like laws (λ k p. (p.0, end.only k p.1)) (λ k p. (p.0, end.whole k p.1)) c.loop-fact.invariant.1
