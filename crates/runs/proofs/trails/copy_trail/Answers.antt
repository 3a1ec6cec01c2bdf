use Rattle.std.proofs.Common.{length, Some, sym, ap, ◌∙◌, subst, arith}
use Rattle.theory.specs.Runs.{Trail}
use Rattle.runs.specs.Trails.{Steps}
use Rattle.runs.proofs.Trailing.{copied_more, copied_all, way_done}
use Rattle.runs.proofs.trails.copy_trail.Goals as goal

pub loop-place-preserved : goal.loop-place-preserved
loop-place-preserved g c =
    let inv = c.loop-place.invariant in
    let step = c.in-Some.ensures.steps in
    let here = subst (λ r. Steps r c.loop-place.trail.iter.at (Some c.in-Some.via) c.next.new.self.iter.at) inv.0 step.0.1 in (
      step.0.0 ∙ inv.0,
      omega (arith, inv.1, step.1),
      copied_more _ _ c.loop-place.list (omega (arith, c.loop-place-test.true, c.loop-place.auto.list)) here inv.2,
    )

pub returns-in_default : goal.returns-in_default
returns-in_default g c l t h =
    let inv = c.loop-place.invariant in
    let step = c.in_default.ensures.steps (omega (arith, inv.1, c.loop-place-test.true)) in
    let way = subst (λ w. Trail w.rows.now w.at l) (sym c.take-trail.ensures.source) t in
    copied_all _ _ c.loop-place.list inv.2 l way
    (λ rest u sum. ap length (way_done (subst (λ r. Trail r c.loop-place.trail.iter.at rest) (sym inv.0) u) step.1))

pub returns : goal.returns
returns g c l t h =
    let way = subst (λ w. Trail w.rows.now w.at l) (sym c.take-trail.ensures.source) t in
    copied_all _ _ c.loop-place.list c.loop-place.invariant.2 l way (λ rest u sum. omega (arith, h, sum, c.loop-place-test.false, c.loop-place.auto.list))
