use Rattle.std.proofs.Common.{◌≡◌, refl, ap, ◌∙◌}
use Rattle.tables.specs.Nets.{singles, place_of}
use Rattle.tables.specs.Origins.{setting_in}
use Rattle.tables.proofs.Order.{laws_of}
use Rattle.tables.proofs.Subsets.{walked, over}
use Rattle.tables.proofs.Tops.{top_none, top_one, top_join, top_like}
use Rattle.tables.proofs.places.Places.highest_single.Goals as goal

pub loop-fact-init : goal.loop-fact-init
loop-fact-init g c =
    ((λ f h. h), top_none (laws_of g.V.Tally g.met.V.Tally.lawful) (λ k p. p.1 p.0) c.nil-top.ensures)

pub loop-fact-preserved : goal.loop-fact-preserved
loop-fact-preserved g c =
    let laws = laws_of g.V.Tally g.met.V.Tally.lawful in
    let val = place_of (singles g.V.Tally (setting_in c.args.self.now.origin)) c.args.self.now.table.now in
    let x = c.in-Some.fact in
    let step = walked c.loop-fact.invariant.0 c.in-Some.ensures.steps in (
      step.within,
      top_join laws {val = val} {Q = λ k. k ≡ x} c.loop-fact.invariant.1 (top_one laws {val = val} x refl (λ l p. p) c.single.ensures) c.larger-top.ensures.larger
          step.more step.still
          step.now,
    )

pub returns : goal.returns
returns g c =
    let laws = laws_of g.V.Tally g.met.V.Tally.lawful in
    let end = over (ap (λ x. x.left) c.into_iter-fact-iterator.ensures.into_iter_gives ∙ c.iter-fact-items.ensures) c.in-None.ensures.steps in
    top_like laws end.only end.whole c.loop-fact.invariant.1
