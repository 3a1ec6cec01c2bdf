use Rattle.std.proofs.Common.{ap, ◌∙◌, inl, inr, ⊎_elim}
use Rattle.tables.specs.Nets.{pairs, place_of}
use Rattle.tables.specs.Origins.{setting_in}
use Rattle.tables.proofs.Order.{laws_of}
use Rattle.tables.proofs.Subsets.{walked, over}
use Rattle.tables.proofs.Tops.{top_none, top_join, top_like}
use Rattle.tables.proofs.places.Places.highest_pair.Goals as goal

pub loop-p-init : goal.loop-p-init
loop-p-init g c =
    ((λ f h. h), top_none (laws_of g.V.Tally g.met.V.Tally.lawful) (λ k p. p.0.1 p.0.0) c.nil-top.ensures)

pub loop-p-preserved : goal.loop-p-preserved
loop-p-preserved g c =
    let laws = laws_of g.V.Tally g.met.V.Tally.lawful in
    let val = place_of (pairs g.V.Tally (setting_in c.args.self.now.origin)) c.args.self.now.table.now in
    let x = c.in-Some.p in
    let step = walked c.loop-p.invariant.0 c.in-Some.ensures.steps in (
      step.within,
      top_join laws {val = val} c.loop-p.invariant.1 c.row.ensures c.larger-top.ensures.larger
          (λ k h. ⊎_elim (λ gone. inl (gone, h.1)) (λ e. inr (e, h.1)) (step.more k.0 h.0))
          (λ k h. (step.still k.0 h.0, h.1))
          (λ k h. (step.now k.0 h.0, h.1)),
    )

pub returns : goal.returns
returns g c =
    let laws = laws_of g.V.Tally g.met.V.Tally.lawful in
    let end = over (ap (λ x. x.left) c.into_iter-p-iterator.ensures.into_iter_gives ∙ c.iter-p-items.ensures) c.in-None.ensures.steps in
    top_like laws (λ k h. (end.only k.0 h.0, h.1))
    (λ k h. (end.whole k.0 h.0, h.1)) c.loop-p.invariant.1
