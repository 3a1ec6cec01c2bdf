use Rattle.std.proofs.Common.{◌≡◌, refl, ap, ◌∙◌, inl, inr, ⊎_elim}
use Rattle.tables.specs.Nets.{pairs, place_of}
use Rattle.tables.specs.Origins.{setting_in}
use Rattle.tables.specs.Reading.{Two}
use Rattle.tables.proofs.TwoFacts.{same_two}
use Rattle.tables.proofs.Order.{laws_of}
use Rattle.tables.proofs.Subsets.{walked, over}
use Rattle.tables.proofs.Tops.{top_none, top_one, top_join, top_like}
use Rattle.tables.proofs.places.Places.row.Goals as goal

pub loop-q-init : goal.loop-q-init
loop-q-init g c =
    ((λ f h. h), top_none (laws_of g.V.Tally g.met.V.Tally.lawful) (λ k p. p.1.1 p.1.0) c.nil-top.ensures)

pub loop-q-preserved : goal.loop-q-preserved
loop-q-preserved g c =
    let laws = laws_of g.V.Tally g.met.V.Tally.lawful in
    let val = place_of (pairs g.V.Tally (setting_in c.args.self.now.origin)) c.args.self.now.table.now in
    let p = c.args.p in
    let x = c.in-Some.q in
    let step = walked c.loop-q.invariant.0 c.in-Some.ensures.steps in
    let Here : Two → Type 0 = λ k. k ≡ (p, x) in (
      step.within,
      top_join laws {val = val} {Q = Here} c.loop-q.invariant.1 (top_one laws {val = val} (p, x) refl (λ l e. e) c.pair.ensures) c.larger-top.ensures.larger
          (λ k h. ⊎_elim (λ gone. inl (h.0, gone)) (λ e. inr (same_two k p x h.0 e)) (step.more k.1 h.1))
          (λ k h. (h.0, step.still k.1 h.1))
          (λ k e. (ap (λ y. y.0) e, step.now k.1 (ap (λ y. y.1) e))),
    )

pub returns : goal.returns
returns g c =
    let laws = laws_of g.V.Tally g.met.V.Tally.lawful in
    let end = over (ap (λ x. x.left) c.into_iter-q-iterator.ensures.into_iter_gives ∙ c.iter-q-items.ensures) c.in-None.ensures.steps in
    top_like laws (λ k h. (h.0, end.only k.1 h.1))
    (λ k h. (h.0, end.whole k.1 h.1)) c.loop-q.invariant.1
