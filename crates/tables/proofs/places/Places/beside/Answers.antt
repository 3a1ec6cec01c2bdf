use Rattle.std.proofs.Common.{◌≡◌, ℕ, ◌⊎◌, refl, ap, ◌∙◌, inl, inr, ⊎_elim}
use Rattle.tables.specs.Nets.{pairs, place_of}
use Rattle.tables.specs.Origins.{setting_in}
use Rattle.tables.specs.Reading.{Two}
use Rattle.tables.proofs.TwoFacts.{same_two}
use Rattle.tables.proofs.Order.{laws_of}
use Rattle.tables.proofs.Subsets.{Gone, walked, over}
use Rattle.tables.proofs.Tops.{top_one, top_join, top_like}
use Rattle.tables.proofs.places.Places.beside.Goals as goal

-- the places of r with itself and with what `Taken` holds of
abbrev Around : ℕ → (ℕ → Type 0) → Two → Type 0
Around r Taken k = ((k.0 ≡ r) × ((k.1 ≡ r) ⊎ Taken k.1)) ⊎ ((k.1 ≡ r) × Taken k.0)

pub loop-p-init : goal.loop-p-init
loop-p-init g c =
    let r = c.args.r in (
      (λ f h. h),
      top_one (laws_of g.V.Tally g.met.V.Tally.lawful) (r, r) (inl (refl, inl refl))
          (λ k h. ⊎_elim (λ a. ⊎_elim (λ e. same_two k r r a.0 e) (λ gone. absurd (gone.1 gone.0)) a.1) (λ a. absurd (a.1.1 a.1.0)) h)
          c.pair-top.ensures,
    )

pub loop-p-preserved : goal.loop-p-preserved
loop-p-preserved g c =
    let laws = laws_of g.V.Tally g.met.V.Tally.lawful in
    let val = place_of (pairs g.V.Tally (setting_in c.args.self.now.origin)) c.args.self.now.table.now in
    let r = c.args.r in
    let x = c.in-Some.p in
    let step = walked c.loop-p.invariant.0 c.in-Some.ensures.steps in
    let Old : Two → Type 0 = Around r (Gone c.into_iter-p-iterator.result.left c.loop-p.p-iterator.left) in
    let New : Two → Type 0 = Around r (Gone c.into_iter-p-iterator.result.left c.next.new.self.left) in
    let One : Two → Type 0 = λ k. k ≡ (x, r) in
    let Other : Two → Type 0 = λ k. k ≡ (r, x) in
    let first = top_join laws {val = val} {P = Old} {Q = One} {R = λ k. Old k ⊎ One k} c.loop-p.invariant.1 (top_one laws {val = val} (x, r) refl (λ l e. e) c.pair.ensures) c.larger-top.ensures.larger
    (λ k h. h) (λ k h. inl h) (λ k h. inr h) in (
      step.within,
      top_join laws {val = val} {P = λ k. Old k ⊎ One k} {Q = Other} {R = New} first (top_one laws {val = val} (r, x) refl (λ l e. e) c.pair-in-loop-p.ensures) c.larger-top-in-loop-p.ensures.larger
          (λ k h. ⊎_elim
          (λ a. ⊎_elim (λ e. inl (inl (inl (a.0, inl e)))) (λ gone. ⊎_elim (λ old. inl (inl (inl (a.0, inr old)))) (λ e. inr (same_two k r x a.0 e)) (step.more k.1 gone)) a.1)
          (λ a. ⊎_elim (λ old. inl (inl (inr (a.0, old)))) (λ e. inl (inr (same_two k x r e a.0))) (step.more k.0 a.1)) h)
          (λ k h. ⊎_elim
          (λ old. ⊎_elim (λ a. inl (a.0, ⊎_elim (λ e. inl e) (λ gone. inr (step.still k.1 gone)) a.1)) (λ a. inr (a.0, step.still k.0 a.1)) old)
          (λ e. inr (ap (λ y. y.1) e, step.now k.0 (ap (λ y. y.0) e))) h)
          (λ k e. inl (ap (λ y. y.0) e, inr (step.now k.1 (ap (λ y. y.1) e)))),
    )

pub returns : goal.returns
returns g c =
    let laws = laws_of g.V.Tally g.met.V.Tally.lawful in
    let end = over (ap (λ x. x.left) c.into_iter-p-iterator.ensures.into_iter_gives ∙ c.iter-p-items.ensures) c.in-None.ensures.steps in
    top_like laws
    (λ k h. ⊎_elim (λ a. inl (a.0, ⊎_elim (λ e. inl e) (λ gone. inr (end.only k.1 gone)) a.1)) (λ a. inr (a.0, end.only k.0 a.1)) h)
    (λ k h. ⊎_elim (λ a. inl (a.0, ⊎_elim (λ e. inl e) (λ i. inr (end.whole k.1 i)) a.1)) (λ a. inr (a.0, end.whole k.0 a.1)) h)
    c.loop-p.invariant.1
