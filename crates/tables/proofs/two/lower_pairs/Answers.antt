use Rattle.std.proofs.Common.{◌≡◌, ℕ, ◌⊎◌, ap, ◌∙◌, inl, inr, ⊎_elim}
use Rattle.costs.specs.declared.tally.Tally.{Ghosts}
use Rattle.tables.specs.Equation.{Setting}
use Rattle.tables.specs.Nets.{pairs, Present, place_of}
use Rattle.tables.specs.Origins.{setting_in}
use Rattle.tables.specs.Reading.{Two}
use Rattle.tables.proofs.TwoFacts.{same_two}
use Rattle.tables.proofs.Falls.{lowers_none, lowers_like, lowers_then}
use Rattle.tables.proofs.Order.{laws_of}
use Rattle.tables.proofs.Subsets.{Gone, walked, over}
use Rattle.tables.proofs.two.lower_pairs.Goals as goal

-- the places of r with what `Taken` holds of
abbrev Headed : {V : Type 0} → Ghosts V → Setting → ℕ → (ℕ → Type 0) → Two → Type 0
Headed tally b r Taken k = Present (pairs tally b) k × (((k.1 ≡ r) × Taken k.0) ⊎ ((k.0 ≡ r) × Taken k.1))

pub loop-p-init : goal.loop-p-init
loop-p-init g c = (
  (λ f h. h),
  lowers_none (laws_of g.V.Tally g.met.V.Tally.lawful) (λ k h. ⊎_elim (λ a. a.1.1 a.1.0) (λ a. a.1.1 a.1.0) h.1),
)

pub loop-p-preserved : goal.loop-p-preserved
loop-p-preserved g c =
    let laws = laws_of g.V.Tally g.met.V.Tally.lawful in
    let tally = g.V.Tally in
    let b = setting_in c.args.origin.now in
    let n = pairs tally b in
    let r = c.args.r in
    let x = c.in-Some.p in
    let step = walked c.loop-p.invariant.0 c.in-Some.ensures.steps in
    let Old : Two → Type 0 = Headed tally b r (Gone c.into_iter-p-iterator.result.left c.loop-p.p-iterator.left) in
    let New : Two → Type 0 = Headed tally b r (Gone c.into_iter-p-iterator.result.left c.next.new.self.left) in
    let One : Two → Type 0 = λ k. Present n k × (k ≡ (x, r)) in
    let Other : Two → Type 0 = λ k. Present n k × (k ≡ (r, x)) in
    let start = place_of n c.args.table.now in
    let mid = place_of n c.lower_pair.new.table in
    let end = place_of n c.lower_pair-in-loop-p.new.table in
    let first = lowers_then laws {Head = Old} {More = One} {Then = λ k. Old k ⊎ One k} {old = start} {new = mid} c.loop-p.invariant.1 c.lower_pair.ensures (λ k h. h) (λ k h. inl h) (λ k h. inr h) in (
      step.within,
      lowers_then laws {Head = λ k. Old k ⊎ One k} {More = Other} {Then = New} {old = start} {mid = mid} {new = end} first c.lower_pair-in-loop-p.ensures
          (λ k h. ⊎_elim
          (λ a. ⊎_elim (λ old. inl (inl (h.0, inl (a.0, old)))) (λ e. inl (inr (h.0, same_two k x r e a.0))) (step.more k.0 a.1))
          (λ a. ⊎_elim (λ old. inl (inl (h.0, inr (a.0, old)))) (λ e. inr (h.0, same_two k r x a.0 e)) (step.more k.1 a.1)) h.1)
          (λ k h. ⊎_elim
          (λ old. (old.0, ⊎_elim (λ a. inl (a.0, step.still k.0 a.1)) (λ a. inr (a.0, step.still k.1 a.1)) old.1))
          (λ e. (e.0, inl (ap (λ y. y.1) e.1, step.now k.0 (ap (λ y. y.0) e.1)))) h)
          (λ k e. (e.0, inr (ap (λ y. y.0) e.1, step.now k.1 (ap (λ y. y.1) e.1)))),
    )

pub returns : goal.returns
returns g c =
    let laws = laws_of g.V.Tally g.met.V.Tally.lawful in
    let end = over (ap (λ x. x.left) c.into_iter-p-iterator.ensures.into_iter_gives ∙ c.iter-p-items.ensures) c.in-None.ensures.steps in
    lowers_like laws
    (λ k h. (h.0, ⊎_elim (λ a. inl (a.0, end.only k.0 a.1)) (λ a. inr (a.0, end.only k.1 a.1)) h.1))
    (λ k h. (h.0, ⊎_elim (λ a. inl (a.0, end.whole k.0 a.1)) (λ a. inr (a.0, end.whole k.1 a.1)) h.1))
    c.loop-p.invariant.1
