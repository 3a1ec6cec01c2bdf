use Rattle.std.proofs.Common.{◌≡◌, ◌↔◌, ℕ, false, T, Some, Option, sym, subst}
use Rattle.facts.specs.Sets.{has}
use Rattle.facts.proofs.Tests.{from_true, and_left, and_right, and_both}
use Rattle.tasks.specs.declared.moves.Move.{Move}
use Rattle.tables.specs.Nets.{besides}
use Rattle.tables.specs.Reading.{Two}
use Rattle.tables.specs.Settling.{touches, both}
use Rattle.tables.proofs.TwoFacts.{besides_only, besides_needs}
use Rattle.tables.proofs.two.concerned.Goals as goal

-- the pair just settled is beside r exactly where one fact of it, which is not needed, is r
module _ (m : Move) (r : ℕ) (settled : Option Two) (k : Two) (is : settled ≡ Some k) {In : Type 0} (x : ℕ) (unneeded : has m.needs x ≡ false) (told : In ↔ ((r ≡ x) × (T (has m.makes r) → ⊥)))
    (to : T (besides m r x) → T (both (besides m r) k)) (from : T (both (besides m r) k) → T (besides m r x)) where
  beside_one : In ↔ T (touches (both (besides m r)) settled)
  beside_one = let one = besides_only m r x unneeded in
      subst (λ s. In ↔ T (touches (both (besides m r)) s)) (sym is) ((λ i. to (one.0 (told.0 i))), λ h. told.1 (one.1 (from h)))

pub returns-in-true-false-clause-told : goal.returns-in-true-false-clause-told
returns-in-true-false-clause-told c = λ r l whole.
    let m = c.args.m.now in
    let p = c.in-Some.p in
    let q = c.in-Some.q in
    beside_one m r c.args.settled (p, q) c.in-Some.is q (sym c.in-true-false.ensures') (c.unmade.ensures.told r l whole)
    (λ h. and_both (besides m r p) (besides m r q) (besides_needs m r p (from_true (sym c.in-true-false.ensures))) h) (λ h. and_right (besides m r p) (besides m r q) h)

pub returns-in-false-true-clause-told : goal.returns-in-false-true-clause-told
returns-in-false-true-clause-told c = λ r l whole.
    let m = c.args.m.now in
    let p = c.in-Some.p in
    let q = c.in-Some.q in
    beside_one m r c.args.settled (p, q) c.in-Some.is p (sym c.in-false-true.ensures) (c.unmade-in-false-true.ensures.told r l whole)
    (λ h. and_both (besides m r p) (besides m r q) h (besides_needs m r q (from_true (sym c.in-false-true.ensures')))) (λ h. and_left (besides m r p) (besides m r q) h)

pub returns-in-false-false-clause-told : goal.returns-in-false-false-clause-told
returns-in-false-false-clause-told c = λ r l whole.
    let m = c.args.m.now in
    let p = c.in-Some.p in
    let q = c.in-Some.q in
    beside_one m r c.args.settled (p, q) c.in-Some.is p (sym c.in-false-false.ensures) (c.unmade-in-false-false.ensures.told r l whole)
    (λ h. and_both (besides m r p) (besides m r q) h (subst (λ x. T (besides m r x)) c.if-p-q.true h)) (λ h. and_left (besides m r p) (besides m r q) h)
