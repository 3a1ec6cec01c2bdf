-- Places that come down to an offer.
use Rattle.std.proofs.Common.{◌≡◌, ◌⊎◌, sym, refl, ◌∙◌, subst, inl, inr, ⊎_elim}
use Rattle.costs.specs.Choices.{Smaller}
use Rattle.costs.specs.Estimates.{not_above}
use Rattle.costs.specs.Estimates.{Estimate}
use Rattle.costs.specs.declared.tally.Tally.{Ghosts}
use Rattle.bounds.specs.Sound.{NotAbove}
use Rattle.tables.specs.Settling.{Lowers}
use Rattle.tables.proofs.Order as order
use Rattle.tables.proofs.Order.{LawsOf}

module _ {V K : Type 0} {tally : Ghosts V} (laws : LawsOf tally) {offer : Estimate V} where
  pub lowers_none : {Head : K → Type 0} {old : K → Estimate V} → ((k : K) → Head k → ⊥) → Lowers tally Head offer old old
  lowers_none out = record { each = λ k. inl refl; under = λ k h. absurd (out k h) }

  pub lowers_like : {Head More : K → Type 0} {old new : K → Estimate V} → ((k : K) → Head k → More k) → ((k : K) → More k → Head k)
      → Lowers tally Head offer old new → Lowers tally More offer old new
  lowers_like to from l = record {
    each = λ k. ⊎_elim (λ e. inl e) (λ w. inr (to k w.0, w.1, w.2)) (l.each k);
    under = λ k h. l.under k (from k h);
  }

  fell : {Head : K → Type 0} {old new : K → Estimate V} → Lowers tally Head offer old new → (k : K) → NotAbove tally (new k) (old k)
  fell {old = old} l k = ⊎_elim (λ e. order.same laws e) (λ w. subst (λ x. NotAbove tally x (old k)) (sym w.1) w.2) (l.each k)

  pub lowers_then : {Head More Then : K → Type 0} {old mid new : K → Estimate V} → Lowers tally Head offer old mid → Lowers tally More offer mid new
      → ((k : K) → Then k → Head k ⊎ More k) → ((k : K) → Head k → Then k) → ((k : K) → More k → Then k) → Lowers tally Then offer old new
  lowers_then {old = old} {mid = mid} {new = new} l m split left right = record {
    each = λ k. ⊎_elim
        (λ e. ⊎_elim (λ f. inl (e ∙ f)) (λ w. inr (left k w.0, e ∙ w.1, w.2)) (l.each k))
        (λ w. inr (right k w.0, w.1, order.transitive laws offer (mid k) (old k) w.2 (fell l k))) (m.each k);
    under = λ k h. ⊎_elim (λ x. order.transitive laws (new k) (mid k) offer (fell m k) (l.under k x)) (λ x. m.under k x) (split k h);
  }

  -- what is no more than the offer stays
  pub lowers_keeps : {Head : K → Type 0} {old new : K → Estimate V} → Lowers tally Head offer old new → (k : K) → NotAbove tally (old k) offer → new k ≡ old k
  lowers_keeps {old = old} l k h = ⊎_elim (λ e. e) (λ w. w.1 ∙ order.antisymmetric laws offer (old k) w.2 h) (l.each k)

  -- one place is lowered to the smaller of it and the offer
  pub lowers_at : {Head : K → Type 0} {old new : K → Estimate V} (at : K) (r : Estimate V) → Head at → ((k : K) → Head k → k ≡ at) → ((k : K) → (k ≡ at) ⊎ (k ≡ at → ⊥))
      → new at ≡ r → ((k : K) → (k ≡ at → ⊥) → new k ≡ old k) → Smaller (not_above tally.at_most) (old at) offer r → Lowers tally Head offer old new
  lowers_at {Head} {old} {new} at r head alone decide here there s =
      let Each : K → Type 0 = λ k. (new k ≡ old k) ⊎ (Head k × (new k ≡ offer) × NotAbove tally offer (old k)) in
      let at_each : Each at = ⊎_elim (λ e. inl (here ∙ e)) (λ e. inr (head, here ∙ e, subst (λ x. NotAbove tally x (old at)) e s.below_one)) s.chosen in
      record {
        each = λ k. ⊎_elim (λ e. subst Each (sym e) at_each) (λ ne. inl (there k ne)) (decide k);
        under = λ k h. subst (λ x. NotAbove tally (new x) offer) (sym (alone k h)) (subst (λ x. NotAbove tally x offer) (sym here) s.below_other);
      }
