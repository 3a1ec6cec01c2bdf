-- The highest of some places: as a relation, and as a function.
use Rattle.std.proofs.Common.{◌≡◌, ℕ, zero, suc, ◌<◌, Bool, T, ◌⊎◌, sym, refl, ◌∙◌, subst, inl, inr, ⊎_elim, arith, Some}
use Rattle.std.proofs.lemmas.Bool.{cases_eq, cases_Bool, cond-true, cond-false}
use Rattle.facts.specs.Sets.{has}
use Rattle.facts.specs.declared.sets.FactSet.{FactSet}
use Rattle.facts.proofs.Tests.{from_true, not_both}
use Rattle.costs.specs.Choices.{Larger}
use Rattle.costs.specs.Estimates.{not_above}
use Rattle.costs.specs.Estimates.{Estimate}
use Rattle.costs.specs.declared.tally.Tally.{Ghosts}
use Rattle.bounds.specs.Sound.{NotAbove}
use Rattle.tables.specs.Reading.{Two, Top, highest, highest_two, estimate_by_singles, estimate_by_pairs, past}
use Rattle.tables.proofs.Order as order
use Rattle.tables.proofs.Order.{LawsOf}
use Rattle.tables.proofs.Subsets.{has_past}

module _ {V K : Type 0} {tally : Ghosts V} (laws : LawsOf tally) {val : K → Estimate V} where
  pub top_none : {P : K → Type 0} {e : Estimate V} → ((k : K) → P k → ⊥) → e ≡ Some tally.nil → Top tally P val e
  top_none out is = record { upper = λ k p. absurd (out k p); reached = inl is }

  pub top_one : (k : K) {P : K → Type 0} {e : Estimate V} → P k → ((l : K) → P l → l ≡ k) → e ≡ val k → Top tally P val e
  top_one k here alone is = record {
    upper = λ l p. order.same laws (subst (λ x. val x ≡ val k) (sym (alone l p)) refl ∙ sym is);
    reached = inr (k, here, is);
  }

  pub top_like : {P Q : K → Type 0} {e : Estimate V} → ((k : K) → P k → Q k) → ((k : K) → Q k → P k) → Top tally P val e → Top tally Q val e
  top_like to from t = record { upper = λ k q. t.upper k (from k q); reached = ⊎_elim (λ e. inl e) (λ w. inr (w.0, to w.0 w.1, w.2)) t.reached }

  pub top_join : {P Q R : K → Type 0} {e f r : Estimate V} → Top tally P val e → Top tally Q val f → Larger (not_above tally.at_most) e f r
      → ((k : K) → R k → P k ⊎ Q k) → ((k : K) → P k → R k) → ((k : K) → Q k → R k) → Top tally R val r
  top_join {e = e} {f = f} {r = r} t u l split left right = record {
    upper = λ k p. ⊎_elim (λ x. order.transitive laws (val k) e r (t.upper k x) l.above_one) (λ x. order.transitive laws (val k) f r (u.upper k x) l.above_other) (split k p);
    reached = ⊎_elim
        (λ is. ⊎_elim (λ x. inl (is ∙ x)) (λ w. inr (w.0, left w.0 w.1, is ∙ w.2)) t.reached)
        (λ is. ⊎_elim (λ x. inl (is ∙ x)) (λ w. inr (w.0, right w.0 w.1, is ∙ w.2)) u.reached)
        l.chosen;
  }

  pub top_below : {P : K → Type 0} {e : Estimate V} (f : Estimate V) → Top tally P val e → ((k : K) → P k → NotAbove tally (val k) f) → NotAbove tally e f
  top_below f t all = ⊎_elim (λ e. subst (λ x. NotAbove tally x f) (sym e) (order.least laws f)) (λ w. subst (λ x. NotAbove tally x f) (sym w.2) (all w.0 w.1)) t.reached

  pub top_sole : {P : K → Type 0} {e f : Estimate V} → Top tally P val e → Top tally P val f → e ≡ f
  top_sole {e = e} {f = f} t u = order.antisymmetric laws e f (top_below f t u.upper) (top_below e u t.upper)

module _ {V : Type 0} {tally : Ghosts V} (laws : LawsOf tally) (from : ℕ → Bool) (val : ℕ → Estimate V) where
  abbrev Taken : ℕ → ℕ → Type 0
  Taken n k = (k < n) × T (from k)

  highest_top : (n : ℕ) → Top tally (Taken n) val (highest tally from val n)
  unfolding highest
  highest_top zero = top_none laws (λ k p. omega (arith, p.0)) refl
  highest_top (suc n) = ⊎_elim
      (λ e. subst (Top tally (Taken (suc n)) val) (sym (cond-true (from n) _ _ e))
      (top_join laws {Q = λ k. k ≡ n} (highest_top n) (top_one laws n refl (λ l p. p) refl) (order.larger laws (highest tally from val n) (val n))
      (λ k p. ⊎_elim (λ x. inr x) (λ ne. inl (omega (arith, p.0), p.1)) (cases_eq k n))
      (λ k p. (omega (arith, p.0), p.1)) (λ k p. (omega (arith, p), subst (λ x. T (from x)) (sym p) (from_true e)))))
      (λ e. subst (Top tally (Taken (suc n)) val) (sym (cond-false (from n) _ _ e))
      (top_like laws (λ k p. (omega (arith, p.0), p.1))
      (λ k p. ⊎_elim (λ x. absurd (not_both (subst (λ y. T (from y)) x p.1) e)) (λ ne. (omega (arith, p.0), p.1)) (cases_eq k n)) (highest_top n)))
      (cases_Bool (from n))

  pub top_highest : (n : ℕ) → ((k : ℕ) → T (from k) → k < n) → Top tally (λ k. T (from k)) val (highest tally from val n)
  top_highest n all = top_like laws (λ k p. p.1) (λ k p. (all k p, p)) (highest_top n)

module _ {V : Type 0} {tally : Ghosts V} (laws : LawsOf tally) where
  -- what is read of a set is the highest of its places
  pub singles_top : (val : ℕ → Estimate V) (s : FactSet) → Top tally (λ k. T (has s k)) val (estimate_by_singles tally val s)
  singles_top val s = top_highest laws (has s) val (past s) (has_past s)

  pub two_top : (from : ℕ → Bool) (val : Two → Estimate V) (n : ℕ) → ((k : ℕ) → T (from k) → k < n) → Top tally (λ k. T (from k.0) × T (from k.1)) val (highest_two tally from val n)
  two_top from val n all =
      let row : ℕ → Estimate V = λ p. highest tally from (λ q. val (p, q)) n in
      let rows = top_highest laws from row n all in
      let inner : (p : ℕ) → Top tally (λ q. T (from q)) (λ q. val (p, q)) (row p) = λ p. top_highest laws from (λ q. val (p, q)) n all in
      record {
        upper = λ k i. order.transitive laws (val k) (row k.0) (highest_two tally from val n) ((inner k.0).upper k.1 i.1) (rows.upper k.0 i.0);
        reached = ⊎_elim (λ e. inl e)
            (λ w. ⊎_elim (λ e. inl (w.2 ∙ e)) (λ x. inr ((w.0, x.0), (w.1, x.1), w.2 ∙ x.2)) (inner w.0).reached) rows.reached;
      }

  pub pairs_top : (val : Two → Estimate V) (s : FactSet) → Top tally (λ k. T (has s k.0) × T (has s k.1)) val (estimate_by_pairs tally val s)
  pairs_top val s = two_top (has s) val (past s) (has_past s)
