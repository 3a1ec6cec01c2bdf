-- What the laws of a kind of cost give: of its order, its joins, and the larger and the smaller of two.
use Rattle.std.proofs.Common.{◌≡◌, Bool, true, false, cond, T, ◌⊎◌, sym, refl, ap, ◌∙◌, subst, inl, inr}
use Rattle.costs.specs.Choices.{Larger, Smaller, larger_of, smaller_of}
use Rattle.costs.specs.Laws.{Lawful}

module _ {V : Type 0} {at_most : V → V → Bool} {nil : V} {join : V → V → V} (laws : Lawful at_most nil join) where
  -- either the test holds or it fails, with the equation that says so
  abbrev told : (u v : V) (b : Bool) → at_most u v ≡ b → T (at_most u v) ⊎ (at_most u v ≡ false)
  told u v true e = inl (subst T (sym e) tt)
  told u v false e = inr e

  unfoldable pub compare : (u v : V) → T (at_most u v) ⊎ (at_most u v ≡ false)
  compare u v = told u v (at_most u v) refl

  pub reflexive : (u : V) → T (at_most u u)
  reflexive u = elim (compare u u) [ inl p ↦ p | inr e ↦ laws.total u u e ]

  pub from_equal : (u v : V) → u ≡ v → T (at_most u v)
  from_equal u v e = subst (λ x. T (at_most u x)) e (reflexive u)

  pub transitive : (u v w : V) → T (at_most u v) → T (at_most v w) → T (at_most u w)
  transitive = laws.transitive

  pub antisymmetric : (u v : V) → T (at_most u v) → T (at_most v u) → u ≡ v
  antisymmetric = laws.antisymmetric

  pub join_mono_left : (u v w : V) → T (at_most u v) → T (at_most (join u w) (join v w))
  join_mono_left = laws.monotone

  pub join_mono_right : (w u v : V) → T (at_most u v) → T (at_most (join w u) (join w v))
  join_mono_right w u v p = rw (laws.commutative w u, laws.commutative w v) (laws.monotone u v w p)

  pub join_mono : (t u v w : V) → T (at_most t u) → T (at_most v w) → T (at_most (join t v) (join u w))
  join_mono t u v w p q = transitive (join t v) (join u v) (join u w) (join_mono_left t u v p) (join_mono_right u v w q)

  pub neutral_left : (v : V) → join nil v ≡ v
  neutral_left = laws.neutral

  pub neutral_right : (v : V) → join v nil ≡ v
  neutral_right v = laws.commutative v nil ∙ laws.neutral v

  -- a join is at least each of its parts
  pub up_right : (u v : V) → T (at_most v (join u v))
  up_right u v = subst (λ x. T (at_most x (join u v))) (laws.neutral v) (laws.monotone nil u v (laws.least u))

  pub up_left : (u v : V) → T (at_most u (join u v))
  up_left u v = subst (λ x. T (at_most u x)) (laws.commutative v u) (up_right v u)

  pub swap_in : (x c y : V) → join x (join c y) ≡ join c (join x y)
  swap_in x c y =
      sym (laws.associative x c y) ∙ ap (λ z. join z y) (laws.commutative x c) ∙ laws.associative c x y

  -- two costs have one larger and one smaller
  pub larger_sole : (u v r s : V) → Larger at_most u v r → Larger at_most u v s → r ≡ s
  larger_sole u v r s h k =
      antisymmetric r s
      (elim h.chosen [
        | inl e ↦ subst (λ x. T (at_most x s)) (sym e) k.above_one
        | inr e ↦ subst (λ x. T (at_most x s)) (sym e) k.above_other
      ])
      (elim k.chosen [
        | inl e ↦ subst (λ x. T (at_most x r)) (sym e) h.above_one
        | inr e ↦ subst (λ x. T (at_most x r)) (sym e) h.above_other
      ])

  pub smaller_sole : (u v r s : V) → Smaller at_most u v r → Smaller at_most u v s → r ≡ s
  smaller_sole u v r s h k =
      antisymmetric r s
      (elim k.chosen [
        | inl e ↦ subst (λ x. T (at_most r x)) (sym e) h.below_one
        | inr e ↦ subst (λ x. T (at_most r x)) (sym e) h.below_other
      ])
      (elim h.chosen [
        | inl e ↦ subst (λ x. T (at_most s x)) (sym e) k.below_one
        | inr e ↦ subst (λ x. T (at_most s x)) (sym e) k.below_other
      ])

  pub larger_made : (u v : V) → Larger at_most u v (larger_of at_most u v)
  larger_made u v = larger_by (at_most u v) refl
    where
      larger_by : (b : Bool) → at_most u v ≡ b → Larger at_most u v (cond b v u)
      larger_by true e = record { chosen = inr refl; above_one = subst T (sym e) tt; above_other = reflexive v }
      larger_by false e = record { chosen = inl refl; above_one = reflexive u; above_other = laws.total u v e }

  pub smaller_made : (u v : V) → Smaller at_most u v (smaller_of at_most u v)
  smaller_made u v = smaller_by (at_most u v) refl
    where
      smaller_by : (b : Bool) → at_most u v ≡ b → Smaller at_most u v (cond b u v)
      smaller_by true e = record { chosen = inl refl; below_one = reflexive u; below_other = subst T (sym e) tt }
      smaller_by false e = record { chosen = inr refl; below_one = laws.total u v e; below_other = reflexive v }

  pub is_larger : (u v r : V) → Larger at_most u v r → r ≡ larger_of at_most u v
  is_larger u v r h = larger_sole u v r (larger_of at_most u v) h (larger_made u v)

  pub is_smaller : (u v r : V) → Smaller at_most u v r → r ≡ smaller_of at_most u v
  is_smaller u v r h = smaller_sole u v r (smaller_of at_most u v) h (smaller_made u v)
