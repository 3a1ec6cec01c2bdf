-- Estimates over a lawful kind of cost are a lawful kind of cost.
use Rattle.std.specs.Prelude.{◌≡◌, Bool, false, T, refl, None, Some}
use Rattle.std.proofs.Common.{ap, subst}
use Rattle.costs.specs.Estimates.{not_above, join_each}
use Rattle.costs.specs.Laws.{Lawful}
use Rattle.costs.specs.Estimates.{Estimate}

module _ {V : Type 0} {at_most : V → V → Bool} {nil : V} {join : V → V → V} (laws : Lawful at_most nil join) where
  transitive : (e f g : Estimate V) → T (not_above at_most e f) → T (not_above at_most f g) → T (not_above at_most e g)
  transitive (Some u) (Some v) (Some w) p q = laws.transitive u v w p q
  transitive (Some u) (Some v) None p q = tt
  transitive (Some u) None (Some w) p q = absurd q
  transitive (Some u) None None p q = tt
  transitive None (Some v) g p q = absurd p
  transitive None None g p q = q

  total : (e f : Estimate V) → not_above at_most e f ≡ false → T (not_above at_most f e)
  total (Some u) (Some v) p = laws.total u v p
  total (Some u) None p = absurd (subst T p tt)
  total None (Some v) p = tt
  total None None p = tt

  antisymmetric : (e f : Estimate V) → T (not_above at_most e f) → T (not_above at_most f e) → e ≡ f
  antisymmetric (Some u) (Some v) p q = ap Some (laws.antisymmetric u v p q)
  antisymmetric (Some u) None p q = absurd q
  antisymmetric None (Some v) p q = absurd p
  antisymmetric None None p q = refl

  least : (e : Estimate V) → T (not_above at_most (Some nil) e)
  least (Some v) = laws.least v
  least None = tt

  -- never is at least every estimate
  pub top : (e : Estimate V) → T (not_above at_most e None)
  top (Some v) = tt
  top None = tt

  associative : (e f g : Estimate V) → join_each join (join_each join e f) g ≡ join_each join e (join_each join f g)
  associative (Some u) (Some v) (Some w) = ap Some (laws.associative u v w)
  associative (Some u) (Some v) None = refl
  associative (Some u) None (Some w) = refl
  associative (Some u) None None = refl
  associative None (Some v) (Some w) = refl
  associative None (Some v) None = refl
  associative None None (Some w) = refl
  associative None None None = refl

  commutative : (e f : Estimate V) → join_each join e f ≡ join_each join f e
  commutative (Some u) (Some v) = ap Some (laws.commutative u v)
  commutative (Some u) None = refl
  commutative None (Some v) = refl
  commutative None None = refl

  neutral : (e : Estimate V) → join_each join (Some nil) e ≡ e
  neutral (Some v) = ap Some (laws.neutral v)
  neutral None = refl

  monotone : (e f g : Estimate V) → T (not_above at_most e f) → T (not_above at_most (join_each join e g) (join_each join f g))
  monotone (Some u) (Some v) (Some w) p = laws.monotone u v w p
  monotone (Some u) (Some v) None p = tt
  monotone (Some u) None (Some w) p = tt
  monotone (Some u) None None p = tt
  monotone None (Some v) g p = absurd p
  monotone None None (Some w) p = tt
  monotone None None None p = tt

  pub estimates_lawful : Lawful (not_above at_most) (Some nil) (join_each join)
  estimates_lawful = record {
    transitive = transitive;
    total = total;
    antisymmetric = antisymmetric;
    least = least;
    associative = associative;
    commutative = commutative;
    neutral = neutral;
    monotone = monotone;
  }
