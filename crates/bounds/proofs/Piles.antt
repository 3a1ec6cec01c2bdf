-- The higher of two bounds, and their sum, keep the laws where both do.
use Rattle.std.proofs.Common.{◌≡◌, ℕ, Bool, T, sym, ap, ◌∙◌, subst, ⊎_elim, Some}
use Rattle.facts.specs.declared.sets.FactSet.{FactSet}
use Rattle.tasks.specs.declared.draft.Draft.{Draft}
use Rattle.costs.specs.Choices.{larger_of}
use Rattle.costs.specs.Estimates.{join_each}
use Rattle.costs.specs.Laws.{Lawful}
use Rattle.costs.specs.Estimates.{Estimate}
use Rattle.costs.specs.declared.tally.Tally.{Ghosts}
use Rattle.costs.specs.EstimatesLemmas.{estimates_lawful}
use Rattle.costs.proofs.Orders.{transitive, join_mono, swap_in, larger_made}
use Rattle.bounds.specs.Piles.{higher_estimate, higher_share, sum_estimate, sum_share, PilesAreSound}
use Rattle.bounds.specs.Sound.{SoundIn}

module _ {V : Type 0} {at_most : V → V → Bool} {nil : V} {join : V → V → V} (laws : Lawful at_most nil join) where
  -- what is at least both of two costs is at least the larger
  larger_below : (e f x : V) → T (at_most e x) → T (at_most f x) → T (at_most (larger_of at_most e f) x)
  larger_below e f x p q = ⊎_elim
      (λ is. subst (λ y. T (at_most y x)) (sym is) p)
      (λ is. subst (λ y. T (at_most y x)) (sym is) q)
      (larger_made laws e f).chosen

  -- one step for both bounds is a step for the higher, by any share that is at least both
  higher_step : (d e f g a b c : V) → T (at_most d (join a e)) → T (at_most f (join b g)) → T (at_most a c) → T (at_most b c)
      → T (at_most (larger_of at_most d f) (join c (larger_of at_most e g)))
  higher_step d e f g a b c p q u v =
      let top = larger_made laws e g in
      let far = join c (larger_of at_most e g) in
      larger_below d f far
      (transitive laws d (join a e) far p (join_mono laws a c e (larger_of at_most e g) u top.above_one))
      (transitive laws f (join b g) far q (join_mono laws b c g (larger_of at_most e g) v top.above_other))

  regrouped : (a e b g : V) → join (join a e) (join b g) ≡ join (join a b) (join e g)
  regrouped a e b g = laws.associative a e (join b g) ∙ ap (join a) (swap_in laws e b g) ∙ sym (laws.associative a b (join e g))

  -- and for the sum, by the shares joined
  sum_step : (d e f g a b : V) → T (at_most d (join a e)) → T (at_most f (join b g)) → T (at_most (join d f) (join (join a b) (join e g)))
  sum_step d e f g a b p q = subst (λ x. T (at_most (join d f) x)) (regrouped a e b g) (join_mono laws d (join a e) f (join b g) p q)

module _ {V : Type 0} {tally : Ghosts V} (laws : Lawful tally.at_most tally.nil tally.join) {d : Draft} {e f : FactSet → Estimate V} {a b : ℕ → V} where
  pub higher_sound : SoundIn tally d e a → SoundIn tally d f b → SoundIn tally d (higher_estimate tally e f) (higher_share tally a b)
  higher_sound one other = record {
    within = λ s w. ⊎_elim (λ is. is ∙ one.within s w) (λ is. is ∙ other.within s w) (larger_made (estimates_lawful laws) (e s) (f s)).chosen;
    step = λ k m s u at r.
        let top = larger_made laws (a k) (b k) in
        higher_step (estimates_lawful laws) (e s) (e u) (f s) (f u) (Some (a k)) (Some (b k)) (Some (higher_share tally a b k))
        (one.step k m s u at r) (other.step k m s u at r) top.above_one top.above_other;
  }

  pub sum_sound : SoundIn tally d e a → SoundIn tally d f b → SoundIn tally d (sum_estimate tally e f) (sum_share tally a b)
  sum_sound one other = record {
    within = λ s w.
        ap (λ x. join_each tally.join x (f s)) (one.within s w)
        ∙ ap (λ x. join_each tally.join (Some tally.nil) x) (other.within s w)
        ∙ ap Some (laws.neutral tally.nil);
    step = λ k m s u at r.
        sum_step (estimates_lawful laws) (e s) (e u) (f s) (f u) (Some (a k)) (Some (b k)) (one.step k m s u at r) (other.step k m s u at r);
  }

pub piles_are_sound : {V : Type 0} {tally : Ghosts V} → Lawful tally.at_most tally.nil tally.join → PilesAreSound tally
piles_are_sound laws = record { higher = λ t e f a b. higher_sound laws; sum = λ t e f a b. sum_sound laws }
