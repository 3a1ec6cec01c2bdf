-- Estimates that may be trusted are never above what it costs to reach a set.
use Rattle.std.proofs.Common.{◌≡◌, ℕ, Bool, T, List, sym, ap, ◌∙◌, subst, inl, inr, Some}
use Rattle.facts.specs.Sets.{Within}
use Rattle.facts.specs.declared.sets.FactSet.{FactSet}
use Rattle.tasks.specs.Lists.{Chain, Sublist, empty, keep, skip}
use Rattle.tasks.specs.Moves.{Regresses}
use Rattle.tasks.specs.Places.{At}
use Rattle.tasks.specs.declared.draft.Draft.{Draft}
use Rattle.tasks.specs.declared.moves.Move.{Move}
use Rattle.tasks.proofs.Chains.{good_lists_have_chains}
use Rattle.tasks.proofs.Places.{at_same}
use Rattle.costs.specs.Estimates.{join_each}
use Rattle.costs.specs.Laws.{Lawful}
use Rattle.costs.specs.Lists.{charge_of, Costs, nothing, and_move}
use Rattle.costs.specs.Estimates.{Estimate}
use Rattle.costs.specs.declared.tally.Tally.{Ghosts}
use Rattle.costs.specs.EstimatesLemmas.{estimates_lawful}
use Rattle.costs.proofs.Orders.{compare, from_equal, neutral_left, neutral_right, join_mono_left, join_mono_right, up_right, swap_in}
use Rattle.bounds.specs.Sound.{NotAbove, joined_with, Trusted, EstimatesAreFloors}

-- a charge may be joined to the cost first, or to the estimate
charge_first : {V : Type 0} {at_most : V → V → Bool} {nil : V} {join : V → V → V} → Lawful at_most nil join → (c v : V) (e : Estimate V)
    → join_each join (Some v) (join_each join (Some c) e) ≡ join_each join (Some (join c v)) e
charge_first laws c v e = swap_in (estimates_lawful laws) (Some v) (Some c) e ∙ sym ((estimates_lawful laws).associative (Some c) (Some v) e)

module _ {V : Type 0} {tally : Ghosts V} (laws : Lawful tally.at_most tally.nil tally.join) where
  -- a list with some moves left out costs no more
  pub sublist_costs : {moves : List Move} {some l : List ℕ} {v : V} → Sublist some l → Costs tally moves l v
      → (w : V) × Costs tally moves some w × T (tally.at_most w v)
  sublist_costs empty nothing = (tally.nil, nothing, laws.least tally.nil)
  sublist_costs (keep sub) (and_move {m = m} {v = v} at rest) =
      let less = sublist_costs sub rest in
      (tally.join (charge_of tally m) less.0, and_move at less.1, join_mono_right laws (charge_of tally m) less.0 v less.2)
  sublist_costs (skip sub) (and_move {m = m} {v = v} at rest) =
      let less = sublist_costs sub rest in
      (less.0, less.1, laws.transitive less.0 v (tally.join (charge_of tally m) v) less.2 (up_right laws (charge_of tally m) v))

  module _ {d : Draft} {estimate : FactSet → Estimate V} {share : ℕ → V} (trusted : Trusted tally d estimate share) where
    -- the share of a move is at most its charge
    pub share_drawn : {k : ℕ} {m : Move} → At d.moves.now k m → T (tally.at_most (share k) (charge_of tally m))
    share_drawn {k} {m} at = elim (compare laws (share k) (charge_of tally m)) [ inl p ↦ p | inr e ↦ absurd (trusted.drawn (k, m, at, e)) ]

    -- if a move regresses s to u, the estimate of s is at most the move's charge joined with the estimate of u
    pub floor_step : {k : ℕ} {m : Move} {s u : FactSet} → At d.moves.now k m → Regresses m s u
        → NotAbove tally (estimate s) (joined_with tally (charge_of tally m) (estimate u))
    floor_step {k} {m} {s} {u} at r =
        (estimates_lawful laws).transitive (estimate s) (joined_with tally (share k) (estimate u)) (joined_with tally (charge_of tally m) (estimate u))
        (trusted.sound.step k m s u at r)
        (join_mono_left (estimates_lawful laws) (Some (share k)) (Some (charge_of tally m)) (estimate u) (share_drawn at))

    -- along a chain from s to u, the estimate of s is at most the chain's cost joined with the estimate of u
    pub floor_along : {s u : FactSet} {l : List ℕ} {v : V} → Chain d.moves.now s l u → Costs tally d.moves.now l v
        → NotAbove tally (estimate s) (joined_with tally v (estimate u))
    floor_along {s} Chain.none nothing =
        from_equal (estimates_lawful laws) (estimate s) (joined_with tally tally.nil (estimate s)) (sym (neutral_left (estimates_lawful laws) (estimate s)))
    floor_along {s} {u} (Chain.back {t = x} {m = m} chain at r) (and_move {m = n} {v = v} found rest) =
        let next = joined_with tally (charge_of tally m) (estimate u) in
        let far = (estimates_lawful laws).transitive (estimate s) (joined_with tally v (estimate x)) (joined_with tally v next) (floor_along chain rest)
        (join_mono_right (estimates_lawful laws) (Some v) (estimate x) next (floor_step at r)) in
        subst (λ y. NotAbove tally (estimate s) (joined_with tally (tally.join (charge_of tally y) v) (estimate u))) (at_same at found)
        (subst (NotAbove tally (estimate s)) (charge_first laws (charge_of tally m) v (estimate u)) far)

    -- no chain from a set to one within the start costs less than the set's estimate
    pub floor_within : {s u : FactSet} {l : List ℕ} {v : V} → Chain d.moves.now s l u → Within u d.start → Costs tally d.moves.now l v
        → NotAbove tally (estimate s) (Some v)
    floor_within {s} {u} {l} {v} chain w costs =
        subst (NotAbove tally (estimate s))
        (ap (joined_with tally v) (trusted.sound.within u w) ∙ neutral_right (estimates_lawful laws) (Some v))
        (floor_along chain costs)

  pub estimates_are_floors : EstimatesAreFloors tally
  estimates_are_floors d estimate share trusted = record {
    chains = λ s u l v chain w costs. floor_within trusted chain w costs;
    lists = λ faultless l v good costs.
        let some = good_lists_have_chains d faultless l good in
        let less = sublist_costs some.2 costs in
        (estimates_lawful laws).transitive (estimate d.goal) (Some less.0) (Some v)
        (floor_within trusted some.1.chain some.1.within less.1) less.2;
  }
