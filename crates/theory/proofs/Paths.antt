-- Chains of regressions with their costs, and why no estimate promises too much.
use Rattle.std.proofs.Common.{◌≡◌, ℕ, ◌≤◌, Bool, T, List, [], ◌∷◌, refl, subst, None, Some}
use Rattle.facts.specs.Sets.{Within}
use Rattle.facts.specs.declared.sets.FactSet.{FactSet}
use Rattle.tasks.specs.Faults.{Faultless}
use Rattle.tasks.specs.Lists.{Carried, GoodIn, Chain}
use Rattle.tasks.specs.Moves.{Regresses}
use Rattle.tasks.specs.Places.{At}
use Rattle.tasks.specs.declared.moves.Move.{Move}
use Rattle.tasks.proofs.Chains.{chains_are_good_lists, good_lists_have_chains}
use Rattle.tasks.proofs.Places.{at_same}
use Rattle.costs.specs.Estimates.{not_above, join_each}
use Rattle.costs.specs.Lists.{charge_of, Costs, nothing, and_move}
use Rattle.costs.specs.Estimates.{Estimate}
use Rattle.costs.specs.declared.tally.Tally.{Ghosts}
use Rattle.bounds.specs.Sound.{Trusted}
use Rattle.bounds.proofs.Floors.{sublist_costs, floor_step, floor_along}
use Rattle.theory.specs.Problem.{Problem}
use Rattle.theory.proofs.Basics.{impossible}
use Rattle.theory.proofs.Order.{Laws, Le}

-- what the proofs suppose of a search that was made
pub record Fitting {V : Type 0} {tally : Ghosts V} (P : Problem tally) : Type 0 where
  pub roomy : 1 ≤ P.room
  pub laws : Laws tally
  pub faultless : Faultless P.draft
  pub trusted : Trusted tally P.draft P.bound.estimate P.bound.share

-- a chain together with the cost of its list
pub data Leads {V : Type 0} {tally : Ghosts V} (P : Problem tally) (s : FactSet) : List ℕ → FactSet → V → Type 0 where
  stay : Leads P s [] s tally.nil
  back : {k : ℕ} {t u : FactSet} {m : Move} {l : List ℕ} {v : V} → Leads P s l t v → At P.draft.moves.now k m → Regresses m t u
      → Leads P s (k ∷ l) u (tally.join (charge_of tally m) v)

module _ {V : Type 0} {tally : Ghosts V} {P : Problem tally} where
  leads_chain : {s u : FactSet} {l : List ℕ} {v : V} → Leads P s l u v → Chain P.draft.moves.now s l u
  leads_chain stay = Chain.none
  leads_chain (back p at r) = Chain.back (leads_chain p) at r

  pub leads_costs : {s u : FactSet} {l : List ℕ} {v : V} → Leads P s l u v → Costs tally P.draft.moves.now l v
  leads_costs stay = nothing
  leads_costs (back p at r) = and_move at (leads_costs p)

  pub leads_good : {u : FactSet} {l : List ℕ} {v : V} → Leads P P.draft.goal l u v → Within u P.draft.start → GoodIn P.draft l
  leads_good {u = u} {l = l} p w = chains_are_good_lists P.draft l (record { last = u; chain = leads_chain p; within = w })

  chain_leads : {s u : FactSet} {l : List ℕ} {v : V} → Chain P.draft.moves.now s l u → Costs tally P.draft.moves.now l v → Leads P s l u v
  chain_leads Chain.none nothing = stay
  chain_leads {s = s} (Chain.back {u = u} {k = k} {l = l} c at r) (and_move {v = v} at' costs) =
      subst (λ m. Leads P s (k ∷ l) u (tally.join (charge_of tally m) v)) (at_same at at') (back (chain_leads c costs) at r)

-- every list that can be carried out has a cost
pub carried_costs : {V : Type 0} (tally : Ghosts V) {moves : List Move} {s t : FactSet} {l : List ℕ} → Carried moves s l t
    → (v : V) × Costs tally moves l v
carried_costs tally Carried.none = (tally.nil, nothing)
carried_costs tally (Carried.first step rest) =
    let c = carried_costs tally rest in (tally.join (charge_of tally step.0) c.0, and_move step.1 c.1)

-- a chain from the goal to a set within the start, at no more than the cost v
pub record Way {V : Type 0} {tally : Ghosts V} (P : Problem tally) (v : V) : Type 0 where
  pub moves : List ℕ
  pub last : FactSet
  pub cost : V
  pub leads : Leads P P.draft.goal moves last cost
  pub within : Within last P.draft.start
  pub cheap : Le tally cost v

value_below : {V : Type 0} (at_most : V → V → Bool) (join : V → V → V) (w : V) (o p : Estimate V) (e : V)
    → T (not_above at_most o (join_each join (Some w) p)) → p ≡ Some e → (d : V) × (o ≡ Some d) × T (at_most d (join w e))
value_below at_most join w o None e h eq = impossible (cc)
value_below at_most join w None (Some f) e h eq = absurd h
value_below at_most join w (Some d) (Some f) e h eq =
    let same : f ≡ e = cc in (d, refl, subst (λ z. T (at_most d (join w z))) same h)

module _ {V : Type 0} {tally : Ghosts V} {P : Problem tally} (F : Fitting P) where
  abbrev laws : Laws tally
  laws = F.laws

  -- what a list carries out, regression can follow, skipping the moves that make nothing of the set
  pub good_way : {l : List ℕ} {v : V} → GoodIn P.draft l → Costs tally P.draft.moves.now l v → Way P v
  good_way {l = l} good costs =
      let found = good_lists_have_chains P.draft F.faultless l good in
      let less = sublist_costs laws.lawful found.2 costs in
      record {
        moves = found.0;
        last = found.1.last;
        cost = less.0;
        leads = chain_leads found.1.chain less.1;
        within = found.1.within;
        cheap = record { holds = less.2 };
      }

  -- where the estimate of t is a value, so is that of s, at most the charge more
  pub consistent : {k : ℕ} {m : Move} {s t : FactSet} → At P.draft.moves.now k m → Regresses m s t → {e : V} → P.bound.estimate t ≡ Some e
      → (d : V) × (P.bound.estimate s ≡ Some d) × Le tally d (tally.join (charge_of tally m) e)
  consistent {m = m} {s = s} {t = t} at r {e} h =
      let got = value_below tally.at_most tally.join (charge_of tally m) (P.bound.estimate s) (P.bound.estimate t) e
      (floor_step laws.lawful F.trusted at r) h in
      (got.0, got.1, record { holds = got.2 })

  -- the estimate of s is at most the cost of a chain joined with the estimate where it ends
  pub admissible : {s u : FactSet} {l : List ℕ} {w : V} → Leads P s l u w → {e : V} → P.bound.estimate u ≡ Some e
      → (d : V) × (P.bound.estimate s ≡ Some d) × Le tally d (tally.join w e)
  admissible {s} {u} {w = w} p {e} h =
      let got = value_below tally.at_most tally.join w (P.bound.estimate s) (P.bound.estimate u) e
      (floor_along laws.lawful F.trusted (leads_chain p) (leads_costs p)) h in
      (got.0, got.1, record { holds = got.2 })
