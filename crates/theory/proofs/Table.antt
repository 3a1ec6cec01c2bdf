-- What holds of the records between openings, and why it makes the first promise a floor.
use Rattle.std.proofs.Common.{◌≡◌, ℕ, zero, ◌≤◌, List, [], ◌∷◌, length, sym, ap, ◌∙◌, subst, inl, inr, None, Some}
use Rattle.facts.specs.Sets.{Within}
use Rattle.facts.specs.declared.sets.FactSet.{FactSet}
use Rattle.tasks.specs.Lists.{GoodIn}
use Rattle.tasks.specs.Moves.{Regresses}
use Rattle.tasks.specs.Places.{At}
use Rattle.tasks.specs.declared.moves.Move.{Move}
use Rattle.costs.specs.Lists.{charge_of, Costs}
use Rattle.costs.specs.declared.tally.Tally.{Ghosts}
use Rattle.costs.proofs.Orders as orders
use Rattle.theory.specs.Problem.{Problem}
use Rattle.theory.specs.Meets.{Meets}
use Rattle.theory.specs.Records.{Chosen}
use Rattle.theory.specs.Runs.{Trail, root, up}
use Rattle.theory.specs.declared.record.Mark.TheVariants.{Waiting, Shut}
use Rattle.theory.specs.declared.record.Record.{Record}
use Rattle.theory.proofs.Basics.{impossible, which, value_same, hoped_or_not}
use Rattle.theory.proofs.Order.{Laws, Le, le_trans, le_of, mono_r}
use Rattle.theory.proofs.Keys.{Key, key_promise, ahead_key}
use Rattle.theory.proofs.Paths.{Fitting, Leads, stay, back, Way, good_way, consistent, admissible}

-- record i is r, and the list l leads from it to record 0; each record after r is shut
pub data Rooted {V : Type 0} {tally : Ghosts V} (P : Problem tally) (recs : List (Record V)) : ℕ → Record V → List ℕ → Type 0 where
  top : {r : Record V} → At recs zero r → r.set ≡ P.draft.goal → r.spent ≡ tally.nil → Rooted P recs zero r []
  under : {i : ℕ} {m : Move} {r p : Record V} {l : List ℕ} → (i ≡ zero → ⊥) → At recs i r → At P.draft.moves.now r.via m
      → Regresses m p.set r.set → r.spent ≡ tally.join p.spent (charge_of tally m) → p.mark ≡ Shut → Rooted P recs r.parent p l
      → Rooted P recs i r (r.via ∷ l)

pub record Estimated {V : Type 0} {tally : Ghosts V} (P : Problem tally) (r : Record V) : Type 0 where
  pub hope : V
  pub is : P.bound.estimate r.set ≡ Some hope
  pub promised : r.promise ≡ tally.join r.spent hope

pub record Table {V : Type 0} {tally : Ghosts V} (P : Problem tally) (recs : List (Record V)) : Type 0 where
  pub estimated : {i : ℕ} {r : Record V} → At recs i r → Estimated P r
  pub ordered : {i j : ℕ} {r q : Record V} → At recs i r → At recs j q → r.mark ≡ Shut → q.mark ≡ Waiting → Key tally r q
  pub goal_first : {e : V} → P.bound.estimate P.draft.goal ≡ Some e
      → (r : Record V) × At recs zero r × (r.set ≡ P.draft.goal) × (r.spent ≡ tally.nil)
  pub distinct : {i j : ℕ} {r q : Record V} → At recs i r → At recs j q → r.set ≡ q.set → i ≡ j
  pub outside : {i : ℕ} {r : Record V} → At recs i r → r.mark ≡ Shut → Within r.set P.draft.start → ⊥
  pub rooted : {i : ℕ} {r : Record V} → At recs i r → (l : List ℕ) × Rooted P recs i r l
  pub fits : length recs ≤ P.room

-- the set t has a record, with no more than v spent
pub record Kept {V : Type 0} {tally : Ghosts V} (P : Problem tally) (recs : List (Record V)) (t : FactSet) (v : V) : Type 0 where
  pub number : ℕ
  pub rec : Record V
  pub at : At recs number rec
  pub same : rec.set ≡ t
  pub cheap : Le tally rec.spent v

-- what move k makes of the record r has been recorded
pub record Covered {V : Type 0} {tally : Ghosts V} (P : Problem tally) (recs : List (Record V)) (r : Record V) (k : ℕ) : Type 0 where
  pub keeps : {m : Move} {t : FactSet} {e : V} → At P.draft.moves.now k m → Regresses m r.set t → P.bound.estimate t ≡ Some e
      → Kept P recs t (tally.join r.spent (charge_of tally m))

pub record Settled {V : Type 0} {tally : Ghosts V} (P : Problem tally) (recs : List (Record V)) : Type 0 where
  pub covered : {i : ℕ} {r : Record V} → At recs i r → r.mark ≡ Shut → (k : ℕ) → Covered P recs r k

-- where a path from the goal to u, at the cost v, leaves the shut records
pub data Front {V : Type 0} {tally : Ghosts V} (P : Problem tally) (recs : List (Record V)) (u : FactSet) (v : V) : Type 0 where
  passed : {i : ℕ} {r : Record V} → At recs i r → r.mark ≡ Shut → r.set ≡ u → Le tally r.spent v → Front P recs u v
  waits : {i : ℕ} {q : Record V} {l : List ℕ} {w : V} → At recs i q → q.mark ≡ Waiting → Leads P q.set l u w
      → Le tally (tally.join q.spent w) v → Front P recs u v
  hopeless : P.bound.estimate u ≡ None → Front P recs u v

module _ {V : Type 0} {tally : Ghosts V} {P : Problem tally} where
  pub rooted_at : {recs : List (Record V)} {i : ℕ} {r : Record V} {l : List ℕ} → Rooted P recs i r l → At recs i r
  rooted_at (top a s n) = a
  rooted_at (under z a m g s h p) = a

  pub rooted_trail : {recs : List (Record V)} {i : ℕ} {r : Record V} {l : List ℕ} → Rooted P recs i r l → Trail recs i l
  rooted_trail (top a s n) = root
  rooted_trail (under z a m g s h p) = up z a (rooted_trail p)

  pub rooted_met : {recs : List (Record V)} {i : ℕ} {r : Record V} {l : List ℕ} → Rooted P recs i r l → Meets P.draft r.set
  rooted_met (top a s n) = subst (λ x. Meets P.draft x) (sym s) Meets.goal
  rooted_met (under z a m g s h p) = Meets.back (rooted_met p) m g

module _ {V : Type 0} {tally : Ghosts V} {P : Problem tally} (F : Fitting P) where
  abbrev laws : Laws tally
  laws = F.laws

  pub rooted_leads : {recs : List (Record V)} {i : ℕ} {r : Record V} {l : List ℕ} → Rooted P recs i r l → Leads P P.draft.goal l r.set r.spent
  rooted_leads {r = r} (top a s n) = subst (λ x. Leads P P.draft.goal [] x r.spent) (sym s) (subst (λ x. Leads P P.draft.goal [] P.draft.goal x) (sym n) stay)
  rooted_leads (under {m = m} {r = r} {p = p} {l = l} z a at g s h up-there) =
      subst (λ x. Leads P P.draft.goal (r.via ∷ l) r.set x) (laws.lawful.commutative (charge_of tally m) p.spent ∙ sym s) (back (rooted_leads up-there) at g)

  module _ {recs : List (Record V)} (table : Table P recs) (settled : Settled P recs) where
    -- a record of u is on the path's front
    recorded : {i : ℕ} {r : Record V} {u : FactSet} {v : V} → At recs i r → r.set ≡ u → Le tally r.spent v → Front P recs u v
    recorded {r = r} {u = u} at s h = elim (which r.mark) [
      | inl b ↦ passed at b s h
      | inr b ↦ waits at b (subst (λ x. Leads P r.set [] x tally.nil) s stay) (le_trans laws (le_of laws (orders.neutral_right laws.lawful r.spent)) h)
    ]

    pub frontier : {l : List ℕ} {u : FactSet} {v : V} → Leads P P.draft.goal l u v → Front P recs u v
    frontier stay = elim (hoped_or_not (P.bound.estimate P.draft.goal)) [
      | inl e ↦ hopeless e
      | inr e ↦ (let g = table.goal_first e.1 in recorded g.1 g.2 (le_of laws g.3))
    ]
    frontier (back {k = k} {t = t} {u = u} {m = m} {v = v} p at r) = onward (frontier p)
      where
        onward : Front P recs t v → Front P recs u (tally.join (charge_of tally m) v)
        onward (hopeless none) = elim (hoped_or_not (P.bound.estimate u)) [
          | inl e ↦ hopeless e
          | inr e ↦ (let one = consistent F at r e.1 in let a = one.1 in impossible (cc))
        ]
        onward (waits {q = q} {w = w} a b path h) = waits a b (back path at r)
            (le_trans laws (le_of laws (orders.swap_in laws.lawful q.spent (charge_of tally m) w)) (mono_r laws (charge_of tally m) h))
        onward (passed {r = s} a b same h) = elim (hoped_or_not (P.bound.estimate u)) [
          | inl e ↦ hopeless e
          | inr e ↦ (let kept = (settled.covered a b k).keeps at (subst (λ x. Regresses m x u) (sym same) r) e.1 in
              recorded kept.at kept.same
              (le_trans laws kept.cheap (le_trans laws (le_of laws (laws.lawful.commutative s.spent (charge_of tally m))) (mono_r laws (charge_of tally m) h))))
        ]

    -- every good list has a waiting record that promises no more than it costs
    pub waiting_below : {l : List ℕ} {v : V} → GoodIn P.draft l → Costs tally P.draft.moves.now l v
        → (i : ℕ) × (q : Record V) × At recs i q × (q.mark ≡ Waiting) × Le tally q.promise v
    waiting_below {v = v} good costs = found (frontier way.leads)
      where
        way : Way P v
        way = good_way F good costs

        there : P.bound.estimate way.last ≡ Some tally.nil
        there = F.trusted.sound.within way.last way.within

        found : Front P recs way.last way.cost → (i : ℕ) × (q : Record V) × At recs i q × (q.mark ≡ Waiting) × Le tally q.promise v
        found (passed a b s h) = absurd (table.outside a b (subst (λ x. Within x P.draft.start) (sym s) way.within))
        found (hopeless e) = impossible (cc there)
        found (waits {i = i} {q = q} {w = w} a b path h) =
            let few = admissible F path there in
            let est = table.estimated a in
            let same : few.0 ≡ est.hope = value_same (sym few.1 ∙ est.is) in (
              i,
              q,
              a,
              b,
              le_trans laws (le_of laws est.promised)
                  (le_trans laws (le_of laws (ap (λ x. tally.join q.spent x) (sym same)))
                  (le_trans laws (mono_r laws q.spent few.2)
                  (le_trans laws (le_of laws (ap (λ x. tally.join q.spent x) (orders.neutral_right laws.lawful w))) (le_trans laws h way.cheap)))),
            )

    pub choice_below : {i : ℕ} {c : Record V} → Chosen tally recs i c → {l : List ℕ} {v : V} → GoodIn P.draft l → Costs tally P.draft.moves.now l v
        → Le tally c.promise v
    choice_below chosen good costs =
        let w = waiting_below good costs in
        le_trans laws (key_promise laws (ahead_key laws (chosen.least w.0 w.1 w.2 w.3))) w.4
