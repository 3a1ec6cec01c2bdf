-- The rules leave nothing open: from equal records a run has one outcome.
use Rattle.std.proofs.Common.{◌≡◌, ℕ, ◌<◌, ◌≤◌, List, [], ◌∷◌, ◌++◌, length, set as put, sym, refl, ap, ◌∙◌, subst, subst₂, arith}
use native.Mathlib.Decide.{ℕ_discrete, dec_lt}
use Rattle.facts.specs.Sets.{Within}
use Rattle.facts.specs.declared.sets.FactSet.{FactSet}
use Rattle.tasks.specs.Places.{At}
use Rattle.tasks.specs.declared.moves.Move.{Move}
use Rattle.tasks.proofs.Bearing.{regresses_same}
use Rattle.tasks.proofs.Places.{at_same, at_less}
use Rattle.costs.specs.declared.tally.Tally.{Ghosts}
use Rattle.theory.specs.Problem.{Problem, Lower}
use Rattle.theory.specs.Records.{goal_record, First, goal_waits, no_hope, Chosen, shutting}
use Rattle.theory.specs.Openings.{spent_by, child, LeadsTo, Recorded, Unrecorded, Takes, not_regressing, passed_over, bettered, no_better, shut_already, added}
use Rattle.theory.specs.Openings.{TakesFirst, none_yet, and_next, Opens, opens, Overflows, overflows}
use Rattle.theory.specs.Runs.{Trail, tell_plan, tell_full, tell_pending, one_more, Tells, tells_plan, tells_none, tells_full, Outside, Runs, again, runs_out, finds}
use Rattle.theory.specs.Runs.{pauses, fills, goes_on}
use Rattle.theory.specs.declared.record.Mark.TheVariants.{Waiting}
use Rattle.theory.specs.declared.record.Record.{Record}
use Rattle.theory.specs.declared.reply.End.{End}
use Rattle.theory.specs.declared.reply.End.TheVariants.{Going, Planned, Filled}
use Rattle.theory.specs.declared.reply.Reply.{Reply}
use Rattle.theory.proofs.Basics.{impossible, not_both, value_same, never_value}
use Rattle.theory.proofs.Order.{Laws, lower_not}
use Rattle.theory.proofs.Keys.{ahead_both}
use Rattle.theory.proofs.Paths.{Fitting}
use Rattle.theory.proofs.Table.{Table, Settled}
use Rattle.theory.proofs.Opening.{take_first, seen_shut, opened}
use Rattle.theory.proofs.Standing.{Standing, at_work}
use Rattle.theory.proofs.Told.{trail_same}

-- the sets of the records are pairwise distinct
pub record Distinct {V : Type 0} (recs : List (Record V)) : Type 0 where
  pub apart : {i j : ℕ} {r q : Record V} → At recs i r → At recs j q → r.set ≡ q.set → i ≡ j

-- two runs have the same outcome
pub record SameRun {V : Type 0} (r s : Reply V) (recs others : List (Record V)) (end stop : End) : Type 0 where
  pub replies : r ≡ s
  pub records : recs ≡ others
  pub ends : end ≡ stop

-- what one move does, in three cases
data Outcome {V : Type 0} {tally : Ghosts V} (P : Problem tally) (recs : List (Record V)) (i : ℕ) (c : Record V) (k : ℕ) (m : Move) (later : List (Record V)) : Type 0 where
  quiet : ((t : FactSet) (e : V) → LeadsTo P c m t e → (j : ℕ) × (q : Record V) × Recorded recs t j q
      × (q.mark ≡ Waiting → Lower tally (spent_by P c m) q.spent → ⊥))
      → later ≡ recs → Outcome P recs i c k m later
  better : {t : FactSet} {j : ℕ} {e : V} {q : Record V} → LeadsTo P c m t e → Recorded recs t j q → q.mark ≡ Waiting
      → Lower tally (spent_by P c m) q.spent → later ≡ put recs j (child P i c k m t e) → Outcome P recs i c k m later
  fresh : {t : FactSet} {e : V} → LeadsTo P c m t e → Unrecorded recs t → length recs < P.room → later ≡ recs ++ (child P i c k m t e ∷ [])
      → Outcome P recs i c k m later

module _ {V : Type 0} where
  moved : {recs : List (Record V)} {t u : FactSet} {j : ℕ} {q : Record V} → Recorded recs t j q → t ≡ u → Recorded recs u j q
  moved r e = record { at = r.at; same = r.same ∙ e }

  found_same : {recs : List (Record V)} {t : FactSet} {i j : ℕ} {r q : Record V} → Distinct recs → Recorded recs t i r → Recorded recs t j q → (i ≡ j) × (r ≡ q)
  found_same {recs} {r = r} d a b =
      let e = d.apart a.at b.at (a.same ∙ sym b.same) in
      (e, at_same (subst (λ x. At recs x r) e a.at) b.at)

module _ {V : Type 0} {tally : Ghosts V} {P : Problem tally} where
  set_same : {c : Record V} {m : Move} {t u : FactSet} {d e : V} → LeadsTo P c m t d → LeadsTo P c m u e → t ≡ u
  set_same a b = regresses_same a.regresses b.regresses

  hope_same : {c : Record V} {m : Move} {t u : FactSet} {d e : V} → LeadsTo P c m t d → LeadsTo P c m u e → d ≡ e
  hope_same a b = value_same (sym a.hoped ∙ ap (λ x. P.bound.estimate x) (set_same a b) ∙ b.hoped)

  pub first_same : {recs others : List (Record V)} → First P recs → First P others → recs ≡ others
  first_same (goal_waits h) (goal_waits g) = ap (λ e. goal_record P e ∷ []) (value_same (sym h ∙ g))
  first_same (goal_waits h) (no_hope g) = impossible (cc)
  first_same (no_hope h) (goal_waits g) = impossible (cc)
  first_same (no_hope h) (no_hope g) = refl

  pub tells_same : {recs : List (Record V)} {end : End} {r s : Reply V} → Tells P recs end r → Tells P recs end s → r ≡ s
  tells_same (tells_plan {c = c} {l = l} a t) (tells_plan {c = d} {l = k} b u) =
      ap (λ x. tell_plan x (length l)) (at_same a b) ∙ ap (λ x. tell_plan d (length x)) (trail_same t u)
  tells_same tells_none tells_none = refl
  tells_same (tells_full a) (tells_full b) = ap tell_full (at_same a b)

module _ {V : Type 0} {tally : Ghosts V} {P : Problem tally} (F : Fitting P) where
  abbrev laws : Laws tally
  laws = F.laws

  outcome : {recs : List (Record V)} {i : ℕ} {c : Record V} {k : ℕ} {m : Move} {later : List (Record V)} → Takes P recs i c k m later
      → Outcome P recs i c k m later
  outcome (not_regressing n) = quiet (λ t e lead. absurd (n t lead.regresses)) refl
  outcome {c = c} (passed_over g never) = quiet (λ t e lead. absurd (never_value (sym never
      ∙ ap (λ x. P.bound.estimate x) (regresses_same g lead.regresses) ∙ lead.hoped))) refl
  outcome (bettered lead r w h) = better lead r w h refl
  outcome {c = c} {m = m} (no_better {j = j} {q = q} lead r w h) = quiet (λ t e lead'. (
    j,
    q,
    moved r (set_same lead lead'),
    λ w' h'. lower_not laws (spent_by P c m) q.spent h' (record { holds = h }),
  )) refl
  outcome {c = c} (shut_already {j = j} {q = q} lead r s) = quiet (λ t e lead'.
      (j, q, moved r (set_same lead lead'), λ w' h'. not_both s w')) refl
  outcome (added lead none room) = fresh lead none room refl

  overtaken : (v : V) {recs : List (Record V)} {t : FactSet} {i : ℕ} {r : Record V} → Distinct recs
      → (j : ℕ) × (q : Record V) × Recorded recs t j q × (q.mark ≡ Waiting → Lower tally v q.spent → ⊥)
      → Recorded recs t i r → r.mark ≡ Waiting → Lower tally v r.spent → ⊥
  overtaken v d x r w h =
      let same = (found_same d r x.2).1 in
      x.3 (subst (λ y. y.mark ≡ Waiting) same w) (subst (λ y. Lower tally v y.spent) same h)

  outcome_same : {recs : List (Record V)} {i : ℕ} {c : Record V} {k : ℕ} {m : Move} {a b : List (Record V)} → Distinct recs
      → Outcome P recs i c k m a → Outcome P recs i c k m b → a ≡ b
  outcome_same d (quiet f e) (quiet g e') = e ∙ sym e'
  outcome_same {c = c} {m = m} d (quiet f e) (better {t = t} {e = x} lead r w h e') = absurd (overtaken (spent_by P c m) d (f t x lead) r w h)
  outcome_same d (quiet f e) (fresh {t = t} {e = x} lead none room e') = let y = f t x lead in absurd (none y.0 y.1 y.2)
  outcome_same {c = c} {m = m} d (better {t = t} {e = x} lead r w h e') (quiet f e) = absurd (overtaken (spent_by P c m) d (f t x lead) r w h)
  outcome_same {recs} {i} {c} {k} {m} d (better {t = t} {j = j} {e = x} lead r w h e) (better {t = u} {j = j'} {e = y} lead' r' w' h' e') =
      e ∙ ap (λ z. put recs z (child P i c k m t x)) (found_same d (moved r (set_same lead lead')) r').0
      ∙ ap (λ z. put recs j' (child P i c k m z x)) (set_same lead lead') ∙ ap (λ z. put recs j' (child P i c k m u z)) (hope_same lead lead') ∙ sym e'
  outcome_same d (better {j = j} {q = q} lead r w h e) (fresh lead' none room e') = absurd (none j q (moved r (set_same lead lead')))
  outcome_same d (fresh {t = t} {e = x} lead none room e') (quiet f e) = let y = f t x lead in absurd (none y.0 y.1 y.2)
  outcome_same d (fresh lead' none room e') (better {j = j} {q = q} lead r w h e) = absurd (none j q (moved r (set_same lead lead')))
  outcome_same {recs} {i} {c} {k} {m} d (fresh {t = t} {e = x} lead none room e) (fresh {t = u} {e = y} lead' none' room' e') =
      e ∙ ap (λ z. recs ++ (child P i c k m z x ∷ [])) (set_same lead lead') ∙ ap (λ z. recs ++ (child P i c k m u z ∷ [])) (hope_same lead lead') ∙ sym e'

  -- a move that finds no room is not taken
  no_room : {recs : List (Record V)} {i : ℕ} {c : Record V} {k : ℕ} {m : Move} {later : List (Record V)} {t : FactSet} {e : V} → LeadsTo P c m t e
      → Unrecorded recs t → P.room ≤ length recs → Outcome P recs i c k m later → ⊥
  no_room {t = t} {e = e} lead none room (quiet f s) = let x = f t e lead in none x.0 x.1 x.2
  no_room lead none room (better {j = j} {q = q} lead' r w h s) = none j q (moved r (set_same lead' lead))
  no_room lead none room (fresh lead' none' room' s) = omega arith

  -- the choice is one
  pub chosen_same : {recs : List (Record V)} {i j : ℕ} {c d : Record V} → Chosen tally recs i c → Chosen tally recs j d → (i ≡ j) × (c ≡ d)
  chosen_same {recs} {i} {j} {c} {d} a b =
      let e = ahead_both laws (a.least j d b.at b.waits) (b.least i c a.at a.waits) in
      (e, at_same (subst (λ x. At recs x c) e a.at) b.at)

  -- an opening from records that stand as they should
  module _ {recs : List (Record V)} {i : ℕ} {c : Record V} (table : Table P recs) (settled : Settled P recs) (chosen : Chosen tally recs i c)
      (out : Outside P c) where
    mid_distinct : {k : ℕ} {mid : List (Record V)} → TakesFirst P recs i c k mid → Distinct mid
    mid_distinct before =
        let so_far = take_first F table settled chosen out before in
        record {
          apart = λ a b s.
              (let x = seen_shut F so_far.0 a in
              let y = seen_shut F so_far.0 b in
              so_far.1.table.distinct x.1 y.1 (x.2 ∙ s ∙ sym y.2));
        }

    takes_same : {k : ℕ} {mid more : List (Record V)} → TakesFirst P recs i c k mid → TakesFirst P recs i c k more → mid ≡ more
    takes_same none_yet none_yet = refl
    takes_same (and_next {k = k} {m = m} {later = a} before mv step) (and_next {m = n} {later = b} before' mv' step') =
        outcome_same (mid_distinct before) (outcome step)
        (subst₂ (λ x y. Outcome P x i c k y b) (sym (takes_same before before')) (at_same mv' mv) (outcome step'))

    -- who took n moves took each before them
    taken : {n : ℕ} {later : List (Record V)} → TakesFirst P recs i c n later → {k : ℕ} → k < n
        → (mid : List (Record V)) × (m : Move) × (next : List (Record V)) × TakesFirst P recs i c k mid × At P.draft.moves.now k m × Takes P mid i c k m next
    taken none_yet h = absurd (omega arith)
    taken (and_next {k = n} {m = m} {mid = mid} {later = later} before mv step) {k} h = elim (ℕ_discrete n k) [
      | yes e ↦ (
        mid,
        m,
        later,
        subst (λ x. TakesFirst P recs i c x mid) e before,
        subst (λ x. At P.draft.moves.now x m) e mv,
        subst (λ x. Takes P mid i c x m later) e step,
      )
      | no ne ↦ taken before (omega (arith, ne))
    ]

    -- a move that found no room was not among those taken
    not_past : {k n : ℕ} {t : FactSet} {m : Move} {e : V} {mid later : List (Record V)} → TakesFirst P recs i c k mid → At P.draft.moves.now k m
        → LeadsTo P c m t e
        → Unrecorded mid t → P.room ≤ length mid → TakesFirst P recs i c n later → k < n → ⊥
    not_past {k} {n} {t} {m} {e} {mid} before mv lead none room all h =
        let x = taken all h in
        no_room lead none room (subst₂ (λ y z. Outcome P y i c k z x.2) (takes_same x.3 before) (at_same x.4 mv) (outcome x.5))

    opens_same : {a b : List (Record V)} → Opens P recs i c a → Opens P recs i c b → a ≡ b
    opens_same (opens {mid = mid} {q = q} all at) (opens {mid = more} {q = r} all' at') =
        let e = takes_same all all' in
        ap (λ x. put x i (shutting q)) e ∙ ap (λ x. put more i (shutting x)) (at_same (subst (λ x. At x i q) e at) at')

    overflows_same : {a b : List (Record V)} → Overflows P recs i c a → Overflows P recs i c b → a ≡ b
    overflows_same (overflows {k = k} {mid = mid} before mv lead none room) (overflows {k = n} {mid = more} before' mv' lead' none' room') =
        elim (ℕ_discrete k n) [
          | yes e ↦ takes_same (subst (λ x. TakesFirst P recs i c x mid) e before) before'
          | no ne ↦ elim (dec_lt k n) [
            | yes h ↦ absurd (not_past before mv lead none room before' h)
            | no nh ↦ absurd (not_past before' mv' lead' none' room' before (omega (arith, ne, nh)))
          ]
        ]

    not_both_ways : {a b : List (Record V)} → Overflows P recs i c a → Opens P recs i c b → ⊥
    not_both_ways (overflows before mv lead none room) (opens all at) = not_past before mv lead none room all (at_less mv)

  -- two choices lie within the start or not alike
  there : {recs : List (Record V)} {i j : ℕ} {c d : Record V} → Chosen tally recs i c → Chosen tally recs j d → Within c.set P.draft.start
      → Within d.set P.draft.start
  there a b w = subst (λ x. Within x.set P.draft.start) (chosen_same a b).1 w

  pub runs_same : {n : ℕ} {recs : List (Record V)} {end : End} {r s : Reply V} {a b : List (Record V)} {e f : End} → Standing P recs end
      → Runs P n recs end r a e → Runs P n recs end s b f → SameRun r s a b e f
  runs_same st (again t) (again u) = record { replies = tells_same t u; records = refl; ends = refl }
  runs_same st (again t) (runs_out none) = elim t [ ]
  runs_same st (again t) (finds ch w u) = elim t [ ]
  runs_same st (again t) (pauses ch w) = elim t [ ]
  runs_same st (again t) (fills ch w o) = elim t [ ]
  runs_same st (again t) (goes_on ch w o rest) = elim t [ ]
  runs_same st (runs_out none) (again u) = elim u [ ]
  runs_same st (runs_out none) (runs_out none') = record { replies = refl; records = refl; ends = refl }
  runs_same st (runs_out none) (finds {i = i} {c = c} ch w u) = absurd (none i c ch.at ch.waits)
  runs_same st (runs_out none) (pauses {i = i} {c = c} ch w) = absurd (none i c ch.at ch.waits)
  runs_same st (runs_out none) (fills {i = i} {c = c} ch w o) = absurd (none i c ch.at ch.waits)
  runs_same st (runs_out none) (goes_on {i = i} {c = c} ch w o rest) = absurd (none i c ch.at ch.waits)
  runs_same st (finds ch w t) (again u) = elim u [ ]
  runs_same st (finds {i = i} {c = c} ch w t) (runs_out none) = absurd (none i c ch.at ch.waits)
  runs_same {recs = recs} st (finds {c = c} {l = l} ch w t) (finds {c = d} {l = k} ch' w' u) =
      let same = chosen_same ch ch' in
      let e : l ≡ k = trail_same t (subst (λ x. Trail recs x k) (sym same.0) u) in
      record { replies = ap (λ x. tell_plan x (length l)) same.1 ∙ ap (λ x. tell_plan d (length x)) e; records = refl; ends = ap Planned same.0 }
  runs_same st (finds ch w t) (pauses ch' w') = absurd (w' (there ch ch' w))
  runs_same st (finds ch w t) (fills ch' w' o) = absurd (w' (there ch ch' w))
  runs_same st (finds ch w t) (goes_on ch' w' o rest) = absurd (w' (there ch ch' w))
  runs_same st (pauses ch w) (again u) = elim u [ ]
  runs_same st (pauses {i = i} {c = c} ch w) (runs_out none) = absurd (none i c ch.at ch.waits)
  runs_same st (pauses ch w) (finds ch' w' u) = absurd (w (there ch' ch w'))
  runs_same st (pauses ch w) (pauses ch' w') = record { replies = ap tell_pending (chosen_same ch ch').1; records = refl; ends = refl }
  runs_same st (fills ch w o) (again u) = elim u [ ]
  runs_same st (fills {i = i} {c = c} ch w o) (runs_out none) = absurd (none i c ch.at ch.waits)
  runs_same st (fills ch w o) (finds ch' w' u) = absurd (w (there ch' ch w'))
  runs_same {recs = recs} (at_work table settled) (fills {i = i} {c = c} {mid = mid} ch w o) (fills {mid = more} ch' w' o') =
      let same = chosen_same ch' ch in
      let e = overflows_same table settled ch w o (subst₂ (λ x y. Overflows P recs x y more) same.0 same.1 o') in
      record { replies = ap tell_full (sym same.1); records = e; ends = ap Filled (sym same.0) }
  runs_same {recs = recs} (at_work table settled) (fills ch w o) (goes_on {mid = mid} ch' w' o' rest) =
      let same = chosen_same ch' ch in
      absurd (not_both_ways table settled ch w o (subst₂ (λ x y. Opens P recs x y mid) same.0 same.1 o'))
  runs_same st (goes_on ch w o rest) (again u) = elim u [ ]
  runs_same st (goes_on {i = i} {c = c} ch w o rest) (runs_out none) = absurd (none i c ch.at ch.waits)
  runs_same st (goes_on ch w o rest) (finds ch' w' u) = absurd (w (there ch' ch w'))
  runs_same {recs = recs} (at_work table settled) (goes_on {mid = mid} ch w o rest) (fills ch' w' o') =
      let same = chosen_same ch ch' in
      absurd (not_both_ways table settled ch' w' o' (subst₂ (λ x y. Opens P recs x y mid) same.0 same.1 o))
  runs_same {recs = recs} {b = b} {f = f} (at_work table settled) (goes_on {n = n} {mid = mid} ch w o rest) (goes_on {mid = more} {r = s} ch' w' o' rest') =
      let same = chosen_same ch' ch in
      let e = opens_same table settled ch w (subst₂ (λ x y. Opens P recs x y more) same.0 same.1 o') o in
      let next = opened F table settled ch w o in
      let h = runs_same (at_work next.0 next.1) rest (subst (λ x. Runs P n x Going s b f) e rest') in
      record { replies = ap one_more h.replies; records = h.records; ends = h.ends }
