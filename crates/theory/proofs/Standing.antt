-- How a search stands after any number of openings: what its end is worth.
use Rattle.std.proofs.Common.{◌≡◌, ℕ, zero, suc, ◌≤◌, List, [], ◌∷◌, map, length, set as put, sym, refl, ap, ◌∙◌, subst, arith, Some}
use lib.ListN.{length-map}
use Rattle.facts.specs.Sets.{Within}
use Rattle.facts.specs.declared.sets.FactSet.{FactSet}
use Rattle.tasks.specs.Lists.{GoodIn}
use Rattle.tasks.specs.Places.{At, here, there}
use Rattle.tasks.specs.declared.moves.Move.{Move}
use Rattle.costs.specs.Lists.{Costs}
use Rattle.costs.specs.declared.tally.Tally.{Ghosts}
use Rattle.theory.specs.Problem.{Problem}
use Rattle.theory.specs.Meets.{Meets, MeetsMoreIn}
use Rattle.theory.specs.Records.{First, goal_waits, no_hope, Chosen, shutting}
use Rattle.theory.specs.Openings.{LeadsTo, Unrecorded, Overflows, overflows}
use Rattle.theory.specs.Runs.{Outside, Runs, again, runs_out, finds, pauses, fills, goes_on}
use Rattle.theory.specs.declared.record.Mark.TheVariants.{Waiting}
use Rattle.theory.specs.declared.record.Record.{Record}
use Rattle.theory.specs.declared.reply.End.{End}
use Rattle.theory.specs.declared.reply.End.TheVariants.{Going, Planned, Exhausted, Filled}
use Rattle.theory.specs.declared.reply.Reply.{Reply}
use Rattle.theory.proofs.Basics.{impossible, not_both}
use Rattle.theory.proofs.Places.{Put, new, old, add_cases}
use Rattle.theory.proofs.Order.{Laws, Le, le_trans, le_of, up_l}
use Rattle.theory.proofs.Paths.{Fitting, carried_costs}
use Rattle.theory.proofs.Table.{Rooted, Estimated, Table, Settled, rooted_met, waiting_below, choice_below, top}
use Rattle.theory.proofs.Opening.{Opening, take_first, seen_shut, opened}

-- no good list costs less than x
pub record FloorAt {V : Type 0} {tally : Ghosts V} (P : Problem tally) (x : V) : Type 0 where
  pub below : {l : List ℕ} {v : V} → GoodIn P.draft l → Costs tally P.draft.moves.now l v → Le tally x v

pub data Standing {V : Type 0} {tally : Ghosts V} (P : Problem tally) (recs : List (Record V)) : End → Type 0 where
  at_work : Table P recs → Settled P recs → Standing P recs Going
  found_plan : {i : ℕ} {c : Record V} {l : List ℕ} → Rooted P recs i c l → Within c.set P.draft.start → FloorAt P c.spent
      → Standing P recs (Planned i)
  gave_up : ((l : List ℕ) → GoodIn P.draft l → ⊥) → Standing P recs Exhausted
  overfull : {i : ℕ} {c : Record V} → At recs i c → FloorAt P c.promise → MeetsMoreIn P.draft P.room → Standing P recs (Filled i)

map_at : {A B : Type 0} (f : A → B) (l : List A) {i : ℕ} {y : B} → At (map f l) i y → (x : A) × At l i x × (f x ≡ y)
map_at f [] p = elim p [ ]
map_at f (x ∷ l) here = (x, here, refl)
map_at f (x ∷ l) (there p) = let found = map_at f l p in (found.0, there found.1, found.2)

module _ {V : Type 0} {tally : Ghosts V} {P : Problem tally} (F : Fitting P) where
  abbrev laws : Laws tally
  laws = F.laws

  unfoldable pub alone : {e : V} → P.bound.estimate P.draft.goal ≡ Some e → (r : Record V) → r.set ≡ P.draft.goal
      → r.spent ≡ tally.nil → r.promise ≡ e → r.mark ≡ Waiting → Standing P (r ∷ []) Going
  alone {e} h r is-goal is-nil is-e waits = at_work
      (record {
        estimated = λ a. est (add_cases [] r a);
        ordered = λ a b s w. absurd (not_both s (mark (add_cases [] r a)));
        goal_first = λ f. (r, here, is-goal, is-nil);
        distinct = λ a b s. zero_place (add_cases [] r a) ∙ sym (zero_place (add_cases [] r b));
        outside = λ a s w. not_both s (mark (add_cases [] r a));
        rooted = λ a. rootd (add_cases [] r a);
        fits = F.roomy;
      })
      (record { covered = λ a s k. absurd (not_both s (mark (add_cases [] r a))) })
    where
      zero_place : {i : ℕ} {x : Record V} → Put [] zero r i x → i ≡ zero
      zero_place (new f g) = f
      zero_place (old ne a) = elim a [ ]

      mark : {i : ℕ} {x : Record V} → Put [] zero r i x → x.mark ≡ Waiting
      mark (new f g) = ap (λ y. y.mark) g ∙ waits
      mark (old ne a) = elim a [ ]

      est : {i : ℕ} {x : Record V} → Put [] zero r i x → Estimated P x
      est (new f g) = subst (λ y. Estimated P y) (sym g) (record {
        hope = e;
        is = ap (λ s. P.bound.estimate s) is-goal ∙ h;
        promised = is-e ∙ sym (laws.lawful.neutral e) ∙ ap (λ u. tally.join u e) (sym is-nil);
      })
      est (old ne a) = elim a [ ]

      rootd : {i : ℕ} {x : Record V} → Put [] zero r i x → (l : List ℕ) × Rooted P (r ∷ []) i x l
      rootd {x = x} (new f g) = ([], subst (λ j. Rooted P (r ∷ []) j x []) (sym f) (subst (λ y. Rooted P (r ∷ []) zero y []) (sym g) (top here is-goal is-nil)))
      rootd (old ne a) = elim a [ ]

  unfoldable pub first_stands : {recs : List (Record V)} → First P recs → Standing P recs Going
  first_stands (goal_waits h) = alone h _ refl refl refl refl
  first_stands (no_hope h) = at_work
      (record {
        estimated = λ a. elim a [ ];
        ordered = λ a b s w. elim a [ ];
        goal_first = λ f. impossible (cc);
        distinct = λ a b s. elim a [ ];
        outside = λ a s w. elim a [ ];
        rooted = λ a. elim a [ ];
        fits = omega arith;
      })
      (record { covered = λ a s k. elim a [ ] })

  -- a move that finds no room: the sets recorded, and one more, are all met
  crowd : {mid : List (Record V)} {i k : ℕ} {t : FactSet} {c : Record V} {m : Move} {e : V} → At mid i c
      → Opening P (put mid i (shutting c)) i (shutting c) k → At P.draft.moves.now k m → LeadsTo P c m t e → Unrecorded mid t
      → P.room ≤ length mid → MeetsMoreIn P.draft P.room
  crowd {mid} {i} {k} {t} {c} {m} at o mv lead none room = record {
    sets = t ∷ map (λ r. r.set) mid;
    more = let b = length-map mid (λ r. r.set) in omega arith;
    met = λ j s a. meets a;
    distinct = λ a b s p q. apart p q refl;
  }
    where
      meets : {j : ℕ} {s : FactSet} → At (t ∷ map (λ r. r.set) mid) j s → Meets P.draft s
      meets here = Meets.back (rooted_met (o.table.rooted o.at).1) mv lead.regresses
      meets (there a) =
          let x = map_at (λ r. r.set) mid a in
          let y = seen_shut F at x.1 in
          subst (λ s. Meets P.draft s) (y.2 ∙ x.2) (rooted_met (o.table.rooted y.1).1)

      apart : {a b : ℕ} {s s' : FactSet} → At (t ∷ map (λ r. r.set) mid) a s → At (t ∷ map (λ r. r.set) mid) b s' → s ≡ s' → a ≡ b
      apart here here e = refl
      apart here (there q) e = let x = map_at (λ r. r.set) mid q in absurd (none _ x.0 (record { at = x.1; same = x.2 ∙ sym e }))
      apart (there p) here e = let x = map_at (λ r. r.set) mid p in absurd (none _ x.0 (record { at = x.1; same = x.2 ∙ e }))
      apart (there p) (there q) e =
          let x = map_at (λ r. r.set) mid p in
          let y = map_at (λ r. r.set) mid q in
          let u = seen_shut F at x.1 in
          let v = seen_shut F at y.1 in
          ap suc (o.table.distinct u.1 v.1 (u.2 ∙ x.2 ∙ e ∙ sym y.2 ∙ sym v.2))

  pub overflow_stands : {recs mid : List (Record V)} {i : ℕ} {c : Record V} → Table P recs → Settled P recs → Chosen tally recs i c
      → Outside P c → Overflows P recs i c mid → Standing P mid (Filled i)
  overflow_stands table settled chosen not_there (overflows before mv lead none room) =
      let so_far = take_first F table settled chosen not_there before in
      overfull so_far.0 (record { below = λ good costs. choice_below F table settled chosen good costs }) (crowd so_far.0 so_far.1 mv lead none room)

  unfoldable pub run_stands : {n : ℕ} {recs later : List (Record V)} {end end' : End} {r : Reply V} → Standing P recs end → Runs P n recs end r later end'
      → Standing P later end'
  run_stands s (again t) = s
  run_stands (at_work table settled) (runs_out none) =
      gave_up (λ l good. let w = waiting_below F table settled good (carried_costs tally good.carried).1 in none w.0 w.1 w.2 w.3)
  run_stands (at_work table settled) (finds {c = c} chosen w t) =
      let known = table.estimated chosen.at in
      found_plan (table.rooted chosen.at).1 w (record {
        below = λ good costs.
            le_trans laws (up_l laws c.spent known.hope) (le_trans laws (le_of laws (sym known.promised)) (choice_below F table settled chosen good costs));
      })
  run_stands s (pauses chosen w) = s
  run_stands (at_work table settled) (fills chosen w over) = overflow_stands table settled chosen w over
  run_stands (at_work table settled) (goes_on chosen w opening rest) =
      let next = opened F table settled chosen w opening in run_stands (at_work next.0 next.1) rest
