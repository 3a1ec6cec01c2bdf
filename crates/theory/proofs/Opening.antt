-- An opening, move by move. The proofs look at the records with the choice already marked as shut.
use Rattle.std.proofs.Common.{◌≡◌, ℕ, zero, suc, ◌<◌, ◌≤◌, List, [], ◌∷◌, length, set as put, sym, refl, ap, ◌∙◌, subst, subst₂, arith, length-append, length-set}
use native.Mathlib.Decide.{ℕ_discrete}
use Rattle.facts.specs.declared.sets.FactSet.{FactSet}
use Rattle.tasks.specs.Moves.{Regresses}
use Rattle.tasks.specs.Places.{At}
use Rattle.tasks.specs.declared.moves.Move.{Move}
use Rattle.tasks.proofs.Bearing.{regresses_same}
use Rattle.tasks.proofs.Places.{at_same, at_less}
use Rattle.costs.specs.Lists.{charge_of}
use Rattle.costs.specs.declared.tally.Tally.{Ghosts}
use Rattle.theory.specs.Problem.{Problem}
use Rattle.theory.specs.Records.{Chosen, shutting}
use Rattle.theory.specs.Openings.{spent_by, child, LeadsTo, Recorded, Takes, not_regressing, passed_over, bettered, no_better, shut_already, added, TakesFirst}
use Rattle.theory.specs.Openings.{none_yet, and_next, Opens, opens}
use Rattle.theory.specs.Runs.{Outside}
use Rattle.theory.specs.declared.record.Mark.TheVariants.{Waiting, Shut}
use Rattle.theory.specs.declared.record.Record.{Record}
use Rattle.theory.proofs.Basics.{not_both, never_value}
use Rattle.theory.proofs.Places.{Put, new, old, put_here, put_there, put_cases, add_old, put_swap, put_add}
use Rattle.theory.proofs.Order.{Laws, Le, lower_le, lower_not, le_trans, le_refl, le_of, le_nil, up_l}
use Rattle.theory.proofs.Paths.{Fitting}
use Rattle.theory.proofs.Table.{Rooted, Table, Kept, Covered, Settled, top, under}
use Rattle.theory.proofs.Change.{Changed, put_changed, add_changed, Above, OverWaiting, NoDearer, Free, kept_change, shut_above, table_shut, shut_cheap}
use Rattle.theory.proofs.Change.{table_child, above_child}

root_nil : {V : Type 0} {tally : Ghosts V} {P : Problem tally} {recs : List (Record V)} {i : ℕ} {r : Record V} {l : List ℕ} → Rooted P recs i r l
    → i ≡ zero → r.spent ≡ tally.nil
root_nil (top a s z) e = z
root_nil (under z a m g s h up) e = absurd (z e)

-- the choice c, number i, counts as shut; what its moves below k make is recorded, and so is what the moves of the other shut records make
pub record Opening {V : Type 0} {tally : Ghosts V} (P : Problem tally) (recs : List (Record V)) (i : ℕ) (c : Record V) (k : ℕ) : Type 0 where
  pub table : Table P recs
  pub at : At recs i c
  pub closed : c.mark ≡ Shut
  pub above : Above tally recs c
  pub covered : {j : ℕ} {r : Record V} → At recs j r → r.mark ≡ Shut → (n : ℕ) → (j ≡ i → n < k) → Covered P recs r n

module _ {V : Type 0} {tally : Ghosts V} {P : Problem tally} (F : Fitting P) where
  abbrev laws : Laws tally
  laws = F.laws

  covered_by : {recs : List (Record V)} {c : Record V} {k : ℕ} {t : FactSet} {m : Move} → At P.draft.moves.now k m → Regresses m c.set t
      → Kept P recs t (spent_by P c m) → Covered P recs c k
  covered_by {recs} {c} {k} {t} {m} at g kept = record {
    keeps = λ {m = n} {t = u} at' g' h.
        (let same : m ≡ n = at_same at at' in
        subst₂ (λ (x : FactSet) (y : Move). Kept P recs x (tally.join c.spent (charge_of tally y)))
        (regresses_same (subst (λ y. Regresses y c.set t) same g) g') same kept);
  }

  covered_change : {recs later : List (Record V)} {j : ℕ} {n : Record V} → Changed recs later j n → NoDearer tally recs j n
      → {r : Record V} {k : ℕ} → Covered P recs r k → Covered P later r k
  covered_change ch less cov = record { keeps = λ at g h. kept_change ch laws less (cov.keeps at g h) }

  advance : {recs : List (Record V)} {i k : ℕ} {c : Record V} → Opening P recs i c k → Covered P recs c k → Opening P recs i c (suc k)
  advance {recs} {i} {k} {c} o cov = record {
    table = o.table;
    at = o.at;
    closed = o.closed;
    above = o.above;
    covered = λ a s n h. further a s n h (ℕ_discrete n k);
  }
    where
      further : {j : ℕ} {r : Record V} → At recs j r → r.mark ≡ Shut → (n : ℕ) → (j ≡ i → n < suc k) → Dec (n ≡ k) → Covered P recs r n
      further {j} {r} a s n h (yes e) = elim (ℕ_discrete j i) [
        | yes f ↦ subst₂ (λ x y. Covered P recs x y) (at_same o.at (subst (λ x. At recs x r) f a)) (sym e) cov
        | no ne ↦ o.covered a s n (λ f. absurd (ne f))
      ]
      further a s n h (no ne) = o.covered a s n (λ f. let g = h f in omega (arith, ne))

  -- a child is written or added
  with_child : {recs later : List (Record V)} {i j k : ℕ} {t : FactSet} {c : Record V} {m : Move} {e : V} → Opening P recs i c k → At P.draft.moves.now k m
      → LeadsTo P c m t e → Changed recs later j (child P i c k m t e) → OverWaiting recs j → NoDearer tally recs j (child P i c k m t e)
      → Free recs j t → (j ≡ zero → ⊥) → length later ≤ P.room → Opening P later i c (suc k)
  with_child {recs} {later} {i} {j} {k} {t} {c} {m} {e} o mv lead ch over less free nz room =
      advance (record {
        table = table_child F o.table o.at o.closed o.above mv lead ch over free nz room;
        at = ch.forth o.at (λ h. not_both o.closed (over.waits (subst (λ x. At recs x c) h o.at)));
        closed = o.closed;
        above = above_child F o.table o.at o.closed o.above mv lead ch;
        covered = λ a s n h. further (ch.cases a) s n h;
      })
      (covered_by mv lead.regresses (record { number = j; rec = child P i c k m t e; at = ch.now; same = refl; cheap = le_refl laws }))
    where
      further : {b : ℕ} {r : Record V} → Put recs j (child P i c k m t e) b r → r.mark ≡ Shut → (n : ℕ) → (b ≡ i → n < k) → Covered P later r n
      further (new h f) s n g = absurd (not_both s (ap (λ y. y.mark) f))
      further (old ne a) s n g = covered_change ch less (o.covered a s n g)

  -- one move, with the choice c waiting in the records and shut in the proof's view of them
  module _ {recs : List (Record V)} {i : ℕ} {c : Record V} (at : At recs i c) (waits : c.mark ≡ Waiting) where
    seen : {j : ℕ} {q : Record V} {t : FactSet} {v : V} → Recorded recs t j q → Le tally q.spent v → Kept P (put recs i (shutting c)) t v
    seen {j} {q} here h = elim (ℕ_discrete j i) [
      | yes e ↦ (let same = at_same at (subst (λ x. At recs x q) e here.at) in
          record {
            number = i;
            rec = shutting c;
            at = put_here (shutting c) at;
            same = ap (λ y. y.set) same ∙ here.same;
            cheap = le_trans laws (le_of laws (ap (λ y. y.spent) same)) h;
          })
      | no ne ↦ record { number = j; rec = q; at = put_there i (shutting c) here.at ne; same = here.same; cheap = h }
    ]

    elsewhere : {j : ℕ} {q : Record V} → At recs j q → q.mark ≡ Shut → j ≡ i → ⊥
    elsewhere {q = q} a s e = not_both s (ap (λ y. y.mark) (at_same (subst (λ x. At recs x q) e a) at) ∙ waits)

    pub take_step : {k : ℕ} {m : Move} {later : List (Record V)} → Opening P (put recs i (shutting c)) i (shutting c) k → At P.draft.moves.now k m
        → Takes P recs i c k m later → At later i c × Opening P (put later i (shutting c)) i (shutting c) (suc k)
    take_step {k} {m} o mv (not_regressing none) =
        (at, advance o (record { keeps = λ {t = u} at' g h. absurd (none u (subst (λ y. Regresses y c.set u) (at_same at' mv) g)) }))
    take_step {k} {m} o mv (passed_over {t = t} g never) = (
      at,
      advance o (record {
        keeps = λ {t = u} at' g' h. absurd (never_value (sym never
            ∙ ap (λ x. P.bound.estimate x) (regresses_same g (subst (λ y. Regresses y c.set u) (at_same at' mv) g')) ∙ h));
      }),
    )
    take_step o mv (no_better lead here w h) = (at, advance o (covered_by mv lead.regresses (seen here (record { holds = h }))))
    take_step o mv (shut_already lead here s) =
        let a = put_there i (shutting c) here.at (elsewhere here.at s) in (
          at,
          advance o (covered_by mv lead.regresses
              (seen here (shut_cheap F o.table o.at o.closed o.above mv (record { regresses = lead.regresses; hoped = lead.hoped }) a s here.same))),
        )
    take_step {k} {m} o mv (bettered {t = t} {j = j} {e = e} {q = q} lead here w h) = (
      put_there j n at (λ e. apart (sym e)),
      subst (λ x. Opening P x i (shutting c) (suc k)) (sym (put_swap recs j i n (shutting c) apart))
          (with_child o mv (record { regresses = lead.regresses; hoped = lead.hoped }) (put_changed n there)
          (record { waits = λ a. ap (λ y. y.mark) (at_same a there) ∙ w })
          (record {
            than = λ a. (
              sym here.same ∙ sym (ap (λ y. y.set) (at_same a there)),
              le_trans laws (lower_le laws n.spent q.spent h) (le_of laws (sym (ap (λ y. y.spent) (at_same a there)))),
            );
          })
          (record { free = λ a ne s. ne (o.table.distinct a there (s ∙ sym here.same)) })
          (λ z. lower_not laws n.spent q.spent h (le_trans laws (le_of laws (root_nil (o.table.rooted there).1 z)) (le_nil laws)))
          (subst (λ x. x ≤ P.room) (sym (length-set (put recs i (shutting c)) j n)) o.table.fits)),
    )
      where
        n : Record V
        n = child P i c k m t e

        apart : j ≡ i → ⊥
        apart f = lower_not laws (spent_by P c m) q.spent h
            (subst (λ y. Le tally y.spent (spent_by P c m)) (at_same at (subst (λ x. At recs x q) f here.at))
            (up_l laws c.spent (charge_of tally m)))

        there : At (put recs i (shutting c)) j q
        there = put_there i (shutting c) here.at apart
    take_step {k} {m} o mv (added {t = t} {e = e} lead none room) = (
      add_old (n ∷ []) at,
      subst (λ x. Opening P x i (shutting c) (suc k)) (sym (put_add (shutting c) (n ∷ []) at))
          (with_child o mv (record { regresses = lead.regresses; hoped = lead.hoped }) (add_changed (put recs i (shutting c)) n)
          (record { waits = λ a. absurd (past a) }) (record { than = λ a. absurd (past a) })
          (record { free = λ a ne s. fresh (put_cases recs i (shutting c) a) s })
          (λ z. let b = at_less (put_here (shutting c) at) in omega arith)
          (let b = length-append (put recs i (shutting c)) (n ∷ []) in let d = length-set recs i (shutting c) in omega arith)),
    )
      where
        n : Record V
        n = child P i c k m t e

        past : {x : Record V} → At (put recs i (shutting c)) (length (put recs i (shutting c))) x → ⊥
        past a = let b = at_less a in omega arith

        fresh : {b : ℕ} {x : Record V} → Put recs i (shutting c) b x → x.set ≡ t → ⊥
        fresh (new f g) s = none i c (record { at = at; same = sym (ap (λ y. y.set) g) ∙ s })
        fresh (old ne a) s = none _ _ (record { at = a; same = s })

  -- the first moves of an opening
  pub take_first : {recs : List (Record V)} {i : ℕ} {c : Record V} → Table P recs → Settled P recs → Chosen tally recs i c
      → Outside P c → {k : ℕ} {later : List (Record V)} → TakesFirst P recs i c k later
      → At later i c × Opening P (put later i (shutting c)) i (shutting c) k
  take_first {recs} {i} {c} table settled chosen not_there none_yet = (
    chosen.at,
    record {
      table = table_shut F table chosen not_there;
      at = put_here (shutting c) chosen.at;
      closed = refl;
      above = shut_above F table chosen not_there;
      covered = λ a s n h. before (put_cases recs i (shutting c) a) s n h;
    },
  )
    where
      before : {b : ℕ} {r : Record V} → Put recs i (shutting c) b r → r.mark ≡ Shut → (n : ℕ) → (b ≡ i → n < zero) → Covered P (put recs i (shutting c)) r n
      before (new e f) s n h = absurd (let g = h e in omega arith)
      before (old ne a) s n h = covered_change (put_changed (shutting c) chosen.at)
          (record { than = λ b. (sym (ap (λ y. y.set) (at_same b chosen.at)), le_of laws (sym (ap (λ y. y.spent) (at_same b chosen.at)))) })
          (settled.covered a s n)
  take_first table settled chosen not_there (and_next before mv step) =
      let so_far = take_first table settled chosen not_there before in take_step so_far.0 chosen.waits so_far.1 mv step

  -- the records seen with the choice shut have the sets of the records
  pub seen_shut : {mid : List (Record V)} {i j : ℕ} {c q : Record V} → At mid i c → At mid j q
      → (x : Record V) × At (put mid i (shutting c)) j x × (x.set ≡ q.set)
  seen_shut {mid} {i} {j} {c} {q} at a = elim (ℕ_discrete j i) [
    | yes f ↦ (
      shutting c,
      subst (λ n. At (put mid i (shutting c)) n (shutting c)) (sym f) (put_here (shutting c) at),
      ap (λ y. y.set) (at_same at (subst (λ n. At mid n q) f a)),
    )
    | no ne ↦ (q, put_there i (shutting c) a ne, refl)
  ]

  -- after an opening all stands as before it
  pub opened : {recs : List (Record V)} {i : ℕ} {c : Record V} → Table P recs → Settled P recs → Chosen tally recs i c
      → Outside P c → {later : List (Record V)} → Opens P recs i c later → Table P later × Settled P later
  opened {recs} {i} {c} table settled chosen not_there (opens {mid = mid} {q = q} all at) =
      subst (λ x. Table P (put mid i (shutting x)) × Settled P (put mid i (shutting x))) (at_same so_far.0 at)
      (so_far.1.table, record { covered = λ a s k. record { keeps = λ mv g h. (so_far.1.covered a s k (λ e. at_less mv)).keeps mv g h } })
    where
      so_far : At mid i c × Opening P (put mid i (shutting c)) i (shutting c) (length P.draft.moves.now)
      so_far = take_first table settled chosen not_there all
