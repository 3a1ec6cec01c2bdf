-- An opening keeps the trails: parents are shut, and a new trail goes through the choice.
use Rattle.std.proofs.Common.{◌≡◌, ℕ, zero, suc, ◌≤◌, List, [], ◌∷◌, ◌++◌, length, set as put, sym, refl, ap, ◌∙◌, subst, arith}
use native.Mathlib.Decide.{ℕ_discrete}
use Rattle.tasks.specs.Places.{At}
use Rattle.tasks.specs.declared.moves.Move.{Move}
use Rattle.tasks.proofs.Places.{at_same}
use Rattle.costs.specs.declared.tally.Tally.{Ghosts}
use Rattle.theory.specs.Openings.{spent_by, child, Takes, not_regressing, passed_over, bettered, no_better, shut_already, added}
use Rattle.theory.specs.Openings.{TakesFirst, none_yet, and_next, Opens, opens}
use Rattle.costs.specs.Lists.{charge_of}
use Rattle.theory.specs.Problem.{Problem}
use Rattle.theory.specs.Promise.{shuts, one_if_shut}
use Rattle.theory.specs.Records.{Chosen, shutting}
use Rattle.theory.specs.declared.record.Mark.TheVariants.{Waiting, Shut}
use Rattle.theory.specs.declared.record.Record.{Record}
use Rattle.theory.proofs.Basics.{not_both}
use Rattle.theory.proofs.Count.{put_shuts, add_shuts}
use Rattle.theory.proofs.Order.{Laws, lower_not, up_l}
use Rattle.theory.proofs.Places.{put_here, put_there, put_cases, put_swap, put_add, add_old, add_cases, Put, new, old}
use Rattle.runs.specs.Trails.{Thread, top, up_to, Threads}

module _ {V : Type 0} where
  -- a waiting record is on nobody's trail but its own, so it can be written anew
  wait_thread : {recs : List (Record V)} {n : ℕ} {q : Record V} (fresh : Record V) → At recs n q → q.mark ≡ Waiting
      → {j : ℕ} {l : List ℕ} → Thread recs j l → (j ≡ n → ⊥) → Thread (put recs n fresh) j l
  wait_thread fresh at w top ne = top
  wait_thread {recs} {n} {q} fresh at w (up_to {r = r} {p = p} nz a b s t) ne =
      let off : r.parent ≡ n → ⊥ = λ e. not_both s (ap (λ x. x.mark) (at_same (subst (λ k. At recs k p) e b) at) ∙ w) in
      up_to nz (put_there n fresh a ne) (put_there n fresh b off) s (wait_thread fresh at w t off)

  more_thread : {recs : List (Record V)} (more : List (Record V)) {j : ℕ} {l : List ℕ} → Thread recs j l → Thread (recs ++ more) j l
  more_thread more top = top
  more_thread more (up_to nz a b s t) = up_to nz (add_old more a) (add_old more b) s (more_thread more t)

  -- the trail of a record that is shut just now
  shut_thread : {recs : List (Record V)} {i : ℕ} {c : Record V} → At recs i c → c.mark ≡ Waiting → {l : List ℕ} → Thread recs i l → Thread (put recs i (shutting c)) i l
  shut_thread at w top = top
  shut_thread {recs} {i} {c} at w (up_to {r = r} {p = p} {l = l} nz a b s t) =
      let same = at_same at a in
      let off : r.parent ≡ i → ⊥ = λ e. not_both s (ap (λ x. x.mark) (at_same (subst (λ k. At recs k p) e b) at) ∙ w) in
      subst (λ x. Thread (put recs i (shutting c)) i (x.via ∷ l)) same
      (up_to {r = shutting c} nz (put_here (shutting c) at)
      (subst (λ x. At (put recs i (shutting c)) x.parent p) (sym same) (put_there i (shutting c) b off)) s
      (subst (λ x. Thread (put recs i (shutting c)) x.parent l) (sym same) (wait_thread (shutting c) at w t off)))

  -- amid an opening, with the choice c looked at as shut already
  record Amid (shown : List (Record V)) (i : ℕ) : Type 0 where
    pub own : (l : List ℕ) × Thread shown i l × (suc (length l) ≤ shuts shown)
    pub each : (j : ℕ) (r : Record V) → At shown j r → (l : List ℕ) × Thread shown j l × (length l ≤ shuts shown)

  starts : {recs : List (Record V)} {i : ℕ} {c : Record V} → At recs i c → c.mark ≡ Waiting → Threads recs → Amid (put recs i (shutting c)) i
  starts {recs} {i} {c} at w t = record { own = mine; each = λ j r a. every (put_cases recs i (shutting c) a) }
    where
      more : shuts (put recs i (shutting c)) ≡ suc (shuts recs)
      more = let h = put_shuts (shutting c) at in let e = ap one_if_shut w in omega arith

      mine : (l : List ℕ) × Thread (put recs i (shutting c)) i l × (suc (length l) ≤ shuts (put recs i (shutting c)))
      mine = let th = t.each i c at in (th.0, shut_thread at w th.1, omega (arith, more, th.2))

      every : {j : ℕ} {r : Record V} → Put recs i (shutting c) j r → (l : List ℕ) × Thread (put recs i (shutting c)) j l × (length l ≤ shuts (put recs i (shutting c)))
      every (new e f) = (mine.0, subst (λ k. Thread (put recs i (shutting c)) k mine.0) (sym e) mine.1, omega (arith, mine.2))
      every {j} {r} (old ne a) = let th = t.each j r a in (th.0, wait_thread (shutting c) at w th.1 ne, omega (arith, more, th.2))

  module _ {shown : List (Record V)} {i : ℕ} {d : Record V} (chosen : At shown i d) (done : d.mark ≡ Shut) (fresh : Record V) (is : fresh.parent ≡ i) (waits : fresh.mark ≡ Waiting) where
    rewrites : {n : ℕ} {q : Record V} → At shown n q → q.mark ≡ Waiting → Amid shown i → Amid (put shown n fresh) i
    rewrites {n} {q} at w a = record { own = mine; each = λ j r b. every (put_cases shown n fresh b) }
      where
        off : i ≡ n → ⊥
        off e = not_both done (ap (λ x. x.mark) (at_same (subst (λ k. At shown k d) e chosen) at) ∙ w)

        even : shuts (put shown n fresh) ≡ shuts shown
        even = let h = put_shuts fresh at in let e = ap one_if_shut w in let f = ap one_if_shut waits in omega arith

        mine : (l : List ℕ) × Thread (put shown n fresh) i l × (suc (length l) ≤ shuts (put shown n fresh))
        mine = (a.own.0, wait_thread fresh at w a.own.1 off, omega (arith, even, a.own.2))

        every : {j : ℕ} {r : Record V} → Put shown n fresh j r → (l : List ℕ) × Thread (put shown n fresh) j l × (length l ≤ shuts (put shown n fresh))
        every {j} {r} (old ne b) = let th = a.each j r b in (th.0, wait_thread fresh at w th.1 ne, omega (arith, even, th.2))
        every {j} (new e f) = elim (ℕ_discrete j zero) [
          | yes z ↦ ([], subst (λ k. Thread (put shown n fresh) k []) (sym z) top, omega arith)
          | no nz ↦ (
            fresh.via ∷ mine.0,
            up_to nz (subst (λ k. At (put shown n fresh) k fresh) (sym e) (put_here fresh at))
                (subst (λ k. At (put shown n fresh) k d) (sym is) (put_there n fresh chosen off)) done
                (subst (λ k. Thread (put shown n fresh) k mine.0) (sym is) mine.1),
            omega (arith, mine.2),
          )
        ]

    grows : Amid shown i → Amid (shown ++ (fresh ∷ [])) i
    grows a = record { own = mine; each = λ j r b. every b (add_cases shown fresh b) }
      where
        even : shuts (shown ++ (fresh ∷ [])) ≡ shuts shown
        even = let h = add_shuts shown fresh in let f = ap one_if_shut waits in omega arith

        mine : (l : List ℕ) × Thread (shown ++ (fresh ∷ [])) i l × (suc (length l) ≤ shuts (shown ++ (fresh ∷ [])))
        mine = (a.own.0, more_thread (fresh ∷ []) a.own.1, omega (arith, even, a.own.2))

        every : {j : ℕ} {r : Record V} → At (shown ++ (fresh ∷ [])) j r → Put shown (length shown) fresh j r
            → (l : List ℕ) × Thread (shown ++ (fresh ∷ [])) j l × (length l ≤ shuts (shown ++ (fresh ∷ [])))
        every {j} {r} at (old ne b) = let th = a.each j r b in (th.0, more_thread (fresh ∷ []) th.1, omega (arith, even, th.2))
        every {j} {r} at (new e f) = elim (ℕ_discrete j zero) [
          | yes z ↦ ([], subst (λ k. Thread (shown ++ (fresh ∷ [])) k []) (sym z) top, omega arith)
          | no nz ↦ (
            fresh.via ∷ mine.0,
            up_to nz (subst (λ x. At (shown ++ (fresh ∷ [])) j x) f at) (subst (λ k. At (shown ++ (fresh ∷ [])) k d) (sym is) (add_old (fresh ∷ []) chosen)) done
                (subst (λ k. Thread (shown ++ (fresh ∷ [])) k mine.0) (sym is) mine.1),
            omega (arith, mine.2),
          )
        ]

module _ {V : Type 0} {tally : Ghosts V} (laws : Laws tally) (P : Problem tally) (i : ℕ) (c : Record V) where
  abbrev Stands : List (Record V) → Type 0
  Stands recs = At recs i c × Amid (put recs i (shutting c)) i

  take_stands : {recs : List (Record V)} {k : ℕ} {m : Move} {later : List (Record V)} → Takes P recs i c k m later → Stands recs → Stands later
  take_stands (not_regressing n) s = s
  take_stands (passed_over r e) s = s
  take_stands (no_better lead f w l) s = s
  take_stands (shut_already lead f b) s = s
  take_stands {recs = recs} {k = k} {m = m} (bettered {t = t} {j = n} {e = e} {q = q} lead f w l) s =
      -- the choice is not bettered by what comes of it
      let off : i ≡ n → ⊥ = λ same. lower_not laws (spent_by P c m) c.spent
      (ap (λ x. tally.at_most x.spent (spent_by P c m)) (at_same s.0 (subst (λ j. At recs j q) (sym same) f.at)) ∙ l)
      (up_l laws c.spent (charge_of tally m)) in
      let back : n ≡ i → ⊥ = λ same. off (sym same) in (
        put_there n (child P i c k m t e) s.0 off,
        subst (λ x. Amid x i) (put_swap recs i n (shutting c) (child P i c k m t e) off)
            (rewrites (put_here (shutting c) s.0) refl (child P i c k m t e) refl refl (put_there i (shutting c) f.at back) w s.1),
      )
  take_stands {recs = recs} {k = k} {m = m} (added {t = t} {e = e} lead u h) s = (
    add_old (child P i c k m t e ∷ []) s.0,
    subst (λ x. Amid x i) (sym (put_add (shutting c) (child P i c k m t e ∷ []) s.0))
        (grows (put_here (shutting c) s.0) refl (child P i c k m t e) refl refl s.1),
  )

  first_stands : {recs : List (Record V)} {k : ℕ} {later : List (Record V)} → TakesFirst P recs i c k later → Stands recs → Stands later
  first_stands none_yet s = s
  first_stands (and_next t at step) s = take_stands step (first_stands t s)

  pub opens_threads : {recs mid : List (Record V)} → Chosen tally recs i c → Opens P recs i c mid → Threads recs → Threads mid
  opens_threads ch (opens {mid = mid} {q = q} t at) th =
      let s = first_stands t (ch.at, starts ch.at ch.waits th) in
      subst (λ x. Threads (put mid i (shutting x))) (at_same s.0 at) (record { each = s.1.each })
