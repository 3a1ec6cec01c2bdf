-- One record is written or added: what stays true of the others, and of the table.
use Rattle.std.proofs.Common.{◌≡◌, ℕ, zero, ◌≤◌, List, [], ◌∷◌, ◌++◌, length, set as put, sym, refl, ap, ◌∙◌, subst, subst₂, inl, inr, length-set}
use native.Mathlib.Decide.{ℕ_discrete}
use Rattle.facts.specs.Sets.{Within}
use Rattle.facts.specs.declared.sets.FactSet.{FactSet}
use Rattle.tasks.specs.Places.{At}
use Rattle.tasks.specs.declared.moves.Move.{Move}
use Rattle.tasks.proofs.Places.{at_same}
use Rattle.costs.specs.Lists.{charge_of}
use Rattle.costs.specs.declared.tally.Tally.{Ghosts}
use Rattle.theory.specs.Problem.{Problem, Lower}
use Rattle.theory.specs.Records.{Chosen, shutting}
use Rattle.theory.specs.Openings.{spent_by, child, LeadsTo}
use Rattle.theory.specs.Runs.{Outside}
use Rattle.theory.specs.declared.record.Mark.TheVariants.{Waiting, Shut}
use Rattle.theory.specs.declared.record.Record.{Record}
use Rattle.theory.proofs.Basics.{not_both, value_same}
use Rattle.theory.proofs.Places.{Put, new, old, put_here, put_there, put_cases, add_old, add_new, add_cases}
use Rattle.theory.proofs.Order.{Laws, Le, compare, lower_le, lower_not, le_trans, le_of, mono_l, mono_r, up_l}
use Rattle.theory.proofs.Keys.{Key, lower, level, key_both, key_trans, key_refl, ahead_key}
use Rattle.theory.proofs.Paths.{Fitting, consistent}
use Rattle.theory.proofs.Table.{Rooted, Estimated, Table, Kept, rooted_at, top, under}

-- the records are those before, but for n at place j
pub record Changed {V : Type 0} (recs later : List (Record V)) (j : ℕ) (n : Record V) : Type 0 where
  pub now : At later j n
  pub forth : {i : ℕ} {x : Record V} → At recs i x → (i ≡ j → ⊥) → At later i x
  pub cases : {i : ℕ} {x : Record V} → At later i x → Put recs j n i x

pub put_changed : {V : Type 0} {recs : List (Record V)} {j : ℕ} {q : Record V} (n : Record V) → At recs j q → Changed recs (put recs j n) j n
put_changed {recs = recs} {j = j} n a = record { now = put_here n a; forth = λ b ne. put_there j n b ne; cases = λ b. put_cases recs j n b }

pub add_changed : {V : Type 0} (recs : List (Record V)) (n : Record V) → Changed recs (recs ++ (n ∷ [])) (length recs) n
add_changed recs n = record { now = add_new recs n; forth = λ b ne. add_old (n ∷ []) b; cases = λ b. add_cases recs n b }

-- every shut record comes before c
pub record Above {V : Type 0} (tally : Ghosts V) (recs : List (Record V)) (c : Record V) : Type 0 where
  pub key : {j : ℕ} {r : Record V} → At recs j r → r.mark ≡ Shut → Key tally r c

-- the record that n takes the place of, if any, waits
pub record OverWaiting {V : Type 0} (recs : List (Record V)) (j : ℕ) : Type 0 where
  pub waits : {x : Record V} → At recs j x → x.mark ≡ Waiting

-- n has the set of the record whose place it takes, if any, and has spent no more
pub record NoDearer {V : Type 0} (tally : Ghosts V) (recs : List (Record V)) (j : ℕ) (n : Record V) : Type 0 where
  pub than : {x : Record V} → At recs j x → (n.set ≡ x.set) × Le tally n.spent x.spent

-- no record but that at place j has the set t
pub record Free {V : Type 0} (recs : List (Record V)) (j : ℕ) (t : FactSet) : Type 0 where
  pub free : {i : ℕ} {x : Record V} → At recs i x → (i ≡ j → ⊥) → x.set ≡ t → ⊥

module _ {V : Type 0} {tally : Ghosts V} {P : Problem tally} {recs later : List (Record V)} {j : ℕ} {n : Record V} (ch : Changed recs later j n) where
  pub rooted_change : OverWaiting recs j → {i : ℕ} {r : Record V} {l : List ℕ} → Rooted P recs i r l → (i ≡ j → ⊥) → Rooted P later i r l
  rooted_change o (top a s z) ne = top (ch.forth a ne) s z
  rooted_change o (under {r = r} {p = p} z a m g s h up) ne =
      under z (ch.forth a ne) m g s h
      (rooted_change o up (λ e. not_both h (o.waits (subst (λ x. At recs x p) e (rooted_at up)))))

  pub kept_change : Laws tally → NoDearer tally recs j n → {t : FactSet} {v : V} → Kept P recs t v → Kept P later t v
  kept_change laws no_more kept = elim (ℕ_discrete kept.number j) [
    | yes e ↦ (let both = no_more.than (subst (λ x. At recs x kept.rec) e kept.at) in
        record { number = j; rec = n; at = ch.now; same = both.0 ∙ kept.same; cheap = le_trans laws both.1 kept.cheap })
    | no ne ↦ record { number = kept.number; rec = kept.rec; at = ch.forth kept.at ne; same = kept.same; cheap = kept.cheap }
  ]

-- the choice is shut
module _ {V : Type 0} {tally : Ghosts V} {P : Problem tally} (F : Fitting P) {recs : List (Record V)} (table : Table P recs) {i : ℕ} {c : Record V}
    (chosen : Chosen tally recs i c) (not_there : Outside P c) where
  shut_changed : Changed recs (put recs i (shutting c)) i (shutting c)
  shut_changed = put_changed (shutting c) chosen.at

  pub shut_waiting : OverWaiting recs i
  shut_waiting = record { waits = λ a. ap (λ r. r.mark) (at_same a chosen.at) ∙ chosen.waits }

  key_shut : {q : Record V} → Key tally c q → Key tally (shutting c) q
  key_shut (lower h) = lower h
  key_shut (level e h) = level e h

  shut_key : {q : Record V} → Key tally q c → Key tally q (shutting c)
  shut_key (lower h) = lower h
  shut_key (level e h) = level e h

  pub shut_above : Above tally (put recs i (shutting c)) (shutting c)
  shut_above = record { key = λ a s. above (shut_changed.cases a) s }
    where
      above : {j : ℕ} {r : Record V} → Put recs i (shutting c) j r → r.mark ≡ Shut → Key tally r (shutting c)
      above (new e f) s = subst (λ x. Key tally x (shutting c)) (sym f) (key_refl F.laws)
      above (old ne a) s = shut_key (table.ordered a chosen.at s chosen.waits)

  root_shut : {l : List ℕ} → Rooted P recs i c l → Rooted P (put recs i (shutting c)) i (shutting c) l
  root_shut p = again p shut_changed.now shut_waiting shut_changed
    where
      again : {a : ℕ} {r : Record V} {l : List ℕ} {more : List (Record V)} → Rooted P recs a r l → At more a (shutting r) → OverWaiting recs a
          → Changed recs more a (shutting r) → Rooted P more a (shutting r) l
      again (top a s z) b o ch = top b s z
      again (under {p = p} z a m g s h up) b o ch =
          under z b m g s h (rooted_change ch o up (λ e. not_both h (o.waits (subst (λ x. At recs x p) e (rooted_at up)))))

  pub table_shut : Table P (put recs i (shutting c))
  table_shut = record {
    estimated = λ a. est (shut_changed.cases a);
    ordered = λ a b s w. ord (shut_changed.cases a) (shut_changed.cases b) s w;
    goal_first = λ e. first (table.goal_first e);
    distinct = λ a b s. dis (shut_changed.cases a) (shut_changed.cases b) s;
    outside = λ a s. out (shut_changed.cases a) s;
    rooted = λ a. rootd (shut_changed.cases a);
    fits = subst (λ x. x ≤ P.room) (sym (length-set recs i (shutting c))) table.fits;
  }
    where
      est : {a : ℕ} {x : Record V} → Put recs i (shutting c) a x → Estimated P x
      est (new e f) = subst (λ y. Estimated P y) (sym f)
          (let known = table.estimated chosen.at in record { hope = known.hope; is = known.is; promised = known.promised })
      est (old ne a) = table.estimated a

      ord : {a b : ℕ} {r q : Record V} → Put recs i (shutting c) a r → Put recs i (shutting c) b q → r.mark ≡ Shut → q.mark ≡ Waiting → Key tally r q
      ord x (new e f) s w = absurd (not_both (ap (λ y. y.mark) f) w)
      ord {q = q} (new e f) (old ne b) s w = subst (λ y. Key tally y q) (sym f) (key_shut (ahead_key F.laws (chosen.least _ _ b w)))
      ord (old no-a a) (old no-b b) s w = table.ordered a b s w

      first : (r : Record V) × At recs zero r × (r.set ≡ P.draft.goal) × (r.spent ≡ tally.nil)
          → (r : Record V) × At (put recs i (shutting c)) zero r × (r.set ≡ P.draft.goal) × (r.spent ≡ tally.nil)
      first g = elim (ℕ_discrete zero i) [
        | yes e ↦ (let same = at_same (subst (λ x. At recs x g.0) e g.1) chosen.at in (
          shutting c,
          subst (λ x. At (put recs i (shutting c)) x (shutting c)) (sym e) shut_changed.now,
          sym (ap (λ y. y.set) same) ∙ g.2,
          sym (ap (λ y. y.spent) same) ∙ g.3,
        ))
        | no ne ↦ (g.0, shut_changed.forth g.1 ne, g.2, g.3)
      ]

      dis : {a b : ℕ} {r q : Record V} → Put recs i (shutting c) a r → Put recs i (shutting c) b q → r.set ≡ q.set → a ≡ b
      dis (new e f) (new e' f') s = e ∙ sym e'
      dis (new e f) (old ne b) s = e ∙ table.distinct chosen.at b (sym (ap (λ y. y.set) f) ∙ s)
      dis (old ne a) (new e f) s = table.distinct a chosen.at (s ∙ ap (λ y. y.set) f) ∙ sym e
      dis (old no-a a) (old no-b b) s = table.distinct a b s

      out : {a : ℕ} {r : Record V} → Put recs i (shutting c) a r → r.mark ≡ Shut → Within r.set P.draft.start → ⊥
      out (new e f) s w = not_there (subst (λ y. Within y.set P.draft.start) f w)
      out (old ne a) s w = table.outside a s w

      rootd : {a : ℕ} {r : Record V} → Put recs i (shutting c) a r → (l : List ℕ) × Rooted P (put recs i (shutting c)) a r l
      rootd (new e f) =
          let known = table.rooted chosen.at in
          (known.0, subst₂ (λ x y. Rooted P (put recs i (shutting c)) x y known.0) (sym e) (sym f) (root_shut known.1))
      rootd (old ne a) = let known = table.rooted a in (known.0, rooted_change shut_changed shut_waiting known.1 ne)

-- a move is taken from the record c, which is shut and comes after all that are shut
module _ {V : Type 0} {tally : Ghosts V} {P : Problem tally} (F : Fitting P) {recs : List (Record V)} (table : Table P recs) {i : ℕ} {c : Record V} (at : At recs i c)
    (closed : c.mark ≡ Shut) (above : Above tally recs c) {k : ℕ} {m : Move} (mv : At P.draft.moves.now k m) {t : FactSet} {e : V} (lead : LeadsTo P c m t e) where
  abbrev laws : Laws tally
  laws = F.laws

  -- a child comes after its parent
  pub key_child : Key tally c (child P i c k m t e)
  key_child =
      let known = table.estimated at in
      let one = consistent F mv lead.regresses lead.hoped in
      let same : known.hope ≡ one.0 = value_same (sym known.is ∙ one.1) in
      key_both laws c (child P i c k m t e)
      (le_trans laws (le_of laws (known.promised ∙ ap (λ x. tally.join c.spent x) same))
      (le_trans laws (mono_r laws c.spent one.2) (le_of laws (sym (laws.lawful.associative c.spent (charge_of tally m) e)))))
      (up_l laws c.spent (charge_of tally m))

  -- a shut record of the same set was no dearer
  pub shut_cheap : {j : ℕ} {q : Record V} → At recs j q → q.mark ≡ Shut → q.set ≡ t → Le tally q.spent (spent_by P c m)
  shut_cheap {q = q} a s same_set = elim (compare laws q.spent (spent_by P c m)) [
    | inl h ↦ h
    | inr h ↦ by_key h (key_trans laws (above.key a s) key_child)
  ]
    where
      known : Estimated P q
      known = table.estimated a

      e_same : e ≡ known.hope
      e_same = value_same (sym lead.hoped ∙ ap (λ x. P.bound.estimate x) (sym same_set) ∙ known.is)

      dearer : Le tally (spent_by P c m) q.spent → Le tally (child P i c k m t e).promise q.promise
      dearer h = le_trans laws (mono_l laws e h) (le_of laws (ap (λ x. tally.join q.spent x) e_same ∙ sym known.promised))

      by_key : Lower tally (spent_by P c m) q.spent → Key tally q (child P i c k m t e)
          → Le tally q.spent (spent_by P c m)
      by_key h (lower g) = absurd (lower_not laws q.promise (child P i c k m t e).promise g
          (dearer (lower_le laws (spent_by P c m) q.spent h)))
      by_key h (level f g) = g

  pub table_child : {later : List (Record V)} {j : ℕ} → Changed recs later j (child P i c k m t e) → OverWaiting recs j → Free recs j t
      → (j ≡ zero → ⊥) → length later ≤ P.room → Table P later
  table_child {later} {j} ch over free nz room = record {
    estimated = λ a. est (ch.cases a);
    ordered = λ a b s w. ord (ch.cases a) (ch.cases b) s w;
    goal_first = λ h. first (table.goal_first h);
    distinct = λ a b s. dis (ch.cases a) (ch.cases b) s;
    outside = λ a s. out (ch.cases a) s;
    rooted = λ a. rootd (ch.cases a);
    fits = room;
  }
    where
      not_here : i ≡ j → ⊥
      not_here h = not_both closed (over.waits (subst (λ x. At recs x c) h at))

      est : {a : ℕ} {x : Record V} → Put recs j (child P i c k m t e) a x → Estimated P x
      est (new h f) = subst (λ y. Estimated P y) (sym f) (record { hope = e; is = lead.hoped; promised = refl })
      est (old ne a) = table.estimated a

      ord : {a b : ℕ} {r q : Record V} → Put recs j (child P i c k m t e) a r → Put recs j (child P i c k m t e) b q → r.mark ≡ Shut
          → q.mark ≡ Waiting → Key tally r q
      ord (new h f) x s w = absurd (not_both s (ap (λ y. y.mark) f))
      ord {r = r} (old ne a) (new h f) s w = subst (λ y. Key tally r y) (sym f) (key_trans laws (above.key a s) key_child)
      ord (old no-a a) (old no-b b) s w = table.ordered a b s w

      first : (r : Record V) × At recs zero r × (r.set ≡ P.draft.goal) × (r.spent ≡ tally.nil)
          → (r : Record V) × At later zero r × (r.set ≡ P.draft.goal) × (r.spent ≡ tally.nil)
      first g = (g.0, ch.forth g.1 (λ h. nz (sym h)), g.2, g.3)

      dis : {a b : ℕ} {r q : Record V} → Put recs j (child P i c k m t e) a r → Put recs j (child P i c k m t e) b q → r.set ≡ q.set → a ≡ b
      dis (new h f) (new h' f') s = h ∙ sym h'
      dis (new h f) (old ne b) s = absurd (free.free b ne (sym s ∙ ap (λ y. y.set) f))
      dis (old ne a) (new h f) s = absurd (free.free a ne (s ∙ ap (λ y. y.set) f))
      dis (old no-a a) (old no-b b) s = table.distinct a b s

      out : {a : ℕ} {r : Record V} → Put recs j (child P i c k m t e) a r → r.mark ≡ Shut → Within r.set P.draft.start → ⊥
      out (new h f) s w = not_both s (ap (λ y. y.mark) f)
      out (old ne a) s w = table.outside a s w

      rootd : {a : ℕ} {r : Record V} → Put recs j (child P i c k m t e) a r → (l : List ℕ) × Rooted P later a r l
      rootd (new h f) =
          let known = table.rooted at in (
            k ∷ known.0,
            subst₂ (λ x y. Rooted P later x y (k ∷ known.0)) (sym h) (sym f)
                (under nz ch.now mv lead.regresses refl closed (rooted_change ch over known.1 not_here)),
          )
      rootd (old ne a) = let known = table.rooted a in (known.0, rooted_change ch over known.1 ne)

  pub above_child : {later : List (Record V)} {j : ℕ} → Changed recs later j (child P i c k m t e) → Above tally later c
  above_child {later} {j} ch = record { key = λ a s. go (ch.cases a) s }
    where
      go : {a : ℕ} {r : Record V} → Put recs j (child P i c k m t e) a r → r.mark ≡ Shut → Key tally r c
      go (new h f) s = absurd (not_both s (ap (λ y. y.mark) f))
      go (old ne a) s = above.key a s
