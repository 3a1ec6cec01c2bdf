-- What a reply told earlier still says of the search.
use Rattle.std.proofs.Common.{◌≡◌, ℕ, List, length, set as put, refl, ap, subst, inl, inr}
use Rattle.tasks.specs.Places.{At}
use Rattle.tasks.proofs.Places.{at_same}
use Rattle.costs.specs.declared.tally.Tally.{Ghosts}
use Rattle.theory.specs.Problem.{Problem}
use Rattle.theory.specs.Records.{Chosen, shutting}
use Rattle.theory.specs.Openings.{Opens, opens, Overflows, overflows}
use Rattle.theory.specs.Runs.{Trail, root, up, tell_full, one_more, Tells, tells_plan, tells_none, tells_full, Outside, Runs, again, runs_out, finds, pauses}
use Rattle.theory.specs.Runs.{fills, goes_on}
use Rattle.theory.specs.Promise.{Floor}
use Rattle.theory.specs.declared.record.Mark.TheVariants.{Waiting}
use Rattle.theory.specs.declared.record.Record.{Record}
use Rattle.theory.specs.declared.reply.End.{End}
use Rattle.theory.specs.declared.reply.End.TheVariants.{Going, Planned, Exhausted, Filled}
use Rattle.theory.specs.declared.reply.Kind.TheVariants.{Pending}
use Rattle.theory.specs.declared.reply.Reply.{Reply}
use Rattle.theory.proofs.Basics.{impossible}
use Rattle.theory.proofs.Places.{put_here}
use Rattle.theory.proofs.Order.{Laws, Le, le_trans, le_refl}
use Rattle.theory.proofs.Keys.{key_promise, ahead_key}
use Rattle.theory.proofs.Paths.{Fitting}
use Rattle.theory.proofs.Table.{Table, Settled, choice_below}
use Rattle.theory.proofs.Opening.{Opening, take_first, opened}
use Rattle.theory.proofs.Standing.{FloorAt, Standing, at_work}

-- the value x is at most whatever floor is Going to come
pub data Under {V : Type 0} {tally : Ghosts V} (P : Problem tally) (recs : List (Record V)) (x : V) : End → Type 0 where
  under_waiting : ((j : ℕ) (q : Record V) → At recs j q → q.mark ≡ Waiting → Le tally x q.promise) → Under P recs x Going
  under_plan : {i : ℕ} → Under P recs x (Planned i)
  under_none : Under P recs x Exhausted
  under_full : {i : ℕ} {c : Record V} → At recs i c → Le tally x c.promise → Under P recs x (Filled i)

-- a reply apart from its openings
abbrev pub uncounted : {V : Type 0} → Reply V → Reply V
uncounted r = record { kind = r.kind; opened = 0; value = r.value; length = r.length }

pub data Said {V : Type 0} {tally : Ghosts V} (P : Problem tally) (recs : List (Record V)) (end : End) (r : Reply V) : Type 0 where
  end_told : Tells P recs end (uncounted r) → Said P recs end r
  floor_told : r.kind ≡ Pending → FloorAt P r.value → Under P recs r.value end → Said P recs end r

pub data Listed {V : Type 0} (recs : List (Record V)) (l : List ℕ) : End → Type 0 where
  listed : {i : ℕ} → Trail recs i l → Listed recs l (Planned i)

pub trail_same : {V : Type 0} {recs : List (Record V)} {i : ℕ} {l k : List ℕ} → Trail recs i l → Trail recs i k → l ≡ k
trail_same root root = refl
trail_same root (up nz a t) = absurd (nz refl)
trail_same (up nz a t) root = absurd (nz refl)
trail_same {recs = recs} (up {r = r} {l = l} nz a t) (up {r = q} {l = k} nz' b u) =
    let same = at_same b a in
    let rest : l ≡ k = trail_same t (subst (λ x. Trail recs x.parent k) same u) in
    let e = ap (λ x. x.via) same in cc

module _ {V : Type 0} {tally : Ghosts V} {P : Problem tally} where
  tells_uncounted : {recs : List (Record V)} {end : End} {r : Reply V} → Tells P recs end r → Tells P recs end (uncounted r)
  tells_uncounted (tells_plan a t) = tells_plan a t
  tells_uncounted tells_none = tells_none
  tells_uncounted (tells_full a) = tells_full a

  said_more : {recs : List (Record V)} {end : End} {r : Reply V} → Said P recs end r → Said P recs end (one_more r)
  said_more (end_told t) = end_told t
  said_more (floor_told e f u) = floor_told e f u

module _ {V : Type 0} {tally : Ghosts V} {P : Problem tally} (F : Fitting P) where
  abbrev laws : Laws tally
  laws = F.laws

  -- a run that filled the table tells so again
  pub overflow_tells : {recs : List (Record V)} {i : ℕ} {c : Record V} {mid : List (Record V)} → Table P recs → Settled P recs → Chosen tally recs i c
      → Outside P c → Overflows P recs i c mid → Tells P mid (Filled i) (tell_full c)
  overflow_tells table settled ch w (overflows before mv lead none room) = tells_full (take_first F table settled ch w before).0

  pub run_says : {n : ℕ} {recs later : List (Record V)} {end end' : End} {r : Reply V} → Standing P recs end → Runs P n recs end r later end'
      → Said P later end' r
  run_says s (again t) = end_told (tells_uncounted t)
  run_says s (runs_out none) = end_told tells_none
  run_says s (finds ch w t) = end_told (tells_plan ch.at t)
  run_says (at_work table settled) (pauses ch w) =
      floor_told refl (record { below = λ good costs. choice_below F table settled ch good costs })
      (under_waiting (λ j q a b. key_promise laws (ahead_key laws (ch.least j q a b))))
  run_says (at_work table settled) (fills ch w o) = end_told (overflow_tells table settled ch w o)
  run_says (at_work table settled) (goes_on ch w o rest) =
      let next = opened F table settled ch w o in said_more (run_says (at_work next.0 next.1) rest)

  -- after an opening every waiting record promises at least what the choice did
  open_under : {recs : List (Record V)} {i : ℕ} {c : Record V} {x : V} {mid : List (Record V)} → Table P recs → Settled P recs → Chosen tally recs i c
      → Outside P c → Opens P recs i c mid → Under P recs x Going → Under P mid x Going
  open_under {i = i} {c = c} {x = x} table settled ch w (opens {mid = mid} {q = q} all at) (under_waiting u) =
      under_waiting (λ j r a b. le_trans laws (subst (λ y. Le tally x y.promise) (at_same so_far.0 at) (u i c ch.at ch.waits))
      (key_promise laws ((opened F table settled ch w (opens all at)).0.ordered (put_here (shutting q) at) a refl b)))
    where
      so_far : At mid i c × Opening P (put mid i (shutting c)) i (shutting c) (length P.draft.moves.now)
      so_far = take_first F table settled ch w all

  overflow_under : {recs : List (Record V)} {i : ℕ} {c : Record V} {x : V} {mid : List (Record V)} → Table P recs → Settled P recs → Chosen tally recs i c
      → Outside P c → Overflows P recs i c mid → Under P recs x Going → Under P mid x (Filled i)
  overflow_under {i = i} {c = c} table settled ch w (overflows before mv lead none room) (under_waiting u) =
      under_full (take_first F table settled ch w before).0 (u i c ch.at ch.waits)

  -- an older floor stays below what is to come
  pub run_under : {n : ℕ} {recs later : List (Record V)} {end end' : End} {r : Reply V} {x : V} → Standing P recs end → Runs P n recs end r later end'
      → Under P recs x end → Under P later x end'
  run_under s (again t) u = u
  run_under s (runs_out none) u = under_none
  run_under s (finds ch w t) u = under_plan
  run_under s (pauses ch w) u = u
  run_under (at_work table settled) (fills ch w o) u = overflow_under table settled ch w o u
  run_under (at_work table settled) (goes_on ch w o rest) u =
      let next = opened F table settled ch w o in run_under (at_work next.0 next.1) rest (open_under table settled ch w o u)

  -- once ended, a search stays as it is
  pub ended_same : {n : ℕ} {recs later : List (Record V)} {end end' : End} {r s : Reply V} → Tells P recs end s → Runs P n recs end r later end'
      → Tells P later end' s
  ended_same t (again t') = t
  ended_same t (runs_out none) = elim t [ ]
  ended_same t (finds ch w t') = elim t [ ]
  ended_same t (pauses ch w) = elim t [ ]
  ended_same t (fills ch w o) = elim t [ ]
  ended_same t (goes_on ch w o rest) = elim t [ ]

  pub run_keeps : {n : ℕ} {recs later : List (Record V)} {end end' : End} {r s : Reply V} → Standing P recs end → Runs P n recs end r later end'
      → Said P recs end s → Said P later end' s
  run_keeps st run (end_told t) = end_told (ended_same t run)
  run_keeps st run (floor_told e f u) = floor_told e f (run_under st run u)

  -- a floor told by a run is no lower than an older one
  tells_floor : {recs : List (Record V)} {end : End} {r : Reply V} {x : V} → Tells P recs end r → Under P recs x end → Floor r → Le tally x r.value
  tells_floor (tells_plan a t) u (inl e) = impossible (cc)
  tells_floor (tells_plan a t) u (inr e) = impossible (cc)
  tells_floor tells_none u (inl e) = impossible (cc)
  tells_floor tells_none u (inr e) = impossible (cc)
  tells_floor {x = x} (tells_full a) (under_full b h) f = subst (λ c. Le tally x c.promise) (at_same b a) h

  pub new_floor : {n : ℕ} {recs later : List (Record V)} {end end' : End} {r : Reply V} {x : V} → Standing P recs end → Runs P n recs end r later end'
      → Under P recs x end → Floor r → Le tally x r.value
  new_floor s (again t) u f = tells_floor t u f
  new_floor {recs = recs} s (runs_out none) u f = tells_floor {recs = recs} tells_none under_none f
  new_floor s (finds ch w t) u f = tells_floor (tells_plan ch.at t) under_plan f
  new_floor s (pauses {i = i} {c = c} ch w) (under_waiting u) f = u i c ch.at ch.waits
  new_floor (at_work table settled) (fills {i = i} {c = c} ch w o) (under_waiting u) f = u i c ch.at ch.waits
  new_floor (at_work table settled) (goes_on ch w o rest) u f =
      let next = opened F table settled ch w o in new_floor (at_work next.0 next.1) rest (open_under table settled ch w o u) f

  tells_under : {recs : List (Record V)} {end : End} {r : Reply V} → Tells P recs end r → Floor r → Under P recs r.value end
  tells_under (tells_plan a t) f = under_plan
  tells_under tells_none f = under_none
  tells_under (tells_full a) f = under_full a (le_refl laws)

  pub said_under : {recs : List (Record V)} {end : End} {r : Reply V} → Said P recs end r → Floor r → Under P recs r.value end
  said_under (end_told t) f = tells_under t f
  said_under (floor_told e l u) f = u

  pub list_keeps : {n : ℕ} {recs later : List (Record V)} {end end' : End} {r : Reply V} {l : List ℕ} → Runs P n recs end r later end'
      → Listed recs l end → Listed later l end'
  list_keeps (again t) b = b
  list_keeps (runs_out none) b = elim b [ ]
  list_keeps (finds ch w t) b = elim b [ ]
  list_keeps (pauses ch w) b = elim b [ ]
  list_keeps (fills ch w o) b = elim b [ ]
  list_keeps (goes_on ch w o rest) b = elim b [ ]
