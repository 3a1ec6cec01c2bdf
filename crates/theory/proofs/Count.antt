-- How many records are shut.
use Rattle.std.proofs.Common.{◌≡◌, ℕ, suc, ◌+◌, ◌<◌, ◌≤◌, List, [], ◌∷◌, ◌++◌, length, set as put, refl, ap, ◌∙◌, arith}
use Rattle.tasks.specs.Places.{At, here, there}
use Rattle.tasks.specs.declared.moves.Move.{Move}
use Rattle.tasks.proofs.Places.{at_same}
use Rattle.costs.specs.declared.tally.Tally.{Ghosts}
use Rattle.theory.specs.Problem.{Problem}
use Rattle.theory.specs.Records.{Chosen, shutting}
use Rattle.theory.specs.Openings.{child, Takes, not_regressing, passed_over, bettered, no_better, shut_already, added, TakesFirst, none_yet, and_next, Opens}
use Rattle.theory.specs.Openings.{opens, Overflows, overflows}
use Rattle.theory.specs.Runs.{Tells, tells_plan, tells_none, tells_full, Outside, Runs, again, runs_out, finds, pauses, fills, goes_on}
use Rattle.theory.specs.Promise.{one_if_shut, shuts}
use Rattle.theory.specs.declared.record.Mark.{Mark}
use Rattle.theory.specs.declared.record.Mark.TheVariants.{Waiting, Shut}
use Rattle.theory.specs.declared.record.Record.{Record}
use Rattle.theory.specs.declared.reply.End.{End}
use Rattle.theory.specs.declared.reply.End.TheVariants.{Going}
use Rattle.theory.specs.declared.reply.Kind.TheVariants.{Pending}
use Rattle.theory.specs.declared.reply.Reply.{Reply}
use Rattle.theory.proofs.Basics.{impossible}
use Rattle.theory.proofs.Order.{Laws}
use Rattle.theory.proofs.Paths.{Fitting}
use Rattle.theory.proofs.Table.{Table, Settled}
use Rattle.theory.proofs.Opening.{take_first, opened}
use Rattle.theory.proofs.Standing.{Standing, at_work}

one_small : (m : Mark) → one_if_shut m ≤ 1
one_small Shut = omega arith
one_small Waiting = omega arith

module _ {V : Type 0} where
  pub put_shuts : {recs : List (Record V)} {j : ℕ} {q : Record V} (n : Record V) → At recs j q
      → shuts (put recs j n) + one_if_shut q.mark ≡ shuts recs + one_if_shut n.mark
  put_shuts n here = omega arith
  put_shuts n (there a) = let h = put_shuts n a in omega arith

  pub add_shuts : (recs : List (Record V)) (n : Record V) → shuts (recs ++ (n ∷ [])) ≡ shuts recs + one_if_shut n.mark
  add_shuts [] n = omega arith
  add_shuts (r ∷ recs) n = let h = add_shuts recs n in omega arith

  pub few_shuts : (recs : List (Record V)) → shuts recs ≤ length recs
  few_shuts [] = omega arith
  few_shuts (r ∷ recs) = omega (arith, few_shuts recs, one_small r.mark)

  pub waiting_shuts : {recs : List (Record V)} {j : ℕ} {q : Record V} → At recs j q → q.mark ≡ Waiting → shuts recs < length recs
  waiting_shuts {recs = []} a w = elim a [ ]
  waiting_shuts {recs = r ∷ recs} here w = omega (arith, few_shuts recs, ap one_if_shut w)
  waiting_shuts {recs = r ∷ recs} (there a) w = omega (arith, waiting_shuts a w, one_small r.mark)

-- a run that tells Pending has used up its grant, and a record waits
pub record Paused {V : Type 0} (n : ℕ) (r : Reply V) (later : List (Record V)) (end : End) : Type 0 where
  pub going : end ≡ Going
  pub all : r.opened ≡ n
  pub number : ℕ
  pub rec : Record V
  pub at : At later number rec
  pub waits : rec.mark ≡ Waiting

module _ {V : Type 0} {tally : Ghosts V} {P : Problem tally} where
  take_shuts : {recs : List (Record V)} {i k : ℕ} {c : Record V} {m : Move} {later : List (Record V)} → Takes P recs i c k m later → shuts later ≡ shuts recs
  take_shuts (not_regressing n) = refl
  take_shuts (passed_over g n) = refl
  take_shuts {i = i} {k = k} {c = c} {m = m} (bettered {t = t} {e = e} lead found w h) =
      omega (arith, put_shuts (child P i c k m t e) found.at, ap one_if_shut w)
  take_shuts (no_better lead found w h) = refl
  take_shuts (shut_already lead found s) = refl
  take_shuts {recs = recs} {i = i} {k = k} {c = c} {m = m} (added {t = t} {e = e} lead none room) =
      omega (arith, add_shuts recs (child P i c k m t e))

  first_shuts : {recs : List (Record V)} {i : ℕ} {c : Record V} {k : ℕ} {later : List (Record V)} → TakesFirst P recs i c k later → shuts later ≡ shuts recs
  first_shuts none_yet = refl
  first_shuts (and_next before mv step) = take_shuts step ∙ first_shuts before

  overflow_shuts : {recs : List (Record V)} {i : ℕ} {c : Record V} {later : List (Record V)} → Overflows P recs i c later → shuts later ≡ shuts recs
  overflow_shuts (overflows before mv lead none room) = first_shuts before

  tells_no_opening : {recs : List (Record V)} {end : End} {r : Reply V} → Tells P recs end r → r.opened ≡ 0
  tells_no_opening (tells_plan a t) = refl
  tells_no_opening tells_none = refl
  tells_no_opening (tells_full a) = refl

  tells_not_pending : {recs : List (Record V)} {end : End} {r : Reply V} → Tells P recs end r → r.kind ≡ Pending → ⊥
  tells_not_pending (tells_plan a t) e = impossible (cc)
  tells_not_pending tells_none e = impossible (cc)
  tells_not_pending (tells_full a) e = impossible (cc)

  pub run_pending : {n : ℕ} {recs later : List (Record V)} {end end' : End} {r : Reply V} → Runs P n recs end r later end' → r.kind ≡ Pending
      → Paused n r later end'
  run_pending (again t) e = absurd (tells_not_pending t e)
  run_pending (runs_out n) e = impossible (cc)
  run_pending (finds ch w t) e = impossible (cc)
  run_pending (pauses {i = i} {c = c} ch w) e = record { going = refl; all = refl; number = i; rec = c; at = ch.at; waits = ch.waits }
  run_pending (fills ch w o) e = impossible (cc)
  run_pending (goes_on ch w o rest) e =
      let h = run_pending rest e in
      record { going = h.going; all = ap suc h.all; number = h.number; rec = h.rec; at = h.at; waits = h.waits }

module _ {V : Type 0} {tally : Ghosts V} {P : Problem tally} (F : Fitting P) where
  abbrev laws : Laws tally
  laws = F.laws

  open_shuts : {recs later : List (Record V)} {i : ℕ} {c : Record V} → Table P recs → Settled P recs → Chosen tally recs i c
      → Outside P c → Opens P recs i c later → shuts later ≡ suc (shuts recs)
  open_shuts {c = c} table settled chosen w (opens {q = q} all at) =
      let so_far = take_first F table settled chosen w all in
      omega (arith, put_shuts (shutting q) at, first_shuts all, ap (λ r. one_if_shut r.mark) (at_same at so_far.0), ap one_if_shut chosen.waits)

  -- a run shuts as many records as it counts openings
  pub run_shuts : {n : ℕ} {recs later : List (Record V)} {end end' : End} {r : Reply V} → Standing P recs end → Runs P n recs end r later end'
      → shuts later ≡ shuts recs + r.opened
  run_shuts s (again t) = omega (arith, tells_no_opening t)
  run_shuts s (runs_out none) = omega arith
  run_shuts s (finds ch w t) = omega arith
  run_shuts s (pauses ch w) = omega arith
  run_shuts s (fills ch w o) = omega (arith, overflow_shuts o)
  run_shuts (at_work table settled) (goes_on ch w o rest) =
      let next = opened F table settled ch w o in
      omega (arith, run_shuts (at_work next.0 next.1) rest, open_shuts table settled ch w o)
