-- A make and a call have one outcome each, refusals among them.
use Rattle.std.proofs.Common.{◌≡◌, ℕ, zero, suc, ◌<◌, ◌≤◌, Bool, true, false, ◌⊎◌, List, [], ◌∷◌, length, sym, refl, ap, ◌∙◌, subst, inl, inr, arith}
use native.Mathlib.Decide.{ℕ_discrete, dec_lt}
use Rattle.facts.proofs.Tests.{not_true_false}
use Rattle.tasks.specs.Places.{At, here, there}
use Rattle.tasks.specs.declared.moves.Move.{Move}
use Rattle.costs.specs.Laws.{Lawful}
use Rattle.costs.specs.Lists.{charge_of}
use Rattle.costs.specs.declared.tally.Tally.{Ghosts}
use Rattle.theory.specs.Problem.{Problem, Lent, Usable}
use Rattle.theory.specs.Records.{goal_record, First, goal_waits, no_hope}
use Rattle.theory.specs.Runs.{Trail, Runs}
use Rattle.theory.specs.Queue.{runs, Call, run, read_out, Answer, ran, read, refused, State, kept, holding, Unusable, misfit, overdrawn, Makes, no_place}
use Rattle.theory.specs.Queue.{too_many_places, fresh, RunRefused, grant_too_large, ReadRefused, not_ended, ended_with_none, ended_with_full, list_too_short}
use Rattle.theory.specs.Queue.{Answers, still_kept, run_refused, reads, read_refused, Event, SameEstimates, granted}
use Rattle.theory.specs.Promise.{records_of, Alike, OnlySumCounts, OneAnswer, EveryCallAnswered, EveryMakeDecided}
use Rattle.theory.specs.declared.record.Record.{Record}
use Rattle.theory.specs.declared.refusal.Refusal.{Refusal}
use Rattle.theory.specs.declared.refusal.Refusal.TheVariants.{TableSize, Misfit, Overdrawn, GrantTooLarge, NotPlanned, ListTooShort}
use Rattle.theory.specs.declared.reply.End.{End}
use Rattle.theory.specs.declared.reply.End.TheVariants.{Going, Planned, Exhausted, Filled}
use Rattle.theory.specs.declared.reply.Reply.{Reply}
use Rattle.theory.proofs.Basics.{impossible, hoped_or_not}
use Rattle.theory.proofs.Order.{Laws}
use Rattle.theory.proofs.Paths.{Fitting}
use Rattle.theory.proofs.Table.{rooted_trail}
use Rattle.theory.proofs.Standing.{Standing, at_work, found_plan, gave_up, overfull}
use Rattle.theory.proofs.Told.{trail_same}
use Rattle.theory.proofs.Kept.{as_made, as_handed, Grown, Turned, Stood, stood, turned_away, at_hand}
use Rattle.theory.proofs.Respond.{respond}
use Rattle.theory.proofs.Same.{first_same, runs_same}
use Rattle.theory.proofs.Join.{records_same, run_alike}

-- whether some move fails a test
over_or_not : (moves : List Move) (test : ℕ → Move → Bool) → ((k : ℕ) × (m : Move) × At moves k m × (test k m ≡ false))
    ⊎ ((k : ℕ) × (m : Move) × At moves k m × (test k m ≡ false) → ⊥)
over_or_not [] test = inr (λ o. elim o.2 [ ])
over_or_not (x ∷ moves) test = with_first (test zero x) refl (over_or_not moves (λ k. test (suc k)))
  where
    with_first : (b : Bool) → test zero x ≡ b
        → ((k : ℕ) × (m : Move) × At moves k m × (test (suc k) m ≡ false)) ⊎ ((k : ℕ) × (m : Move) × At moves k m × (test (suc k) m ≡ false) → ⊥)
        → ((k : ℕ) × (m : Move) × At (x ∷ moves) k m × (test k m ≡ false)) ⊎ ((k : ℕ) × (m : Move) × At (x ∷ moves) k m × (test k m ≡ false) → ⊥)
    with_first false e rest = inl (zero, x, here, e)
    with_first true e (inl o) = inl (suc o.0, o.1, there o.2, o.3)
    with_first true e (inr none) = inr (λ o. each o.2 o.3)
      where
        each : {k : ℕ} {m : Move} → At (x ∷ moves) k m → test k m ≡ false → ⊥
        each here fails = not_true_false (sym fails ∙ e)
        each {k = suc k} {m = m} (there a) fails = none (k, m, a, fails)

module _ {V : Type 0} {tally : Ghosts V} (P : Problem tally) where
  usable_or_not : (b : Lent V) → Usable P b ⊎ ((why : Refusal) × Unusable P b why)
  usable_or_not b = by_fit b.fits refl
    where
      by_fit : (fits : Bool) → b.fits ≡ fits → Usable P b ⊎ ((why : Refusal) × Unusable P b why)
      by_fit false e = inr (Misfit, misfit e)
      by_fit true e = elim (over_or_not P.draft.moves.now (λ k m. tally.at_most (b.share k) (charge_of tally m))) [
        | inl o ↦ inr (Overdrawn, overdrawn e o)
        | inr none ↦ inl (record { fitting = e; drawn = none })
      ]

  unusable_same : {b : Lent V} {why other : Refusal} → Unusable P b why → Unusable P b other → why ≡ other
  unusable_same (misfit e) (misfit f) = refl
  unusable_same (misfit e) (overdrawn fit o) = absurd (not_true_false (sym e ∙ fit))
  unusable_same (overdrawn fit o) (misfit e) = absurd (not_true_false (sym e ∙ fit))
  unusable_same (overdrawn fit o) (overdrawn fit' o') = refl

  unusable_not : {b : Lent V} {why : Refusal} → Unusable P b why → Usable P b → ⊥
  unusable_not (misfit e) u = not_true_false (sym e ∙ u.fitting)
  unusable_not (overdrawn fit o) u = u.drawn o

  pub makes_same : {one other : State V} → Makes P one → Makes P other → one ≡ other
  makes_same (no_place z) (no_place y) = refl
  makes_same (no_place z) (too_many_places h) = refl
  makes_same (no_place z) (Makes.bad_bound roomy u) = absurd (omega (arith, roomy.some))
  makes_same (no_place z) (fresh roomy u f) = absurd (omega (arith, roomy.some))
  makes_same (too_many_places h) (no_place z) = refl
  makes_same (too_many_places h) (too_many_places g) = refl
  makes_same (too_many_places h) (Makes.bad_bound roomy u) = absurd (omega (arith, roomy.few))
  makes_same (too_many_places h) (fresh roomy u f) = absurd (omega (arith, roomy.few))
  makes_same (Makes.bad_bound roomy u) (no_place z) = absurd (omega (arith, roomy.some))
  makes_same (Makes.bad_bound roomy u) (too_many_places h) = absurd (omega (arith, roomy.few))
  makes_same (Makes.bad_bound roomy u) (Makes.bad_bound roomy' v) = ap kept (unusable_same u v)
  makes_same (Makes.bad_bound roomy u) (fresh roomy' v f) = absurd (unusable_not u v)
  makes_same (fresh roomy u f) (no_place z) = absurd (omega (arith, roomy.some))
  makes_same (fresh roomy u f) (too_many_places h) = absurd (omega (arith, roomy.few))
  makes_same (fresh roomy u f) (Makes.bad_bound roomy' v) = absurd (unusable_not v u)
  makes_same (fresh roomy u f) (fresh roomy' v g) = ap (λ recs. holding recs Going) (first_same f g)

  first_records : (recs : List (Record V)) × First P recs
  first_records = elim (hoped_or_not (P.bound.estimate P.draft.goal)) [
    | inl never ↦ ([], no_hope never)
    | inr hope ↦ (goal_record P hope.0 ∷ [], goal_waits hope.1)
  ]

  one_make : (new : State V) × Makes P new
  one_make = elim (ℕ_discrete P.room 0) [
    | yes z ↦ (kept TableSize, no_place z)
    | no nz ↦ elim (dec_lt 65535 P.room) [
      | yes h ↦ (kept TableSize, too_many_places h)
      | no nh ↦ elim (usable_or_not P.bound) [
        | inr bad ↦ (kept bad.0, Makes.bad_bound (record { some = omega (arith, nz); few = omega (arith, nh) }) bad.1)
        | inl good ↦ (holding first_records.0 Going, fresh (record { some = omega (arith, nz); few = omega (arith, nh) }) good first_records.1)
      ]
    ]
  ]

pub every_make_decided : {V : Type 0} {tally : Ghosts V} → EveryMakeDecided tally
every_make_decided P = let m = one_make P in record { new = m.0; makes = m.1; only = λ other n. makes_same P n m.1 }

-- a run is refused for one reason, or not at all
module _ {V : Type 0} {tally : Ghosts V} (P : Problem tally) where
  refusals_same : {n : ℕ} {b : Lent V} {why other : Refusal} → RunRefused P n b why → RunRefused P n b other → why ≡ other
  refusals_same (grant_too_large h) (grant_too_large g) = refl
  refusals_same (grant_too_large h) (RunRefused.bad_bound small u) = absurd (omega arith)
  refusals_same (RunRefused.bad_bound small u) (grant_too_large h) = absurd (omega arith)
  refusals_same (RunRefused.bad_bound small u) (RunRefused.bad_bound small' v) = unusable_same P u v

  not_refused : {n : ℕ} {b : Lent V} {why : Refusal} → n ≤ 65536 → Usable P b → RunRefused P n b why → ⊥
  not_refused small usable (grant_too_large h) = omega arith
  not_refused small usable (RunRefused.bad_bound small' u) = unusable_not P u usable

  refused_or_not : (n : ℕ) (b : Lent V) → ((n ≤ 65536) × Usable P b) ⊎ ((why : Refusal) × RunRefused P n b why)
  refused_or_not n b = elim (dec_lt 65536 n) [
    | yes h ↦ inr (GrantTooLarge, grant_too_large h)
    | no nh ↦ elim (usable_or_not P b) [
      | inl usable ↦ inl (omega (arith, nh), usable)
      | inr bad ↦ inr (bad.0, RunRefused.bad_bound (omega (arith, nh)) bad.1)
    ]
  ]

-- only the grant sum counts
module _ {V : Type 0} {tally : Ghosts V} {P : Problem tally} where
  kept_alike : {es fs : List (Event V)} {why other : Refusal} → Turned P es why → Turned P fs other → Alike P (kept why) (kept other)
  kept_alike t u = record {
    records = refl;
    answers = λ n b a d after then same one two. alike one two (makes_same P t.makes u.makes);
  }
    where
      alike : {why other : Refusal} {call : Call V} {a d : Answer V} {after then : State V} → Answers P (kept why) call a after
          → Answers P (kept other) call d then → ◌≡◌ {A = State V} (kept why) (kept other) → (a ≡ d) × (records_of after ≡ records_of then)
      alike {why} {other} still_kept still_kept e = let same : why ≡ other = cc in (ap refused same, refl)

  answers_alike : Fitting P → {g : ℕ} {recs others : List (Record V)} {end stop : End} → Grown P g recs end → Grown P g others stop
      → {n : ℕ} {b : Lent V} {a d : Answer V} {after then : State V} → (Usable P b → SameEstimates P b)
      → Answers P (holding recs end) (run n b) a after → Answers P (holding others stop) (run n b) d then → (a ≡ d) × (records_of after ≡ records_of then)
  answers_alike F one other {b = b} same (runs small usable go) (runs small' usable' went) =
      let both = run_alike F one other (as_made P b (same usable) go) (as_made P b (same usable) went) in (ap ran both.0, both.1)
  answers_alike F one other same (runs small usable go) (run_refused why) = absurd (not_refused P small usable why)
  answers_alike F one other same (run_refused why) (runs small usable go) = absurd (not_refused P small usable why)
  answers_alike F one other same (run_refused why) (run_refused why') = (ap refused (refusals_same P why why'), records_same F one other)

  held_alike : Fitting P → {g : ℕ} {recs others : List (Record V)} {end stop : End} → Grown P g recs end → Grown P g others stop
      → Alike P (holding recs end) (holding others stop)
  held_alike F one other =
      record { records = records_same F one other; answers = λ n b a d after then same x y. answers_alike F one other same x y }

  stood_alike : {es fs : List (Event V)} {one other : State V} → Stood P es one → Stood P fs other → granted es ≡ granted fs → Alike P one other
  stood_alike (turned_away t) (turned_away u) e = kept_alike t u
  stood_alike (turned_away t) (at_hand m F held) e = let same = makes_same P t.makes m in impossible (cc)
  stood_alike (at_hand m F held) (turned_away u) e = let same = makes_same P m u.makes in impossible (cc)
  stood_alike (at_hand m F held) (at_hand {recs = others} {end = stop} n G other) e =
      held_alike F held.grown (subst (λ g. Grown P g others stop) (sym e) other.grown)

pub only_sum_counts : {V : Type 0} {tally : Ghosts V} → Lawful tally.at_most tally.nil tally.join → OnlySumCounts tally
only_sum_counts {tally = tally} lawful P honest es fs one other q steady p steady' e =
    let laws : Laws tally = record { lawful = lawful } in stood_alike (stood laws honest q steady) (stood laws honest p steady') e

-- every call has one answer
module _ {V : Type 0} {tally : Ghosts V} {P : Problem tally} where
  kept_answers : (why : Refusal) (call : Call V) → OneAnswer P (kept why) call
  kept_answers why call = record { answer = refused why; after = kept why; answers = still_kept; only = λ other then a. sole a }
    where
      sole : {other : Answer V} {then : State V} → Answers P (kept why) call other then → (other ≡ refused why) × (then ≡ kept why)
      sole still_kept = (refl, refl)

  -- a run that is refused, and one that is not
  sole_refusal : {recs : List (Record V)} {end : End} {n : ℕ} {b : Lent V} {why : Refusal} {other : Answer V} {then : State V} → RunRefused P n b why
      → Answers P (holding recs end) (run n b) other then → (other ≡ refused why) × (then ≡ holding recs end)
  sole_refusal bad (runs small usable go) = absurd (not_refused P small usable bad)
  sole_refusal bad (run_refused why) = (ap refused (refusals_same P why bad), refl)

  sole_run : Fitting P → {recs later : List (Record V)} {end last : End} → Standing P recs end → {n : ℕ} {b : Lent V} {r : Reply V}
      → (Usable P b → SameEstimates P b) → n ≤ 65536 → Usable P b → Runs P n recs end r later last → {other : Answer V} {then : State V}
      → Answers P (holding recs end) (run n b) other then → (other ≡ ran r) × (then ≡ holding later last)
  sole_run F {later = later} st {b = b} same small usable go (runs {last = final} small' usable' went) =
      let h = runs_same F st (as_made P b (same usable) went) go in
      (ap ran h.replies, ap (λ x. holding x final) h.records ∙ ap (λ x. holding later x) h.ends)
  sole_run F st same small usable go (run_refused why) = absurd (not_refused P small usable why)

  run_answers : Fitting P → {recs : List (Record V)} {end : End} → Standing P recs end → (n : ℕ) (b : Lent V) → (Usable P b → SameEstimates P b)
      → OneAnswer P (holding recs end) (run n b)
  run_answers F {recs} {end} st n b same = elim (refused_or_not P n b) [
    | inr bad ↦ record {
      answer = refused bad.0;
      after = holding recs end;
      answers = run_refused bad.1;
      only = λ other then x. sole_refusal bad.1 x;
    }
    | inl good ↦ (let a = respond F n st in
        record {
          answer = ran a.reply;
          after = holding a.later a.last;
          answers = runs good.0 good.1 (as_handed P b (same good.1) a.runs);
          only = λ other then x. sole_run F st same good.0 good.1 a.runs x;
        })
  ]

  -- a read-out that is refused, and one that is not
  refusing : {recs : List (Record V)} {places : ℕ} {end : End} {why : Refusal} → ReadRefused recs places end why
      → ((other : Answer V) (then : State V) → Answers P (holding recs end) (read_out places) other then → (other ≡ refused why) × (then ≡ holding recs end))
      → OneAnswer P (holding recs end) (read_out places)
  refusing {recs} {places} {end} {why} bad sole = record { answer = refused why; after = holding recs end; answers = read_refused bad; only = sole }

  sole_going : {recs : List (Record V)} {places : ℕ} {other : Answer V} {then : State V} → Answers P (holding recs Going) (read_out places) other then
      → (other ≡ refused NotPlanned) × (then ≡ holding recs Going)
  sole_going (read_refused not_ended) = (refl, refl)

  sole_none : {recs : List (Record V)} {places : ℕ} {other : Answer V} {then : State V} → Answers P (holding recs Exhausted) (read_out places) other then
      → (other ≡ refused NotPlanned) × (then ≡ holding recs Exhausted)
  sole_none (read_refused ended_with_none) = (refl, refl)

  sole_full : {recs : List (Record V)} {places i : ℕ} {other : Answer V} {then : State V} → Answers P (holding recs (Filled i)) (read_out places) other then
      → (other ≡ refused NotPlanned) × (then ≡ holding recs (Filled i))
  sole_full (read_refused ended_with_full) = (refl, refl)

  sole_short : {recs : List (Record V)} {places i : ℕ} {l : List ℕ} {other : Answer V} {then : State V} → Trail recs i l → places < length l
      → Answers P (holding recs (Planned i)) (read_out places) other then → (other ≡ refused ListTooShort) × (then ≡ holding recs (Planned i))
  sole_short trail short (reads other enough) = absurd (omega (arith, ap length (trail_same other trail)))
  sole_short trail short (read_refused (list_too_short other h)) = (refl, refl)

  sole_list : {recs : List (Record V)} {places i : ℕ} {l : List ℕ} {other : Answer V} {then : State V} → Trail recs i l → length l ≤ places
      → Answers P (holding recs (Planned i)) (read_out places) other then → (other ≡ read l) × (then ≡ holding recs (Planned i))
  sole_list trail long (reads other enough) = (ap read (trail_same other trail), refl)
  sole_list trail long (read_refused (list_too_short other h)) = absurd (omega (arith, ap length (trail_same other trail)))

  list_answers : {recs : List (Record V)} {places i : ℕ} {l : List ℕ} → Trail recs i l → Dec (places < length l)
      → OneAnswer P (holding recs (Planned i)) (read_out places)
  list_answers trail (yes short) = refusing (list_too_short trail short) (λ other then x. sole_short trail short x)
  list_answers {recs} {places} {i} {l} trail (no long) = record {
    answer = read l;
    after = holding recs (Planned i);
    answers = reads trail (omega (arith, long));
    only = λ other then x. sole_list trail (omega (arith, long)) x;
  }

  read_answers : {recs : List (Record V)} {end : End} → Standing P recs end → (places : ℕ) → OneAnswer P (holding recs end) (read_out places)
  read_answers (at_work table settled) places = refusing not_ended (λ other then x. sole_going x)
  read_answers (found_plan {l = l} rooted w floor) places = list_answers (rooted_trail rooted) (dec_lt places (length l))
  read_answers (gave_up never) places = refusing ended_with_none (λ other then x. sole_none x)
  read_answers (overfull a floor crowd) places = refusing ended_with_full (λ other then x. sole_full x)

  stood_answers : {es : List (Event V)} {now : State V} → Stood P es now → (call : Call V)
      → ((n : ℕ) (b : Lent V) → call ≡ run n b → Usable P b → SameEstimates P b) → OneAnswer P now call
  stood_answers (turned_away {why = why} t) call same = kept_answers why call
  stood_answers (at_hand m F held) (run n b) same = run_answers F held.standing n b (same n b refl)
  stood_answers (at_hand m F held) (read_out places) same = read_answers held.standing places

pub every_call_answered : {V : Type 0} {tally : Ghosts V} → Lawful tally.at_most tally.nil tally.join → EveryCallAnswered tally
every_call_answered lawful P honest es now queue steady call same = stood_answers (stood (record { lawful = lawful }) honest queue steady) call same
