-- The answer to a call, as the rules have it.
use Rattle.std.proofs.Common.{◌≡◌, ℕ, ◌<◌, ◌≤◌, List, length, Ok, Err, Result, sym, refl, subst}
use Rattle.costs.specs.declared.tally.Tally.{Ghosts}
use Rattle.theory.specs.Problem.{Problem}
use Rattle.theory.specs.Promise.{records_of}
use Rattle.theory.specs.Queue.{Call, read_out, Answer, read, refused, holding, ReadRefused, not_ended, ended_with_none, ended_with_full, list_too_short}
use Rattle.theory.specs.Queue.{Answers, still_kept, reads, read_refused}
use Rattle.theory.specs.Runs.{Trail}
use Rattle.theory.specs.declared.record.Record.{Record}
use Rattle.theory.specs.declared.refusal.Refusal.{Refusal}
use Rattle.theory.specs.declared.refusal.Refusal.TheVariants.{NotPlanned, ListTooShort}
use Rattle.theory.specs.declared.reply.End.{End}
use Rattle.theory.specs.declared.reply.End.TheVariants.{Going, Planned, Exhausted, Filled}
use Rattle.records.specs.Tables.{Untouched}
use Rattle.runs.specs.Trails.{Traced, Sane}
use Rattle.runs.proofs.Climbing.{found}
use Rattle.search.specs.States.{state_by}

module _ {V : Type 0} {tally : Ghosts V} (P : Problem tally) {made : Result (Unit {0}) Refusal} where
  -- a search whose make was refused
  pub keeps_number : (recs : List (Record V)) (end : End) {call : Call V} {why : Refusal} → made ≡ Err why
      → Answers P (state_by made recs end) call (refused why) (state_by made recs end)
  keeps_number recs end {call} {why} e = subst (λ o. Answers P (state_by o recs end) call (refused why) (state_by o recs end)) (sym e) still_kept

  -- a search that was made
  pub by_rules : {recs later : List (Record V)} {end last : End} {call : Call V} {a : Answer V} → made ≡ Ok tt
      → Answers P (holding recs end) call a (holding later last) → Answers P (state_by made recs end) call a (state_by made later last)
  by_rules {recs} {later} {end} {last} {call} {a} e answers = subst (λ o. Answers P (state_by o recs end) call a (state_by o later last)) (sym e) answers

-- a search that has ended with a plan
module _ {V : Type 0} {tally : Ghosts V} (P : Problem tally) {recs : List (Record V)} {end : End} {i places : ℕ} {l : List ℕ} (is : end ≡ Planned i) (t : Trail recs i l) where
  pub reads_list : length l ≤ places → Answers P (holding recs end) (read_out places) (read l) (holding recs end)
  reads_list enough = subst (λ e. Answers P (holding recs e) (read_out places) (read l) (holding recs e)) (sym is) (reads t enough)

  pub too_short : places < length l → Answers P (holding recs end) (read_out places) (refused ListTooShort) (holding recs end)
  too_short less = subst (λ e. Answers P (holding recs e) (read_out places) (refused ListTooShort) (holding recs e)) (sym is) (read_refused (list_too_short t less))

-- its trail is known
pub plan_traced : {V : Type 0} {recs : List (Record V)} {end : End} {i : ℕ} → end ≡ Planned i → ∥ Sane recs end ∥₁ → Traced recs i
plan_traced {recs = recs} is known = found recs (subst (λ e. ∥ Sane recs e ∥₁) is known)

pub no_plan : {V : Type 0} {recs : List (Record V)} {places : ℕ} (end : End) → ((i : ℕ) → end ≡ Planned i → ⊥) → ReadRefused recs places end NotPlanned
no_plan Going ne = not_ended
no_plan (Planned i) ne = absurd (ne i refl)
no_plan Exhausted ne = ended_with_none
no_plan (Filled i) ne = ended_with_full

-- the records of a search that was made are those that it holds
module _ {V : Type 0} {made : Result (Unit {0}) Refusal} (e : made ≡ Ok tt) where
  pub past_records : {before after : List (Record V)} (recs : List (Record V)) (end : End) → Untouched (length recs) before after
      → Untouched (length (records_of (state_by made recs end))) before after
  past_records {before} {after} recs end same = subst (λ o. Untouched (length (records_of (state_by o recs end))) before after) (sym e) same

  pub more_records : (recs later : List (Record V)) (end last : End) → length recs ≤ length later
      → length (records_of (state_by made recs end)) ≤ length (records_of (state_by made later last))
  more_records recs later end last more = subst (λ o. length (records_of (state_by o recs end)) ≤ length (records_of (state_by o later last))) (sym e) more

pub untouched : {V : Type 0} {n : ℕ} {table : List (Record V)} → Untouched n table table
untouched = record { size = refl; rest = refl }
