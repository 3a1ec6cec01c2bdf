-- A search as it is made.
use Rattle.std.proofs.Common.{◌≡◌, ℕ, zero, ◌≤◌, List, [], ◌∷◌, ◌++◌, length, Ok, Err, Result, Some, sym, refl, ap, ◌∙◌, subst, arith, MatchResult}
use Rattle.tasks.specs.Tasks.{draft_of}
use Rattle.tasks.specs.declared.task.Task.{Task}
use Rattle.tasks.proofs.Places.{at_less}
use Rattle.costs.specs.declared.tally.Tally.{Ghosts}
use Rattle.theory.specs.Problem.{Problem, Usable, Roomy}
use Rattle.theory.specs.Promise.{records_of}
use Rattle.theory.specs.Queue.{kept, Unusable, Makes, no_place, too_many_places, fresh}
use Rattle.theory.specs.Records.{goal_record, First, goal_waits}
use Rattle.theory.specs.declared.record.Record.{Record}
use Rattle.theory.specs.declared.refusal.Refusal.{Refusal}
use Rattle.theory.specs.declared.reply.End.{End}
use Rattle.theory.specs.declared.reply.End.TheVariants.{Going}
use Rattle.theory.proofs.Basics.{impossible}
use Rattle.records.specs.Tables.{Untouched, Added}
use Rattle.records.specs.declared.cells.Full.{Full}
use Rattle.runs.specs.Trails.{Thread, top, Threads}
use Rattle.search.specs.Parts as parts
use Rattle.search.specs.Parts.{SizedUp}
use Rattle.search.specs.States.{state_by}

-- one record, or none, has its trail
pub few_threads : {V : Type 0} (recs : List (Record V)) → length recs ≤ 1 → Threads recs
few_threads recs few = record {
  each = λ i q a. let h = at_less a in let z : i ≡ zero = omega arith in ([], subst (λ k. Thread recs k []) (sym z) top, omega arith);
}

-- a problem of the task's draft
module _ {V : Type 0} {tally : Ghosts V} (P : Problem tally) (task : Task) (of : P.draft ≡ draft_of task) where
  roomy_by : {r : Result (Unit {0}) Refusal} → SizedUp tally task P.bound P.room r → r ≡ Ok tt → Roomy P
  roomy_by (parts.no_place z) e = impossible (cc)
  roomy_by (parts.too_many h) e = impossible (cc)
  roomy_by (parts.roomy some few j) e = record { some = some; few = few }

  usable_by : {r : Result (Unit {0}) Refusal} → SizedUp tally task P.bound P.room r → r ≡ Ok tt → Usable P P.bound
  usable_by (parts.no_place z) e = impossible (cc)
  usable_by (parts.too_many h) e = impossible (cc)
  usable_by (parts.roomy some few j) e = subst (λ x. MatchResult x (λ u. Usable P P.bound) (Unusable P P.bound)) e (j.tells P of)

  refused_by : {r : Result (Unit {0}) Refusal} {why : Refusal} → SizedUp tally task P.bound P.room r → r ≡ Err why → Makes P (kept why)
  refused_by (parts.no_place z) e = subst (λ o. Makes P (state_by o [] Going)) e (no_place z)
  refused_by (parts.too_many h) e = subst (λ o. Makes P (state_by o [] Going)) e (too_many_places h)
  refused_by (parts.roomy some few j) e =
      Makes.bad_bound (record { some = some; few = few }) (subst (λ x. MatchResult x (λ u. Usable P P.bound) (Unusable P P.bound)) e (j.tells P of))

  pub is_roomy : (r : Result (Unit {0}) Refusal) → SizedUp tally task P.bound P.room r → r ≡ Ok tt → Roomy P
  is_roomy r sized e = roomy_by sized e

  pub is_made : (r : Result (Unit {0}) Refusal) {recs : List (Record V)} → SizedUp tally task P.bound P.room r → (r ≡ Ok tt → 1 ≤ P.room → First P recs)
      → Makes P (state_by r recs Going)
  is_made (Ok u) sized first = let roomy = roomy_by sized refl in fresh roomy (usable_by sized refl) (first refl roomy.some)
  is_made (Err why) sized first = refused_by sized refl

-- a search that is refused has no records
pub past_first : {V : Type 0} (r : Result (Unit {0}) Refusal) (recs : List (Record V)) (end : End) {before after : List (Record V)} → ((why : Refusal) → r ≡ Err why → recs ≡ [])
    → Untouched (length recs) before after → Untouched (length (records_of (state_by r recs end))) before after
past_first (Ok u) recs end none same = same
past_first (Err why) recs end {before} {after} none same = subst (λ l. Untouched (length l) before after) (none why refl) same

module _ {V : Type 0} {tally : Ghosts V} (P : Problem tally) where
  pub goal_first : {e : V} {r : Record V} → P.bound.estimate P.draft.goal ≡ Some e → r ≡ goal_record P e → First P (r ∷ [])
  goal_first hope is = subst (λ x. First P (x ∷ [])) (sym is) (goal_waits hope)

pub first_added : {V : Type 0} {room : ℕ} {recs : List (Record V)} (later : List (Record V)) (new : Record V) (r : Result (Unit {0}) Full) → Added room recs later new r → recs ≡ []
    → 1 ≤ room → later ≡ new ∷ []
first_added later new (Ok u) h none some = h.1 ∙ ap (λ l. l ++ (new ∷ [])) none
first_added later new (Err f) h none some = absurd (omega (arith, h.0, ap length none))
