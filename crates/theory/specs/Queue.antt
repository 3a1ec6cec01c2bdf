-- A queue: a search is made, and then called; each call has the answer that the rules give it.
use Rattle.std.specs.Prelude.{◌≡◌, ℕ, ◌+◌, ◌<◌, ◌≤◌, true, false, List, [], ◌∷◌, length}
use Rattle.facts.specs.declared.sets.FactSet.{FactSet}
use Rattle.tasks.specs.Places.{At}
use Rattle.costs.specs.declared.tally.Tally.{Ghosts}
use Rattle.bounds.specs.Sound.{OverdrawnIn}
use Rattle.theory.specs.Problem.{Problem, Lent, handed, Usable, Roomy}
use Rattle.theory.specs.Records.{First}
use Rattle.theory.specs.Runs.{Trail, Runs}
use Rattle.theory.specs.declared.record.Record.{Record}
use Rattle.theory.specs.declared.refusal.Refusal.{Refusal}
use Rattle.theory.specs.declared.refusal.Refusal.TheVariants.{TableSize, Misfit, Overdrawn, GrantTooLarge, NotPlanned, ListTooShort}
use Rattle.theory.specs.declared.reply.End.{End}
use Rattle.theory.specs.declared.reply.End.TheVariants.{Going, Planned, Exhausted, Filled}
use Rattle.theory.specs.declared.reply.Reply.{Reply}

-- a run with a grant and a bound, or a read-out into a list of so many places
pub data Call (V : Type 0) : Type 0 where
  run : ℕ → Lent V → Call V
  read_out : ℕ → Call V

-- what a run tells, what a read-out writes into the front of the list, or why either is refused
pub data Answer (V : Type 0) : Type 0 where
  ran : Reply V → Answer V
  read : List ℕ → Answer V
  refused : Refusal → Answer V

-- a search whose make was refused keeps that refusal; any other has its records and its end
pub data State (V : Type 0) : Type 0 where
  kept : Refusal → State V
  holding : List (Record V) → End → State V

-- a bound that cannot be used: it does not fit, or it fits and is overdrawn
pub data Unusable {V : Type 0} {tally : Ghosts V} (P : Problem tally) (b : Lent V) : Refusal → Type 0 where
  misfit : b.fits ≡ false → Unusable P b Misfit
  overdrawn : b.fits ≡ true → OverdrawnIn tally P.draft b.share → Unusable P b Overdrawn

-- a search as it is made
pub data Makes {V : Type 0} {tally : Ghosts V} (P : Problem tally) : State V → Type 0 where
  no_place : P.room ≡ 0 → Makes P (kept TableSize)
  too_many_places : 65535 < P.room → Makes P (kept TableSize)
  bad_bound : {why : Refusal} → Roomy P → Unusable P P.bound why → Makes P (kept why)
  fresh : {recs : List (Record V)} → Roomy P → Usable P P.bound → First P recs → Makes P (holding recs Going)

-- why a run is refused
pub data RunRefused {V : Type 0} {tally : Ghosts V} (P : Problem tally) (n : ℕ) (b : Lent V) : Refusal → Type 0 where
  grant_too_large : 65536 < n → RunRefused P n b GrantTooLarge
  bad_bound : {why : Refusal} → n ≤ 65536 → Unusable P b why → RunRefused P n b why

-- why a read-out is refused
pub data ReadRefused {V : Type 0} (recs : List (Record V)) (places : ℕ) : End → Refusal → Type 0 where
  not_ended : ReadRefused recs places Going NotPlanned
  ended_with_none : ReadRefused recs places Exhausted NotPlanned
  ended_with_full : {i : ℕ} → ReadRefused recs places (Filled i) NotPlanned
  list_too_short : {i : ℕ} {l : List ℕ} → Trail recs i l → places < length l → ReadRefused recs places (Planned i) ListTooShort

-- a call, its answer, and how the search stands after it
pub data Answers {V : Type 0} {tally : Ghosts V} (P : Problem tally) : State V → Call V → Answer V → State V → Type 0 where
  still_kept : {why : Refusal} {call : Call V} → Answers P (kept why) call (refused why) (kept why)
  runs : {n : ℕ} {b : Lent V} {recs later : List (Record V)} {end last : End} {r : Reply V} → n ≤ 65536 → Usable P b
      → Runs (handed P b) n recs end r later last → Answers P (holding recs end) (run n b) (ran r) (holding later last)
  run_refused : {n : ℕ} {b : Lent V} {recs : List (Record V)} {end : End} {why : Refusal} → RunRefused P n b why
      → Answers P (holding recs end) (run n b) (refused why) (holding recs end)
  reads : {i places : ℕ} {recs : List (Record V)} {l : List ℕ} → Trail recs i l → length l ≤ places
      → Answers P (holding recs (Planned i)) (read_out places) (read l) (holding recs (Planned i))
  read_refused : {places : ℕ} {recs : List (Record V)} {end : End} {why : Refusal} → ReadRefused recs places end why
      → Answers P (holding recs end) (read_out places) (refused why) (holding recs end)

-- a call with its answer
pub data Event (V : Type 0) : Type 0 where
  asked : Call V → Answer V → Event V

-- what happened, the latest first, and how the search stands then
pub data Queue {V : Type 0} {tally : Ghosts V} (P : Problem tally) : List (Event V) → State V → Type 0 where
  made : {new : State V} → Makes P new → Queue P [] new
  and_call : {es : List (Event V)} {before after : State V} {call : Call V} {answer : Answer V} → Queue P es before
      → Answers P before call answer after → Queue P (asked call answer ∷ es) after

-- another bound with the same estimates
abbrev pub SameEstimates : {V : Type 0} {tally : Ghosts V} → Problem tally → Lent V → Type 0
SameEstimates P b = (s : FactSet) → b.estimate s ≡ P.bound.estimate s

-- every run that is not refused is handed a bound with the estimates of the one that make was handed
abbrev pub Steady : {V : Type 0} {tally : Ghosts V} → Problem tally → List (Event V) → Type 0
Steady {V} P es = (i n : ℕ) (b : Lent V) (r : Reply V) → At es i (asked (run n b) (ran r)) → SameEstimates P b

-- the sum of the grants of the runs that were not refused
abbrev pub asks : {V : Type 0} → Call V → ℕ
asks (run n b) = n
asks (read_out places) = 0

abbrev pub grant_of : {V : Type 0} → Event V → ℕ
grant_of (asked call (ran r)) = asks call
grant_of (asked call (read l)) = 0
grant_of (asked call (refused why)) = 0

abbrev pub granted : {V : Type 0} → List (Event V) → ℕ
granted [] = 0
granted (e ∷ es) = granted es + grant_of e
