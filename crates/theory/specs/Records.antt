-- The records of a new search, and which of them is the choice.
use Rattle.std.specs.Prelude.{◌≡◌, ℕ, ◌≤◌, List, [], ◌∷◌, ◌≢◌, None, Some}
use Rattle.tasks.specs.Places.{At}
use Rattle.costs.specs.declared.tally.Tally.{Ghosts}
use Rattle.theory.specs.Problem.{Problem, Lower}
use Rattle.theory.specs.declared.record.Mark.TheVariants.{Waiting, Shut}
use Rattle.theory.specs.declared.record.Record.{Record}

-- the record of the goal, whose estimate is e
abbrev pub goal_record : {V : Type 0} {tally : Ghosts V} → Problem tally → V → Record V
goal_record {tally = tally} P e = record { set = P.draft.goal; spent = tally.nil; promise = e; parent = 65535; via = 65535; mark = Waiting }

-- the records of a new search: none where the estimate of the goal is never
pub data First {V : Type 0} {tally : Ghosts V} (P : Problem tally) : List (Record V) → Type 0 where
  goal_waits : {e : V} → P.bound.estimate P.draft.goal ≡ Some e → First P (goal_record P e ∷ [])
  no_hope : P.bound.estimate P.draft.goal ≡ None → First P []

-- record r, number i, comes before record q, number j: by promise, then spent, then number
pub data Ahead {V : Type 0} (tally : Ghosts V) (r : Record V) (i : ℕ) (q : Record V) (j : ℕ) : Type 0 where
  by_promise : Lower tally r.promise q.promise → Ahead tally r i q j
  by_spent : r.promise ≡ q.promise → Lower tally r.spent q.spent → Ahead tally r i q j
  by_number : r.promise ≡ q.promise → r.spent ≡ q.spent → i ≤ j → Ahead tally r i q j

-- the choice is the first of the waiting records
pub record Chosen {V : Type 0} (tally : Ghosts V) (recs : List (Record V)) (i : ℕ) (c : Record V) : Type 0 where
  pub at : At recs i c
  pub waits : c.mark ≡ Waiting
  pub least : (j : ℕ) (q : Record V) → At recs j q → q.mark ≡ Waiting → Ahead tally c i q j

abbrev pub NoneWaits : {V : Type 0} → List (Record V) → Type 0
NoneWaits {V} recs = (j : ℕ) (q : Record V) → At recs j q → q.mark ≢ Waiting

abbrev pub shutting : {V : Type 0} → Record V → Record V
shutting r = record { set = r.set; spent = r.spent; promise = r.promise; parent = r.parent; via = r.via; mark = Shut }
