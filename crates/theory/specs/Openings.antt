-- The opening of a choice: one constructor for each thing that a move can come to.
use Rattle.std.specs.Prelude.{◌≡◌, ℕ, zero, suc, ◌<◌, ◌≤◌, List, [], ◌∷◌, ◌++◌, length, set as put, None, Some}
use Rattle.facts.specs.declared.sets.FactSet.{FactSet}
use Rattle.tasks.specs.Moves.{Regresses}
use Rattle.tasks.specs.Places.{At}
use Rattle.tasks.specs.declared.moves.Move.{Move}
use Rattle.costs.specs.Lists.{charge_of}
use Rattle.costs.specs.declared.tally.Tally.{Ghosts}
use Rattle.theory.specs.Problem.{Problem, AtMost, Lower}
use Rattle.theory.specs.Records.{shutting}
use Rattle.theory.specs.declared.record.Mark.TheVariants.{Waiting, Shut}
use Rattle.theory.specs.declared.record.Record.{Record}

-- what is spent once the move is taken from the choice c
abbrev pub spent_by : {V : Type 0} {tally : Ghosts V} → Problem tally → Record V → Move → V
spent_by {tally = tally} P c m = tally.join c.spent (charge_of tally m)

-- what move k from the choice c, number i, gives for the set t with the estimate e
abbrev pub child : {V : Type 0} {tally : Ghosts V} → Problem tally → ℕ → Record V → ℕ → Move → FactSet → V → Record V
child {tally = tally} P i c k m t e =
    record { set = t; spent = spent_by P c m; promise = tally.join (spent_by P c m) e; parent = i; via = k; mark = Waiting }

-- the move regresses the choice's set to t, whose estimate is the value e
pub record LeadsTo {V : Type 0} {tally : Ghosts V} (P : Problem tally) (c : Record V) (m : Move) (t : FactSet) (e : V) : Type 0 where
  pub regresses : Regresses m c.set t
  pub hoped : P.bound.estimate t ≡ Some e

-- record j, which is q, is that of the set t
pub record Recorded {V : Type 0} (recs : List (Record V)) (t : FactSet) (j : ℕ) (q : Record V) : Type 0 where
  pub at : At recs j q
  pub same : q.set ≡ t

abbrev pub Unrecorded : {V : Type 0} → List (Record V) → FactSet → Type 0
Unrecorded {V} recs t = (j : ℕ) (q : Record V) → Recorded recs t j q → ⊥

-- the records after one move is taken from the choice
pub data Takes {V : Type 0} {tally : Ghosts V} (P : Problem tally) (recs : List (Record V)) (i : ℕ) (c : Record V) (k : ℕ) (m : Move) : List (Record V) → Type 0 where
  not_regressing : ((t : FactSet) → Regresses m c.set t → ⊥) → Takes P recs i c k m recs
  passed_over : {t : FactSet} → Regresses m c.set t → P.bound.estimate t ≡ None → Takes P recs i c k m recs
  -- a waiting record of the set takes all four new entries
  bettered : {t : FactSet} {j : ℕ} {e : V} {q : Record V} → LeadsTo P c m t e → Recorded recs t j q → q.mark ≡ Waiting
      → Lower tally (spent_by P c m) q.spent → Takes P recs i c k m (put recs j (child P i c k m t e))
  no_better : {t : FactSet} {j : ℕ} {e : V} {q : Record V} → LeadsTo P c m t e → Recorded recs t j q → q.mark ≡ Waiting
      → AtMost tally q.spent (spent_by P c m) → Takes P recs i c k m recs
  shut_already : {t : FactSet} {j : ℕ} {e : V} {q : Record V} → LeadsTo P c m t e → Recorded recs t j q → q.mark ≡ Shut
      → Takes P recs i c k m recs
  added : {t : FactSet} {e : V} → LeadsTo P c m t e → Unrecorded recs t → length recs < P.room
      → Takes P recs i c k m (recs ++ (child P i c k m t e ∷ []))

-- the records after the first moves are taken, in rising order
pub data TakesFirst {V : Type 0} {tally : Ghosts V} (P : Problem tally) (recs : List (Record V)) (i : ℕ) (c : Record V) : ℕ → List (Record V) → Type 0 where
  none_yet : TakesFirst P recs i c zero recs
  and_next : {k : ℕ} {m : Move} {mid later : List (Record V)} → TakesFirst P recs i c k mid → At P.draft.moves.now k m
      → Takes P mid i c k m later → TakesFirst P recs i c (suc k) later

-- after the last move the choice is shut
pub data Opens {V : Type 0} {tally : Ghosts V} (P : Problem tally) (recs : List (Record V)) (i : ℕ) (c : Record V) : List (Record V) → Type 0 where
  opens : {mid : List (Record V)} {q : Record V} → TakesFirst P recs i c (length P.draft.moves.now) mid → At mid i q
      → Opens P recs i c (put mid i (shutting q))

-- a move asks for a record beyond the room lent: the moves before it stay taken, and the choice stays waiting
pub data Overflows {V : Type 0} {tally : Ghosts V} (P : Problem tally) (recs : List (Record V)) (i : ℕ) (c : Record V) : List (Record V) → Type 0 where
  overflows : {k : ℕ} {t : FactSet} {m : Move} {e : V} {mid : List (Record V)} → TakesFirst P recs i c k mid → At P.draft.moves.now k m
      → LeadsTo P c m t e → Unrecorded mid t → P.room ≤ length mid → Overflows P recs i c mid
