-- A new record comes to the table: it betters the record of its set, is left out, is added, or finds no room.
use Rattle.std.specs.Prelude.{◌≡◌, ℕ, ◌≤◌, cond, List, length, set as put, Result, MatchResult}
use Rattle.facts.specs.declared.sets.FactSet.{FactSet}
use Rattle.tasks.specs.Places.{At}
use Rattle.tasks.specs.declared.moves.Move.{Move}
use Rattle.costs.specs.declared.tally.Tally.{Ghosts}
use Rattle.theory.specs.Openings.{child, LeadsTo, Unrecorded, Takes}
use Rattle.theory.specs.Problem.{Problem}
use Rattle.theory.specs.declared.record.Mark.{Mark}
use Rattle.theory.specs.declared.record.Mark.TheVariants.{Waiting, Shut}
use Rattle.theory.specs.declared.record.Record.{Record}
use Rattle.records.specs.declared.cells.Full.{Full}

-- which of two records of a set is left: a shut one stays as it is, a waiting one unless it has spent more
abbrev pub left_of : {V : Type 0} → Ghosts V → Mark → Record V → Record V → Record V
left_of tally Shut old new = old
left_of tally Waiting old new = cond (tally.at_most old.spent new.spent) old new

abbrev pub lowered_of : {V : Type 0} → Ghosts V → Record V → Record V → Record V
lowered_of tally old new = left_of tally old.mark old new

-- a new record of its set came to record j
abbrev pub LoweredAt : {V : Type 0} → Ghosts V → List (Record V) → ℕ → Record V → List (Record V) → Type 0
LoweredAt {V} tally before j new after = (q : Record V) × At before j q × (after ≡ put before j (lowered_of tally q new))

-- move k was taken from the choice c, number i; or there was no room for the new record, and nothing was done
abbrev pub Taken : {V : Type 0} {tally : Ghosts V} → Problem tally → (recs later : List (Record V)) → ℕ → Record V → ℕ → Move → Record V → Result (Unit {0}) Full → Type 0
Taken P recs later i c k m new r = MatchResult r (λ u. Takes P recs i c k m later) (λ f. Unrecorded recs new.set × (P.room ≤ length recs) × (later ≡ recs))

-- the new record came in: whichever move gives it from whichever choice, that move was taken
abbrev pub Entered : {V : Type 0} → Ghosts V → ℕ → (recs later : List (Record V)) → Record V → Result (Unit {0}) Full → Type 0
Entered {V} tally room recs later new r = (P : Problem tally) (i : ℕ) (c : Record V) (k : ℕ) (m : Move) (t : FactSet) (e : V) → P.room ≡ room
    → LeadsTo P c m t e → new ≡ child P i c k m t e → Taken P recs later i c k m new r
