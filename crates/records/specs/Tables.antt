-- A lent table, of which the first places are the records.
use Rattle.std.specs.Prelude.{◌≡◌, ℕ, ◌<◌, ◌≤◌, List, [], ◌∷◌, ◌++◌, length, take, drop, Result, MatchResult}
use Rattle.facts.specs.declared.sets.FactSet.{FactSet}
use Rattle.theory.specs.Openings.{Recorded}
use Rattle.theory.specs.declared.record.Record.{Record}
use Rattle.records.specs.declared.cells.Full.{Full}
use Rattle.records.specs.declared.table.Records.{Records}

abbrev pub table_of : {V : Type 0} → Records V → List (Record V)
table_of r = r.table.now

abbrev pub recs_of : {V : Type 0} → Records V → List (Record V)
recs_of r = take r.count r.table.now

abbrev pub room_of : {V : Type 0} → Records V → ℕ
room_of r = r.room

-- record j is that of the set t
abbrev pub IsRecorded : {V : Type 0} → List (Record V) → FactSet → ℕ → Type 0
IsRecorded {V} recs t j = (q : Record V) × Recorded recs t j q

-- the places from n on are as they were
pub record Untouched {V : Type 0} (n : ℕ) (before after : List (Record V)) : Type 0 where
  pub size : length after ≡ length before
  pub rest : drop n after ≡ drop n before

-- there are no fewer records than before, in the same table, and the places after them are as they were
pub record Grown {V : Type 0} (before after : Records V) : Type 0 where
  pub more : length (recs_of before) ≤ length (recs_of after)
  pub room : room_of after ≡ room_of before
  pub untouched : Untouched (length (recs_of after)) (table_of before) (table_of after)
  pub lent : after.table.ghost_name ≡ before.table.ghost_name

-- the new record came after the others, or they fill the room and are as they were
abbrev pub Added : {V : Type 0} → ℕ → (recs later : List (Record V)) → Record V → Result (Unit {0}) Full → Type 0
Added room recs later new r = MatchResult r (λ u. (length recs < room) × (later ≡ recs ++ (new ∷ []))) (λ f. (room ≤ length recs) × (later ≡ recs))
