-- Which of the waiting records is the choice, one record after another.
use Rattle.std.specs.Prelude.{Bool, cond, not, ◌&&◌, ◌||◌, List, Some, None, Option}
use Rattle.costs.specs.declared.tally.Tally.{Ghosts}
use Rattle.theory.specs.Records.{Chosen}
use Rattle.theory.specs.declared.record.Mark.{Mark}
use Rattle.theory.specs.declared.record.Mark.TheVariants.{Waiting, Shut}
use Rattle.theory.specs.declared.record.Record.{Record}
use Rattle.records.specs.declared.numbered.Numbered.{Numbered}

abbrev pub IsChosen : {V : Type 0} → Ghosts V → List (Record V) → Numbered V → Type 0
IsChosen tally recs c = Chosen tally recs c.number c.row

-- by promise, then spent
abbrev pub is_before : {V : Type 0} → Ghosts V → Record V → Record V → Bool
is_before tally r q =
    not (tally.at_most q.promise r.promise) || (tally.at_most r.promise q.promise && not (tally.at_most q.spent r.spent))

-- a record with this mark against the best so far
abbrev pub best_of : {V : Type 0} → Ghosts V → Mark → Option (Numbered V) → Numbered V → Option (Numbered V)
best_of tally Shut best next = best
best_of tally Waiting None next = Some next
best_of tally Waiting (Some b) next = cond (is_before tally next.row b.row) (Some next) (Some b)

abbrev pub better_of : {V : Type 0} → Ghosts V → Option (Numbered V) → Numbered V → Option (Numbered V)
better_of tally best next = best_of tally next.row.mark best next
