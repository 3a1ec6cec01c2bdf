-- What the rules see of a search: a refusal that it keeps, or its records and its end.
use Rattle.std.specs.Prelude.{List, length, Ok, Err, Result}
use Rattle.tasks.specs.Tasks.{draft_of}
use Rattle.costs.specs.declared.tally.Tally.{Ghosts}
use Rattle.theory.specs.Problem.{Problem, Lent}
use Rattle.theory.specs.Queue.{State, kept, holding}
use Rattle.theory.specs.declared.record.Record.{Record}
use Rattle.theory.specs.declared.refusal.Refusal.{Refusal}
use Rattle.theory.specs.declared.reply.End.{End}
use Rattle.records.specs.Tables as tables
use Rattle.records.specs.Tables.{recs_of}
use Rattle.search.specs.declared.search.Search.{Search}

abbrev pub state_by : {V : Type 0} → Result (Unit {0}) Refusal → List (Record V) → End → State V
state_by (Err why) recs end = kept why
state_by (Ok u) recs end = holding recs end

abbrev pub table_of : {V : Type 0} → Search V → List (Record V)
table_of s = tables.table_of s.holding.records

abbrev pub state_of : {V : Type 0} → Search V → State V
state_of s = state_by s.made (recs_of s.holding.records) s.holding.end

-- the problem of a search that was made with this bound: K is the size of its table
abbrev pub problem_in : {V : Type 0} (tally : Ghosts V) → Search V → Lent V → Problem tally
problem_in tally s made = record { draft = draft_of s.task; bound = made; room = length (table_of s) }
