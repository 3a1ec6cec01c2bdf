-- What a whole queue of calls keeps.
use Rattle.std.specs.Prelude.{◌≡◌, ℕ, ◌≤◌, min, List, length}
use Rattle.costs.specs.declared.tally.Tally.{Ghosts}
use Rattle.theory.specs.Problem.{Problem}
use Rattle.theory.specs.Promise.{Promises, Alike}
use Rattle.theory.specs.Queue.{Event, Queue, State, holding, Steady, granted}
use Rattle.theory.specs.Runs.{Trail}
use Rattle.theory.specs.declared.record.Record.{Record}
use Rattle.theory.specs.declared.reply.End.TheVariants.{Planned}
use Rattle.search.specs.Calls.{PastRecords}
use Rattle.search.specs.States.{state_of}
use Rattle.search.specs.declared.search.Search.{Search}
use Rattle.queues.specs.Calls.{Outcome, Log, Noted, written}
use Rattle.queues.specs.declared.calls.Call.{Call}

pub record KeepsPromises {V : Type 0} {tally : Ghosts V} (P : Problem tally) (table : List (Record V)) (calls : List Call) (told told' : List (Outcome V)) (list list' : List ℕ) (h : Search V) : Type 0 where
  -- what happened, the latest first: the calls, with the answers that stand beside them
  pub events : List (Event V)
  pub log : Log P.bound (length list) calls told' (min (length calls) (length told)) events
  pub noted : Noted (min (length calls) (length told)) told told'
  -- every answer, the records and the end are those that the rules give
  pub by_rules : Queue P events (state_of h)
  -- so it is cheapest after plan, hopeless after none, crowded after full, and more
  pub promises : Promises P events (state_of h)
  -- any other queue on this task, room and bound with the same sum of grants has equal records, and answers a further run alike
  pub sum_counts : (fs : List (Event V)) (other : State V) → Queue P fs other → Steady P fs → granted events ≡ granted fs → Alike P (state_of h) other
  -- the list of a plan has no more moves than there are places
  pub brief : (recs : List (Record V)) (i : ℕ) (l : List ℕ) → state_of h ≡ holding recs (Planned i) → Trail recs i l → length l ≤ P.room
  -- the list holds what was read out, and the table past the records what it held
  pub list_read : list' ≡ written events list
  pub table_rest : PastRecords table h
