-- The opening of a choice over a lent table.
use Rattle.std.specs.Prelude.{◌≡◌, ℕ, List, length, set as put, Result, MatchResult}
use Rattle.tasks.specs.Places.{At}
use Rattle.tasks.specs.Tasks.{draft_of}
use Rattle.tasks.specs.declared.task.Task.{Task}
use Rattle.costs.specs.declared.tally.Tally.{Ghosts}
use Rattle.bounds.specs.declared.bound.Bound.{Ghosts as Bounding}
use Rattle.theory.specs.Openings.{TakesFirst, Opens, Overflows}
use Rattle.theory.specs.Problem.{Problem, Lent}
use Rattle.theory.specs.Records.{shutting}
use Rattle.theory.specs.declared.record.Record.{Record}
use Rattle.records.specs.declared.cells.Full.{Full}

-- the problem of a call: the draft of the task, what is seen of the bound, and the room
abbrev pub problem_of : {B V : Type 0} (tally : Ghosts V) → Bounding B V → Task → B → ℕ → Problem tally
problem_of tally bounding task bound room = record {
  draft = draft_of task;
  bound = record { fits = bounding.fitting bound task; estimate = bounding.estimated bound; share = bounding.shared bound };
  room = room;
}

-- what is seen of a bound that is handed to a call
abbrev pub lent_of : {B V : Type 0} → Bounding B V → Task → B → Lent V
lent_of bounding task bound = record { fits = bounding.fitting bound task; estimate = bounding.estimated bound; share = bounding.shared bound }

-- record i was marked as shut
abbrev pub ShutAt : {V : Type 0} → List (Record V) → ℕ → List (Record V) → Type 0
ShutAt {V} before i after = (q : Record V) × At before i q × (after ≡ put before i (shutting q))

-- every move was taken from the choice c, number i; or a move found no room
abbrev pub TookAll : {V : Type 0} {tally : Ghosts V} → Problem tally → (recs later : List (Record V)) → ℕ → Record V → Result (Unit {0}) Full → Type 0
TookAll P recs later i c r = MatchResult r (λ u. TakesFirst P recs i c (length P.draft.moves.now) later) (λ f. Overflows P recs i c later)

-- the choice c, number i, was opened; or a move found no room
abbrev pub Opened : {V : Type 0} {tally : Ghosts V} → Problem tally → (recs later : List (Record V)) → ℕ → Record V → Result (Unit {0}) Full → Type 0
Opened P recs later i c r = MatchResult r (λ u. Opens P recs i c later) (λ f. Overflows P recs i c later)
