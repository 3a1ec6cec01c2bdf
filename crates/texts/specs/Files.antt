-- What the bytes of a file say, read with room for 1,024 moves.
use Rattle.std.specs.Prelude.{◌≡◌, ℕ, false, List, length, Ok, Err}
use Rattle.facts.specs.Sets.{has}
use Rattle.tasks.specs.Faults.{Faultless}
use Rattle.tasks.specs.Tasks.{draft_of}
use Rattle.tasks.specs.declared.draft.Draft.{Draft}
use Rattle.tasks.specs.declared.moves.Move.{Move}
use Rattle.tasks.specs.declared.task.Task.{Task}
use Rattle.taskfile.specs.Headings.{DraftOf}
use Rattle.taskfile.specs.Outcomes.{Outcome}
use Rattle.taskfile.specs.declared.heading.Heading.{Heading}
use Rattle.taskfile.specs.declared.misread.Misread.{Misread}

-- a move that costs nothing and changes nothing
pub record IsBlank (m : Move) : Type 0 where
  pub group : m.group ≡ 0
  pub price : m.price ≡ 0
  pub needs : (f : ℕ) → has m.needs f ≡ false
  pub makes : (f : ℕ) → has m.makes f ≡ false
  pub breaks : (f : ℕ) → has m.breaks f ≡ false

-- the bytes are a task file that says the draft d
pub record Says (src : List ℕ) (d : Draft) : Type 0 where
  pub before : List Move
  pub after : List Move
  pub heading : Heading
  pub room : length before ≡ 1024
  pub read : Outcome src before (Ok heading) after
  pub draft : DraftOf heading after d

-- the bytes say the draft d, it has no fault, and t is its task
pub record SaysTask (src : List ℕ) (d : Draft) (t : Task) : Type 0 where
  pub says : Says src d
  pub faultless : Faultless d
  pub checked : draft_of t ≡ d

-- the bytes are no task file
pub record Misreads (src : List ℕ) (m : Misread) : Type 0 where
  pub before : List Move
  pub after : List Move
  pub room : length before ≡ 1024
  pub read : Outcome src before (Err m) after
