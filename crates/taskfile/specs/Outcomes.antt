-- What reading a file gives, and what the list of moves holds afterwards.
use Rattle.std.specs.Prelude.{◌≡◌, ℕ, suc, ◌<◌, ◌≤◌, ◌⊎◌, List, [], length, drop, Ok, Err, Result}
use Rattle.tasks.specs.declared.moves.Move.{Move}
use Rattle.taskfile.specs.declared.heading.Heading.{Heading}
use Rattle.taskfile.specs.declared.keys.Key.TheVariants.{Facts}
use Rattle.taskfile.specs.declared.misread.Flaw.{Flaw}
use Rattle.taskfile.specs.declared.misread.Flaw.TheVariants.{WrongLine, OutOfRange}
use Rattle.taskfile.specs.declared.misread.Misread.{Misread}
use Rattle.taskfile.specs.Entries.{Entry}
use Rattle.taskfile.specs.Faults.{Faulty}
use Rattle.taskfile.specs.Fronts.{Front, key_from, due}
use Rattle.taskfile.specs.Tellings.{TellsHeading, Written}

-- the bytes are the lines of some good entries, as many as are due, and these tell the heading and the moves
pub record Accepted (src : List ℕ) (before : List Move) (h : Heading) (after : List Move) : Type 0 where
  pub entries : List Entry
  pub text : Front (length before) Facts src entries []
  pub whole : length entries ≡ due entries
  pub heading : TellsHeading h entries
  pub moves : Written (drop 4 entries) before after

-- what is wrong after the lines of es: the line that is due has the flaw, or all lines are there and bytes follow
abbrev pub Wrong : ℕ → List Entry → List ℕ → Flaw → Type 0
Wrong room es rest f =
    ((length es < due es) × Faulty room (key_from Facts es) rest f) ⊎ ((length es ≡ due es) × (0 < length rest) × (f ≡ WrongLine))

-- the bytes begin with the lines of some good entries, and the next line is at fault
pub record Refused (src : List ℕ) (before : List Move) (m : Misread) (after : List Move) : Type 0 where
  pub entries : List Entry
  pub rest : List ℕ
  pub text : Front (length before) Facts src entries rest
  pub wrong : Wrong (length before) entries rest m.flaw
  pub line : m.line ≡ suc (length entries)
  pub moves : Written (drop 4 entries) before after

abbrev pub ByLines : List ℕ → List Move → Result Heading Misread → List Move → Type 0
ByLines src before (Ok h) after = Accepted src before h after
ByLines src before (Err m) after = Refused src before m after

-- a file that is too long is refused as a whole
pub record Outcome (src : List ℕ) (before : List Move) (r : Result Heading Misread) (after : List Move) : Type 0 where
  pub long : 60000 < length src → (r ≡ Err (record { flaw = OutOfRange; line = 0 })) × (after ≡ before)
  pub short : length src ≤ 60000 → ByLines src before r after

-- all lines are there, all of good entries, and nothing else is
abbrev pub IsText : ℕ → List ℕ → Type 0
IsText room src = (length src ≤ 60000) × (es : List Entry) × Front room Facts src es [] × (length es ≡ due es)

-- bytes and a list leave no choice: nothing else is an outcome
abbrev pub Only : List ℕ → List Move → Result Heading Misread → List Move → Type 0
Only src before r after = (s : Result Heading Misread) (others : List Move) → Outcome src before s others → (s ≡ r) × (others ≡ after)
