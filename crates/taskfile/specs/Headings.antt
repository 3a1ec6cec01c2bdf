-- The draft that a heading and a list of moves make.
use Rattle.std.specs.Prelude.{◌≡◌, ◌≤◌, List, length, take}
use Rattle.tasks.specs.declared.draft.Draft.{Draft}
use Rattle.tasks.specs.declared.moves.Move.{Move}
use Rattle.taskfile.specs.declared.heading.Heading.{Heading}

-- d is the draft of this heading and the first moves of the list
pub record DraftOf (h : Heading) (list : List Move) (d : Draft) : Type 0 where
  pub enough : h.count ≤ length list
  pub facts : d.facts ≡ h.facts
  pub start : d.start ≡ h.start
  pub goal : d.goal ≡ h.goal
  pub moves : d.moves.now ≡ take h.count list
