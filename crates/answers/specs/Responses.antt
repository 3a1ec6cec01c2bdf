-- What the program prints for the bytes that it is handed.
use Rattle.std.specs.Prelude.{◌≡◌, ℕ, List}
use Rattle.tasks.specs.declared.draft.Draft.{Draft}
use Rattle.tasks.specs.declared.task.Task.{Task}
use Rattle.costs.specs.Estimates.{Estimate}
use Rattle.costs.specs.declared.minutes.Minutes.{Minutes}
use Rattle.texts.specs.Files.{SaysTask}
use Rattle.texts.specs.Refusals.{Refuses, text_of_refused}
use Rattle.texts.specs.declared.refused.Refused.{Refused}
use Rattle.answers.specs.Floors.{IsFloor}
use Rattle.answers.specs.Texts.{AcceptedText}

pub data Response (src text : List ℕ) : Type 0 where
  refused : {r : Refused} → Refuses src r → text ≡ text_of_refused r → Response src text
  accepted : {d : Draft} {t : Task} {floor : Estimate Minutes} → SaysTask src d t → IsFloor t 255 floor → AcceptedText d floor text → Response src text
