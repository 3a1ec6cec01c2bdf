-- What a program that searches prints for the bytes that it is handed.
use Rattle.std.specs.Prelude.{◌≡◌, ℕ, List}
use Rattle.tasks.specs.declared.draft.Draft.{Draft}
use Rattle.tasks.specs.declared.task.Task.{Task}
use Rattle.costs.specs.declared.minutes.Minutes.{Minutes}
use Rattle.texts.specs.Files.{SaysTask}
use Rattle.texts.specs.Refusals.{Refuses, text_of_refused}
use Rattle.texts.specs.declared.refused.Refused.{Refused}
use Rattle.theory.specs.declared.reply.Reply.{Reply}
use Rattle.solutions.specs.Solutions.{Says, ByRules, Solved}
use Rattle.solutions.specs.Texts.{text_of_answer}

-- the search finds this of the task that the bytes say, and leaves this in the list lent
pub record Solves (src : List ℕ) (before after : List ℕ) (r : Reply Minutes) : Type 0 where
  pub draft : Draft
  pub task : Task
  pub says_task : SaysTask src draft task
  pub solved : Solved task before after r

-- what is printed of a task
pub record Answers (t : Task) (text : List ℕ) : Type 0 where
  pub reply : Reply Minutes
  pub moves : List ℕ
  pub says : Says t moves reply
  pub by_rules : ByRules t moves reply
  pub bytes : text ≡ text_of_answer reply moves

pub data Response (src text : List ℕ) : Type 0 where
  refused : {r : Refused} → Refuses src r → text ≡ text_of_refused r → Response src text
  solved : {d : Draft} {t : Task} → SaysTask src d t → Answers t text → Response src text
