-- What each call of a search gives and leaves.
use Rattle.std.specs.Prelude.{◌≡◌, ℕ, ◌≤◌, List, ◌++◌, length, drop, Ok, Err, Result, MatchResult}
use Rattle.tasks.specs.Tasks.{draft_of}
use Rattle.costs.specs.declared.tally.Tally.{Ghosts}
use Rattle.theory.specs.Problem.{Problem, Lent, Honest}
use Rattle.theory.specs.Promise.{records_of}
use Rattle.theory.specs.Queue.{Call, run, read_out, Answer, ran, read, refused, Makes, Answers}
use Rattle.theory.specs.declared.record.Record.{Record}
use Rattle.theory.specs.declared.refusal.Refusal.{Refusal}
use Rattle.theory.specs.declared.reply.Reply.{Reply}
use Rattle.records.specs.Tables.{Untouched}
use Rattle.search.specs.States.{table_of, state_of, problem_in}
use Rattle.search.specs.declared.search.Search.{Search}

-- the places past the last record are as they were in the table before: all of them, where make was refused
abbrev pub PastRecords : {V : Type 0} → List (Record V) → Search V → Type 0
PastRecords before s = Untouched (length (records_of (state_of s))) before (table_of s)

-- a search is made as the rules say, and what the promises suppose holds
pub record Made {V : Type 0} {tally : Ghosts V} (P : Problem tally) (before : List (Record V)) (s : Search V) : Type 0 where
  pub draft : draft_of s.task ≡ P.draft
  pub honest : Honest P
  pub makes : Makes P (state_of s)
  pub rest : PastRecords before s

-- the call has the answer that the rules give it, whatever bound the search was made with
abbrev pub Answered : {V : Type 0} → Ghosts V → Call V → Answer V → Search V → Search V → Type 0
Answered {V} tally call answer before after = (made : Lent V) → Answers (problem_in tally before made) (state_of before) call answer (state_of after)

abbrev pub answer_of : {V : Type 0} → Result (Reply V) Refusal → Answer V
answer_of (Ok r) = ran r
answer_of (Err why) = refused why

-- a run that is handed the bound b
pub record RunAnswered {V : Type 0} (tally : Ghosts V) (b : Lent V) (grant : ℕ) (before after : Search V) (r : Result (Reply V) Refusal) : Type 0 where
  pub task : after.task ≡ before.task
  pub answered : Answered tally (run grant b) (answer_of r) before after
  pub grows : length (records_of (state_of before)) ≤ length (records_of (state_of after))
  pub rest : PastRecords (table_of before) after

-- the moves l stand in the front of the list lent, whose later places are as they were; their number is told
pub record ReadInto (before after l : List ℕ) (n : ℕ) : Type 0 where
  pub told : n ≡ length l
  pub written : after ≡ l ++ drop (length l) before

-- a read-out into a list: what it holds before and after
abbrev pub ReadAnswered : {V : Type 0} → Ghosts V → Search V → (before after : List ℕ) → Result ℕ Refusal → Type 0
ReadAnswered tally s before after r = MatchResult r
    (λ n. (l : List ℕ) × ReadInto before after l n × Answered tally (read_out (length before)) (read l) s s)
    (λ why. (after ≡ before) × Answered tally (read_out (length before)) (refused why) s s)
