-- Calls of a search and what they are answered, one after another.
use Rattle.std.specs.Prelude.{◌≡◌, ℕ, zero, suc, ◌≤◌, min, List, [], ◌∷◌, ◌++◌, length, drop, Ok, Err, Result, MatchResult}
use Rattle.tasks.specs.Places.{At}
use Rattle.costs.specs.declared.tally.Tally.{Ghosts}
use Rattle.theory.specs.Problem.{Problem, Lent}
use Rattle.theory.specs.Promise.{records_of}
use Rattle.theory.specs.Queue as rules
use Rattle.theory.specs.Queue.{Answer, Answers, State, Event, asked}
use Rattle.theory.specs.declared.refusal.Refusal.{Refusal}
use Rattle.search.specs.Calls.{PastRecords, Answered, ReadInto}
use Rattle.search.specs.States.{table_of, state_of, problem_in}
use Rattle.search.specs.declared.search.Search.{Search}
use Rattle.queues.specs.declared.calls.Call.{Call}
use Rattle.queues.specs.declared.calls.Call.TheVariants.{Run, ReadOut}
use Rattle.queues.specs.declared.calls.Told.{Told}
use Rattle.queues.specs.declared.calls.Told.TheVariants.{Ran, Read}

-- the call as the rules see it, where every run is handed the bound b and the list lent has so many places
abbrev pub call_of : {V : Type 0} → Lent V → ℕ → Call → rules.Call V
call_of b places (Run n) = rules.run n b
call_of b places (ReadOut room) = rules.read_out (min room places)

-- what is told of a call, or why it is refused
abbrev pub Outcome : Type 0 → Type 0
Outcome V = Result (Told V) Refusal

-- what is told of an answer of the rules
abbrev pub told_of : {V : Type 0} → Answer V → Outcome V
told_of (rules.ran r) = Ok (Ran r)
told_of (rules.read l) = Ok (Read (length l))
told_of (rules.refused why) = Err why

-- what a list holds once an answer has come: a list read out stands in its front, its later places as they were
abbrev pub written_by : {V : Type 0} → Answer V → List ℕ → List ℕ
written_by (rules.ran r) list = list
written_by (rules.read l) list = l ++ drop (length l) list
written_by (rules.refused why) list = list

-- one call: the rules give its answer, which is told, and the list is written accordingly
pub record Reply {V : Type 0} (tally : Ghosts V) (b : Lent V) (call : Call) (before after : List ℕ) (h later : Search V) (told : Outcome V) : Type 0 where
  pub answer : Answer V
  pub answered : Answered tally (call_of b (length before) call) answer h later
  pub is : told ≡ told_of answer
  pub list : after ≡ written_by answer before

-- what stays the same while calls are made: the task, and the places past the records, of which there are never fewer
pub record Stays {V : Type 0} (h later : Search V) : Type 0 where
  pub task : later.task ≡ h.task
  pub grows : length (records_of (state_of h)) ≤ length (records_of (state_of later))
  pub rest : PastRecords (table_of h) later

pub record Replied {V : Type 0} (tally : Ghosts V) (b : Lent V) (call : Call) (before after : List ℕ) (h later : Search V) (told : Outcome V) : Type 0 where
  pub stays : Stays h later
  pub reply : Reply tally b call before after h later told

-- a read-out into the first places of a list
abbrev pub ReadFront : {V : Type 0} → Ghosts V → Search V → ℕ → (before after : List ℕ) → Result ℕ Refusal → Type 0
ReadFront tally h room before after r = MatchResult r
    (λ n. (l : List ℕ) × ReadInto before after l n × Answered tally (rules.read_out (min room (length before))) (rules.read l) h h)
    (λ why. (after ≡ before) × Answered tally (rules.read_out (min room (length before))) (rules.refused why) h h)

-- one answered call after another leads from a state to a state; the latest comes first
pub data Follows {V : Type 0} {tally : Ghosts V} (P : Problem tally) (s : State V) : List (Event V) → State V → Type 0 where
  at_first : Follows P s [] s
  and_then : {es : List (Event V)} {mid later : State V} {call : rules.Call V} {answer : Answer V} → Follows P s es mid → Answers P mid call answer later
      → Follows P s (asked call answer ∷ es) later

-- these events are the first n calls with what stands beside them in the replies
pub data Log {V : Type 0} (b : Lent V) (places : ℕ) (calls : List Call) (told : List (Outcome V)) : ℕ → List (Event V) → Type 0 where
  blank : Log b places calls told zero []
  entry : {n : ℕ} {es : List (Event V)} {call : Call} {answer : Answer V} → Log b places calls told n es → At calls n call → At told n (told_of answer)
      → Log b places calls told (suc n) (asked (call_of b places call) answer ∷ es)

-- what a list holds after these events
abbrev pub written : {V : Type 0} → List (Event V) → List ℕ → List ℕ
written [] list = list
written (asked call answer ∷ es) list = written_by answer (written es list)

-- the first n calls were made
pub record Book {V : Type 0} (tally : Ghosts V) (b : Lent V) (calls : List Call) (n : ℕ) (told : List (Outcome V)) (before after : List ℕ) (h later : Search V) : Type 0 where
  pub events : List (Event V)
  pub log : Log b (length before) calls told n events
  pub follows : (made : Lent V) → Follows (problem_in tally h made) (state_of h) events (state_of later)
  pub list : after ≡ written events before

-- the replies from place n on are as they were
pub record Noted {V : Type 0} (n : ℕ) (before after : List (Outcome V)) : Type 0 where
  pub size : length after ≡ length before
  pub rest : drop n after ≡ drop n before

-- all calls were made, or the first of them, where there are fewer places for their replies
pub record Serves {V : Type 0} (tally : Ghosts V) (b : Lent V) (calls : List Call) (told told' : List (Outcome V)) (list list' : List ℕ) (h later : Search V) : Type 0 where
  pub stays : Stays h later
  pub noted : Noted (min (length calls) (length told)) told told'
  pub book : Book tally b calls (min (length calls) (length told)) told' list list' h later
