-- What the search of such a program finds for a task.
use Rattle.std.specs.Prelude.{◌≡◌, ℕ, true, T, List, [], ◌∷◌, ◌++◌, length, drop}
use Rattle.facts.specs.declared.sets.FactSet.{FactSet}
use Rattle.tasks.specs.Lists.{Good}
use Rattle.tasks.specs.Tasks.{draft_of, moves_of}
use Rattle.tasks.specs.declared.task.Task.{Task}
use Rattle.costs.specs.Lists.{Costs}
use Rattle.costs.specs.Minutes.{no_longer}
use Rattle.costs.specs.Estimates.{Estimate}
use Rattle.costs.specs.declared.minutes.Minutes.{Minutes}
use Rattle.costs.specs.Kinds.{minutes}
use Rattle.tables.specs.Equation.{setting_of, Greatest}
use Rattle.theory.specs.Meets.{MeetsMore}
use Rattle.theory.specs.Problem.{Lent}
use Rattle.theory.specs.Queue.{run, read_out, Answer, ran, read, State, asked, Queue}
use Rattle.theory.specs.declared.reply.Kind.TheVariants.{Plan, NoPlan, Full}
use Rattle.theory.specs.declared.reply.Reply.{Reply}

-- no good list of the task takes fewer minutes
abbrev pub AtLeast : Task → Minutes → Type 0
AtLeast t v = (l : List ℕ) (w : Minutes) → Good t l → Costs minutes (moves_of t) l w → T (no_longer v w)

-- what a reply says of the task, where these moves were read out
pub data Says (t : Task) (moves : List ℕ) (r : Reply Minutes) : Type 0 where
  -- the moves are a good list at the cost told, and none is cheaper
  cheapest : r.kind ≡ Plan → Good t moves → Costs minutes (moves_of t) moves r.value → length moves ≡ r.length → AtLeast t r.value → Says t moves r
  -- there is no good list
  no_list : r.kind ≡ NoPlan → moves ≡ [] → r.length ≡ 0 → ((l : List ℕ) → Good t l → ⊥) → Says t moves r
  -- regression from the goal meets more than 1,024 sets, and no good list is cheaper than the floor told
  no_room : r.kind ≡ Full → moves ≡ [] → r.length ≡ 0 → MeetsMore t 1024 → AtLeast t r.value → Says t moves r

-- the reply and the moves read out are those that the rules give, for the greatest estimates at pairs with all groups counted
pub record ByRules (t : Task) (moves : List ℕ) (r : Reply Minutes) : Type 0 where
  pub est : FactSet → Estimate Minutes
  pub greatest : Greatest minutes (setting_of t 255) 2 est
  pub bound : Lent Minutes
  pub estimates : (s : FactSet) → bound.estimate s ≡ est s
  pub fits : bound.fits ≡ true
  pub answer : Answer Minutes
  pub state : State Minutes
  pub queue : Queue {tally = minutes} (record { draft = draft_of t; bound = bound; room = 1024 }) (asked (read_out 1024) answer ∷ asked (run 1024 bound) (ran r) ∷ []) state
  pub read_so : r.kind ≡ Plan → answer ≡ read moves

-- what the search finds, and what the list lent holds before and after it
pub record Solved (t : Task) (before after : List ℕ) (r : Reply Minutes) : Type 0 where
  pub moves : List ℕ
  pub says : Says t moves r
  pub by_rules : ByRules t moves r
  pub written : after ≡ moves ++ drop (length moves) before
