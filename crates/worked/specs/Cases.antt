-- The cases worked through, all by the rules and equations that the contracts cite.
use Rattle.std.specs.Prelude.{◌≡◌, ℕ, List, [], ◌∷◌, map, None, Some}
use Rattle.facts.specs.declared.sets.FactSet.{FactSet}
use Rattle.tasks.specs.Tasks.{goal_of}
use Rattle.tasks.specs.declared.task.Task.{Task}
use Rattle.costs.specs.Minutes.{held}
use Rattle.costs.specs.Worst.{single}
use Rattle.costs.specs.Estimates.{Estimate}
use Rattle.costs.specs.declared.tally.Tally.{Ghosts}
use Rattle.theory.specs.Problem.{Problem, Lent}
use Rattle.theory.specs.Queue.{Call, run, read_out, ran, read, refused, State, kept, holding, Makes, Event, asked, Queue}
use Rattle.theory.specs.Records.{goal_record}
use Rattle.theory.specs.Refusals.{number_of}
use Rattle.theory.specs.Tasks.{set_of, small, goalless, startless}
use Rattle.theory.specs.declared.refusal.Refusal.{Refusal}
use Rattle.theory.specs.declared.refusal.Refusal.TheVariants.{TableSize, Overdrawn, GrantTooLarge, NotPlanned, ListTooShort}
use Rattle.theory.specs.declared.reply.End.TheVariants.{Going}
use Rattle.theory.specs.declared.reply.Kind.TheVariants.{Pending, Plan, NoPlan, Full}
use Rattle.costs.specs.Kinds.{minutes, worst}
use Rattle.worked.specs.Lending.{blind, every_group, only_group, Table, reading, summed, posing}
use Rattle.worked.specs.Tasks.{circle}

-- a run with this bound and grant; what it tells: a kind, the openings, a value and a length
abbrev pub pends : {V : Type 0} → Lent V → ℕ → ℕ → V → Event V
pends b grant opened floor = asked (run grant b) (ran (record { kind = Pending; opened = opened; value = floor; length = 0 }))

abbrev pub plans : {V : Type 0} → Lent V → ℕ → ℕ → V → ℕ → Event V
plans b grant opened cost moves = asked (run grant b) (ran (record { kind = Plan; opened = opened; value = cost; length = moves }))

abbrev pub fills : {V : Type 0} → Lent V → ℕ → ℕ → V → Event V
fills b grant opened floor = asked (run grant b) (ran (record { kind = Full; opened = opened; value = floor; length = 0 }))

abbrev pub gives_up : {V : Type 0} → Lent V → ℕ → ℕ → V → Event V
gives_up b grant opened nil = asked (run grant b) (ran (record { kind = NoPlan; opened = opened; value = nil; length = 0 }))

-- a list read out into so many places
abbrev pub lists : {V : Type 0} → ℕ → List ℕ → Event V
lists places l = asked (read_out places) (read l)

abbrev pub refuses : {V : Type 0} → Call V → Refusal → Event V
refuses call why = asked call (refused why)

abbrev pub call_of : {V : Type 0} → Event V → Call V
call_of (asked call answer) = call

-- the calls, the latest first, are answered so and in no other way
pub record Goes {V : Type 0} {tally : Ghosts V} (P : Problem tally) (es : List (Event V)) : Type 0 where
  pub now : State V
  pub queue : Queue P es now
  pub only : (fs : List (Event V)) (then : State V) → Queue P fs then → map call_of fs ≡ map call_of es → fs ≡ es

-- a make has this outcome and no other
pub record Made {V : Type 0} {tally : Ghosts V} (P : Problem tally) (new : State V) : Type 0 where
  pub makes : Makes P new
  pub only : (other : State V) → Makes P other → other ≡ new

-- there is an A, and P holds of each
pub record Each (A : Type 0) (P : A → Type 0) : Type 0 where
  pub one : A
  pub all : (a : A) → P a

-- what a table gives for the set s
abbrev pub Gives : {V : Type 0} (tally : Ghosts V) → Task → ℕ → ℕ → FactSet → Estimate V → Type 0
Gives tally t groups m s e = Each (Table tally t groups m) (λ table. table.est s ≡ e)

pub record WorkedCases : Type 0 where
  -- a bound that knows nothing, and room for four records, three, two and none
  pub four_runs : Goes (posing minutes small (blind minutes) 4)
      (lists 2 (0 ∷ 1 ∷ []) ∷ plans (blind minutes) 1 1 (held 19) 2 ∷ pends (blind minutes) 0 0 (held 15) ∷ pends (blind minutes) 1 1 (held 15)
      ∷ pends (blind minutes) 1 1 (held 4) ∷ [])
  pub room_for_three : Goes (posing minutes small (blind minutes) 3) (fills (blind minutes) 9 1 (held 4) ∷ [])
  pub room_for_two : Goes (posing minutes small (blind minutes) 2) (fills (blind minutes) 9 0 (held 0) ∷ [])
  pub no_room : Goes (posing minutes small (blind minutes) 0) (refuses (run 1 (blind minutes)) TableSize ∷ [])
  -- only the worst price counts
  pub by_worst : Goes (posing worst small (blind worst) 4)
      (refuses (read_out 1) ListTooShort ∷ lists 2 (0 ∷ 1 ∷ []) ∷ plans (blind worst) 4 3 (single 15) 2 ∷ [])
  -- an empty goal, and an empty start; calls that are refused change nothing
  pub nothing_to_do : Goes (posing minutes goalless (blind minutes) 4) (plans (blind minutes) 0 0 (held 0) 0 ∷ [])
  pub no_way : Goes (posing minutes startless (blind minutes) 4) (gives_up (blind minutes) 4 4 (held 0) ∷ [])
  pub not_yet : Goes (posing minutes startless (blind minutes) 4)
      (pends (blind minutes) 3 3 (held 19) ∷ refuses (read_out 9) NotPlanned ∷ refuses (run 65537 (blind minutes)) GrantTooLarge ∷ [])
  -- pairs show at once that there is no way
  pub no_way_by_pairs : Each (Table minutes startless every_group 2)
      (λ pairs. Goes (posing minutes startless (reading pairs) 4) (gives_up (reading pairs) 0 0 (held 0) ∷ []))
  -- the goal by single facts, by their sum with each group in one part, and by pairs
  pub goal_by_singles : Gives minutes small every_group 1 (goal_of small) (Some (held 15))
  pub goal_by_sum : Each (Table minutes small (only_group 0) 1 × Table minutes small (only_group 1) 1)
      (λ w. (summed minutes (reading w.0) (reading w.1)).estimate (goal_of small) ≡ Some (held 19))
  pub goal_by_pairs : Gives minutes small every_group 2 (goal_of small) (Some (held 19))
  -- a sum with group 1 in both parts: its shares are above the charges in minutes, and not where only the worst price counts
  pub both_in_minutes : Each (Table minutes small every_group 1 × Table minutes small (only_group 1) 1)
      (λ w. Made (posing minutes small (summed minutes (reading w.0) (reading w.1)) 4) (kept Overdrawn))
  pub overdrawn_is_ten : number_of Overdrawn ≡ 10
  pub both_by_worst : Each (Table worst small every_group 1 × Table worst small (only_group 1) 1)
      (λ w. let P = posing worst small (summed worst (reading w.0) (reading w.1)) 4 in Made P (holding (goal_record P (single 15) ∷ []) Going))
  -- facts that come only of each other never come
  pub never_first : Gives minutes circle every_group 1 (set_of 1) None
  pub never_second : Gives minutes circle every_group 1 (set_of 2) None
