-- A small task worked through by the rules: two moves, and a bound that knows nothing.
use Rattle.std.specs.Prelude.{ℕ, ◌+◌, max, true, nat_le, List, [], ◌∷◌, Some}
use Rattle.tasks.specs.Tasks.{draft_of}
use Rattle.tasks.specs.declared.task.Task.{Task}
use Rattle.costs.specs.declared.tally.Tally.{Ghosts}
use Rattle.theory.specs.Problem.{Problem, Lent, Honest}
use Rattle.theory.specs.Queue.{Event, Queue, asked, run, read_out, ran, read, refused, kept, holding}
use Rattle.theory.specs.Tasks.{set_of, small, goalless, startless}
use Rattle.theory.specs.declared.record.Mark.TheVariants.{Waiting, Shut}
use Rattle.theory.specs.declared.record.Record.{Record}
use Rattle.theory.specs.declared.refusal.Refusal.TheVariants.{TableSize, GrantTooLarge, NotPlanned, ListTooShort}
use Rattle.theory.specs.declared.reply.End.TheVariants.{Going, Planned, Exhausted, Filled}
use Rattle.theory.specs.declared.reply.Kind.TheVariants.{Pending, Plan, NoPlan, Full}

-- costs as numbers, which are joined as given
abbrev pub numbers : (ℕ → ℕ → ℕ) → Ghosts ℕ
numbers join = record { at_most = nat_le; nil = 0; join = join; charge = λ price group. price }

abbrev pub blind : Lent ℕ
blind = record { fits = true; estimate = λ s. Some 0; share = λ k. 0 }

abbrev pub problem : (join : ℕ → ℕ → ℕ) → Task → ℕ → Problem (numbers join)
problem join task room = record { draft = draft_of task; bound = blind; room = room }

-- a run, with the answer that tells a kind, openings, a value and a length
abbrev pub pends : ℕ → ℕ → ℕ → Event ℕ
pends grant opened floor = asked (run grant blind) (ran (record { kind = Pending; opened = opened; value = floor; length = 0 }))

abbrev pub plans : ℕ → ℕ → ℕ → ℕ → Event ℕ
plans grant opened cost moves = asked (run grant blind) (ran (record { kind = Plan; opened = opened; value = cost; length = moves }))

abbrev pub fills : ℕ → ℕ → ℕ → Event ℕ
fills grant opened floor = asked (run grant blind) (ran (record { kind = Full; opened = opened; value = floor; length = 0 }))

abbrev pub gives_up : ℕ → ℕ → Event ℕ
gives_up grant opened = asked (run grant blind) (ran (record { kind = NoPlan; opened = opened; value = 0; length = 0 }))

-- the four records when the plan is found, the last of them at this cost
abbrev pub last_records : ℕ → List (Record ℕ)
last_records cost = record { set = set_of 6; spent = 0; promise = 0; parent = 65535; via = 65535; mark = Shut }
    ∷ record { set = set_of 5; spent = 15; promise = 15; parent = 0; via = 0; mark = Shut }
    ∷ record { set = set_of 2; spent = 4; promise = 4; parent = 0; via = 1; mark = Shut }
    ∷ record { set = set_of 1; spent = cost; promise = cost; parent = 2; via = 0; mark = Waiting } ∷ []

-- the latest call stands first
pub record Worked : Type 0 where
  -- the promises speak of this problem
  pub honest : Honest (problem ◌+◌ small 4)
  pub four_runs : Queue (problem ◌+◌ small 4) (plans 1 1 19 2 ∷ pends 0 0 15 ∷ pends 1 1 15 ∷ pends 1 1 4 ∷ []) (holding (last_records 19) (Planned 3))
  pub room_for_three : (recs : List (Record ℕ)) × Queue (problem ◌+◌ small 3) (fills 9 1 4 ∷ []) (holding recs (Filled 2))
  pub room_for_two : (recs : List (Record ℕ)) × Queue (problem ◌+◌ small 2) (fills 9 0 0 ∷ []) (holding recs (Filled 0))
  -- where the larger charge counts; the list that was read out does not fit into one place
  pub largest : Queue (problem max small 4)
      (asked (read_out 1) (refused ListTooShort) ∷ asked (read_out 2) (read (0 ∷ 1 ∷ [])) ∷ plans 4 3 15 2 ∷ []) (holding (last_records 15) (Planned 3))
  pub empty_goal : (recs : List (Record ℕ)) × Queue (problem ◌+◌ goalless 4) (plans 0 0 0 0 ∷ []) (holding recs (Planned 0))
  pub empty_start : (recs : List (Record ℕ)) × Queue (problem ◌+◌ startless 4) (gives_up 4 4 ∷ []) (holding recs Exhausted)
  -- calls that are refused change nothing
  pub not_yet : (recs : List (Record ℕ)) × Queue (problem ◌+◌ startless 4)
      (pends 3 3 19 ∷ asked (read_out 9) (refused NotPlanned) ∷ asked (run 65537 blind) (refused GrantTooLarge) ∷ []) (holding recs Going)
  pub no_table : Queue (problem ◌+◌ small 0) (asked (run 1 blind) (refused TableSize) ∷ []) (kept TableSize)
