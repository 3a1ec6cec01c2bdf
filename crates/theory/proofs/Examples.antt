-- The small task, worked through: the answers are computed, and only the lists read out are written down.
use Rattle.std.proofs.Common.{◌≡◌, ℕ, ◌+◌, ◌≤◌, max, T, leb, List, [], ◌∷◌, length, sym, refl, ap, subst, subst₂, arith, lit<, lit≤}
use native.Mathlib.Decide.{ℕ_discrete, dec_lt}
use lib.Dec.{leb-zero}
use Rattle.std.proofs.lemmas.Bool.Decides.{nat_tests}
use Rattle.facts.proofs.Members.{union, without}
use Rattle.facts.proofs.Tests.{not_both}
use Rattle.tasks.specs.Places.{here, there}
use Rattle.tasks.specs.declared.task.Task.{Task}
use Rattle.tasks.proofs.Fine.{is_fine}
use Rattle.costs.specs.Laws.{Lawful}
use Rattle.costs.proofs.Orders as orders
use Rattle.bounds.specs.Sound.{Sound}
use Rattle.theory.specs.Problem.{Problem, Usable}
use Rattle.theory.specs.Records.{goal_record, goal_waits}
use Rattle.theory.specs.Runs.{Trail, root, up, Tells, tells_plan, tells_none, tells_full, Runs, again, runs_out, finds, pauses, goes_on}
use Rattle.theory.specs.Queue.{Event, asked, run, read_out, ran, refused, holding, Queue, made, and_call, fresh, no_place, still_kept, runs, run_refused, reads}
use Rattle.theory.specs.Queue.{read_refused, grant_too_large, not_ended, list_too_short}
use Rattle.theory.specs.Examples.{numbers, blind, problem, last_records, Worked}
use Rattle.theory.specs.Tasks.{draft_with, two_moves, task_with, small}
use Rattle.theory.specs.declared.record.Record.{Record}
use Rattle.theory.specs.declared.refusal.Refusal.TheVariants.{GrantTooLarge, NotPlanned}
use Rattle.theory.specs.declared.reply.End.{End}
use Rattle.theory.specs.declared.reply.End.TheVariants.{Going, Planned}
use Rattle.theory.specs.declared.reply.Reply.{Reply}
use Rattle.theory.proofs.Basics.{impossible, which, hoped_or_not}
use Rattle.theory.proofs.Places.{at_some}
use Rattle.theory.proofs.Order.{compare}
use Rattle.theory.proofs.Keys.{ahead_or}
use Rattle.theory.proofs.Members.{decided, within_or_not, overlaps_or_not, same_or_not, regression}
use Rattle.theory.proofs.Paths.{Fitting}
use Rattle.theory.proofs.Standing.{Standing, first_stands, run_stands, alone}
use Rattle.theory.proofs.Told.{trail_same}
use Rattle.theory.proofs.Respond.{Responds, search_set, choice, take_one, take_some, out_of_records, found, opening, works, respond}

sums : Lawful leb 0 ◌+◌
sums = record {
  transitive = λ u v w p q. grind (arith, nat_tests);
  total = λ u v p. grind (arith, nat_tests);
  antisymmetric = λ u v p q. grind (arith, nat_tests);
  least = λ v. grind (arith, nat_tests);
  associative = λ u v w. omega arith;
  commutative = λ u v. omega arith;
  neutral = λ v. omega arith;
  monotone = λ u v w p. grind (arith, nat_tests);
}

largest : Lawful leb 0 max
largest = record {
  transitive = λ u v w p q. grind (arith, nat_tests);
  total = λ u v p. grind (arith, nat_tests);
  antisymmetric = λ u v p q. grind (arith, nat_tests);
  least = λ v. grind (arith, nat_tests);
  associative = λ u v w. omega arith;
  commutative = λ u v. omega arith;
  neutral = λ v. omega arith;
  monotone = λ u v w p. grind (arith, nat_tests);
}

zero_least : (n : ℕ) → T (leb 0 n)
zero_least n = subst T (sym (leb-zero n)) tt

usable : (join : ℕ → ℕ → ℕ) (task : Task) (room : ℕ) → Usable (problem join task room) blind
usable join task room = record { fitting = refl; drawn = λ o. not_both (zero_least o.1.price) o.3 }

-- the bound keeps its two laws
sound : (join : ℕ → ℕ → ℕ) (task : Task) → Sound (numbers join) task blind.estimate blind.share
sound join task = record { within = λ s w. refl; step = λ k m s u a r. zero_least (join 0 0) }

-- a way of joining costs, a start, a goal and a room
record Setting : Type 0 where
  pub join : ℕ → ℕ → ℕ
  pub law : Lawful leb 0 join
  pub start : ℕ
  pub goal : ℕ
  pub room : ℕ
  pub some : 1 ≤ room
  pub few : room ≤ 65535
  pub fine : T (is_fine (draft_with 3 start goal two_moves))

abbrev task_in : Setting → Task
task_in S = task_with 3 S.start S.goal two_moves S.fine

abbrev posed : (S : Setting) → Problem (numbers S.join)
posed S = problem S.join (task_in S) S.room

usable_in : (S : Setting) → Usable (posed S) blind
usable_in S = usable S.join (task_in S) S.room

fitting : (S : Setting) → Fitting (posed S)
fitting S = record {
  roomy = S.some;
  laws = record { lawful = S.law };
  faultless = (task_in S).checked;
  trusted = record { sound = sound S.join (task_in S); drawn = (usable_in S).drawn };
}

-- the length told with a plan is that of its list
module _ {join : ℕ → ℕ → ℕ} {P : Problem (numbers join)} where
  tells_length : {recs : List (Record ℕ)} {end : End} {r : Reply ℕ} {i : ℕ} {l : List ℕ} → Tells P recs end r → end ≡ Planned i → Trail recs i l
      → r.length ≡ length l
  tells_length {recs = recs} {i = i} (tells_plan {i = j} {l = k} a t) e trail =
      let same : j ≡ i = cc in ap length (trail_same (subst (λ x. Trail recs x k) same t) trail)
  tells_length tells_none e trail = impossible (cc)
  tells_length (tells_full a) e trail = impossible (cc)

  plan_length : {n : ℕ} {recs later : List (Record ℕ)} {end last : End} {r : Reply ℕ} {i : ℕ} {l : List ℕ}
      → Runs P n recs end r later last → last ≡ Planned i → Trail later i l → r.length ≡ length l
  plan_length (again t) e trail = tells_length t e trail
  plan_length (runs_out none) e trail = impossible (cc)
  plan_length (finds ch w t) e trail = tells_length (tells_plan ch.at t) e trail
  plan_length (pauses ch w) e trail = impossible (cc)
  plan_length (Runs.fills ch w o) e trail = impossible (cc)
  plan_length (goes_on ch w o rest) e trail = plan_length rest e trail

-- a queue so far, with how its search stands
record Played (S : Setting) : Type 0 where
  pub events : List (Event ℕ)
  pub records : List (Record ℕ)
  pub end : End
  pub queue : Queue (posed S) events (holding records end)
  pub standing : Standing (posed S) records end

new : (S : Setting) → Played S
unfolding first_stands alone
new S = record {
  events = [];
  records = goal_record (posed S) 0 ∷ [];
  end = Going;
  queue = made (fresh (record { some = S.some; few = S.few }) (usable_in S) (goal_waits refl));
  standing = first_stands (fitting S) (goal_waits refl);
}

answer : (S : Setting) (n : ℕ) (p : Played S) → Responds (posed S) n p.records p.end
unfolding respond works choice found opening out_of_records take_some take_one search_set regression within_or_not same_or_not overlaps_or_not decided union without ahead_or which compare orders.compare hoped_or_not at_some ℕ_discrete dec_lt
answer S n p = respond (fitting S) n p.standing

and_run : (S : Setting) (n : ℕ) → n ≤ 65536 → Played S → Played S
unfolding answer run_stands
and_run S n small p =
    let a = answer S n p in
    record {
      events = asked (run n blind) (ran a.reply) ∷ p.events;
      records = a.later;
      end = a.last;
      queue = and_call p.queue (runs small (usable_in S) a.runs);
      standing = run_stands (fitting S) p.standing a.runs;
    }

-- a reply with the length of this list
abbrev with_list : Reply ℕ → List ℕ → Reply ℕ
with_list r l = record { kind = r.kind; opened = r.opened; value = r.value; length = length l }

-- a run that finds a plan, with the list read out
and_plan : (S : Setting) (n : ℕ) → n ≤ 65536 → (p : Played S) (i : ℕ) (l : List ℕ) → (answer S n p).last ≡ Planned i → Trail (answer S n p).later i l
    → Queue (posed S) (asked (run n blind) (ran (with_list (answer S n p).reply l)) ∷ p.events) (holding (answer S n p).later (Planned i))
and_plan S n small p i l e t =
    let a = answer S n p in
    and_call p.queue (runs small (usable_in S) (subst₂
    (λ x y. Runs (posed S) n p.records p.end (record { kind = a.reply.kind; opened = a.reply.opened; value = a.reply.value; length = x }) a.later y)
    (plan_length a.runs e t) e a.runs))

abbrev four_places : Setting
four_places =
    record { join = ◌+◌; law = sums; start = 1; goal = 6; room = 4; some = lit≤ tt; few = lit≤ tt; fine = tt }

abbrev three_places : Setting
three_places =
    record { join = ◌+◌; law = sums; start = 1; goal = 6; room = 3; some = lit≤ tt; few = lit≤ tt; fine = tt }

abbrev two_places : Setting
two_places =
    record { join = ◌+◌; law = sums; start = 1; goal = 6; room = 2; some = lit≤ tt; few = lit≤ tt; fine = tt }

abbrev by_largest : Setting
by_largest =
    record { join = max; law = largest; start = 1; goal = 6; room = 4; some = lit≤ tt; few = lit≤ tt; fine = tt }

abbrev no_goal : Setting
no_goal = record { join = ◌+◌; law = sums; start = 1; goal = 0; room = 4; some = lit≤ tt; few = lit≤ tt; fine = tt }

abbrev no_start : Setting
no_start = record { join = ◌+◌; law = sums; start = 0; goal = 6; room = 4; some = lit≤ tt; few = lit≤ tt; fine = tt }

-- record 3 came by move 0 from record 2, and that by move 1 from record 0
trail : (cost : ℕ) → Trail (last_records cost) 3 (0 ∷ 1 ∷ [])
trail cost = up (λ e. omega arith) (there (there (there here))) (up (λ e. omega arith) (there (there here)) root)

pub worked : Worked
unfolding new answer and_run
worked = record {
  honest = record { checked = small.checked; sound = λ fits. sound ◌+◌ small };
  four_runs =
      (let second = and_run four_places 1 (lit≤ tt) (new four_places) in
      let third = and_run four_places 1 (lit≤ tt) second in
      let fourth = and_run four_places 0 (lit≤ tt) third in and_plan four_places 1 (lit≤ tt) fourth 3 (0 ∷ 1 ∷ []) refl (trail 19));
  room_for_three = (let p = and_run three_places 9 (lit≤ tt) (new three_places) in (p.records, p.queue));
  room_for_two = (let p = and_run two_places 9 (lit≤ tt) (new two_places) in (p.records, p.queue));
  largest = and_call (and_call (and_plan by_largest 4 (lit≤ tt) (new by_largest) 3 (0 ∷ 1 ∷ []) refl (trail 15)) (reads (trail 15) (lit≤ tt)))
      (read_refused (list_too_short (trail 15) (lit< tt)));
  empty_goal = (let p = new no_goal in ((answer no_goal 0 p).later, and_plan no_goal 0 (lit≤ tt) p 0 [] refl root));
  empty_start = (let p = and_run no_start 4 (lit≤ tt) (new no_start) in (p.records, p.queue));
  not_yet =
      (let first = new no_start in
      let second : Played no_start = record {
        events = asked (read_out 9) (refused NotPlanned) ∷ asked (run 65537 blind) (refused GrantTooLarge) ∷ [];
        records = first.records;
        end = Going;
        queue = and_call (and_call first.queue (run_refused (grant_too_large (lit< tt)))) (read_refused not_ended);
        standing = first.standing;
      } in
      let third = and_run no_start 3 (lit≤ tt) second in (third.records, third.queue));
  no_table = and_call (made (no_place refl)) still_kept;
}
