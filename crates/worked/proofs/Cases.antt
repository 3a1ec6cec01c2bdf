-- The cases worked through.
use Rattle.std.proofs.Common.{◌≡◌, ℕ, false, T, leb, List, [], ◌∷◌, sym, refl, arith, lit<, lit≤}
use Rattle.facts.specs.Words.{bit}
use Rattle.facts.proofs.Tests.{not_both, not_true_false}
use Rattle.tasks.specs.Places.{At, here, there}
use Rattle.tasks.specs.Tasks.{draft_of}
use Rattle.tasks.specs.declared.draft.Draft.{Draft}
use Rattle.tasks.specs.declared.moves.Move.{Move}
use Rattle.tasks.specs.declared.task.Task.{Task}
use Rattle.costs.specs.Estimates.{join_each}
use Rattle.costs.specs.Laws.{Lawful}
use Rattle.costs.specs.Lists.{charge_of}
use Rattle.costs.specs.Minutes.{held}
use Rattle.costs.specs.Worst.{single}
use Rattle.costs.specs.declared.tally.Tally.{Ghosts}
use Rattle.tables.proofs.Closing.{shares_are_drawn}
use Rattle.theory.specs.Problem.{Problem, Lent, Usable, Roomy, Honest}
use Rattle.theory.specs.Queue.{State, Makes, no_place, fresh, overdrawn, Event, Queue, made, and_call, still_kept, runs, run_refused, grant_too_large, reads, read_refused}
use Rattle.theory.specs.Queue.{not_ended, list_too_short}
use Rattle.theory.specs.Records.{goal_waits, no_hope}
use Rattle.theory.specs.Runs.{Trail, root, up, runs_out}
use Rattle.theory.specs.Tasks.{set_of, two_moves, small, goalless, startless}
use Rattle.theory.specs.declared.record.Mark.TheVariants.{Waiting, Shut}
use Rattle.theory.specs.declared.record.Record.{Record}
use Rattle.theory.specs.declared.reply.End.TheVariants.{Going}
use Rattle.theory.proofs.Single.{makes_same}
use Rattle.worked.specs.Cases.{Goes, Made, WorkedCases}
use Rattle.costs.specs.Kinds.{minutes, worst}
use Rattle.worked.specs.Lending.{blind, every_group, only_group, Table, reading, summed, posing}
use Rattle.worked.proofs.Laws.{minutes_lawful, minutes_laws, worst_lawful}
use Rattle.worked.proofs.Only.{Own, goes}
use Rattle.worked.proofs.Play.{Posed, Played, new, answer, and_run, and_plan}
use Rattle.worked.proofs.Tables as tables

module _ {V : Type 0} {tally : Ghosts V} where
  module _ (laws : Lawful tally.at_most tally.nil tally.join) (t : Task) (room : ℕ) where
    -- blind keeps its two laws, and is not overdrawn
    honest : Honest (posing tally t (blind tally) room)
    honest = record {
      checked = t.checked;
      sound = λ fits. record { within = λ s w. refl; step = λ k m s u a r. laws.least (tally.join tally.nil tally.nil) };
    }

    posed : T (leb 1 room) → T (leb room 65535) → Posed (posing tally t (blind tally) room)
    posed some few = record {
      fitting = record {
        roomy = lit≤ some;
        laws = record { lawful = laws };
        faultless = t.checked;
        trusted = record {
          sound = honest.sound refl;
          drawn = λ o. not_both (laws.least (charge_of tally o.1)) o.3;
        };
      };
      fits = refl;
      few = lit≤ few;
    }

  shown : {P : Problem tally} {es : List (Event V)} {now : State V} → Posed P → Own P es → Queue P es now → Goes P es
  shown {P} p own q =
      goes P p.fitting.laws.lawful (record { checked = p.fitting.faultless; sound = λ fits. p.fitting.trusted.sound }) own q

  made_so : {P : Problem tally} {state : State V} → Makes P state → Made P state
  made_so {P} m = record { makes = m; only = λ other n. makes_same P n m }

  four : {d : Draft} {b : Lent V} → Roomy {tally = tally} (record { draft = d; bound = b; room = 4 })
  four = record { some = lit≤ tt; few = lit≤ tt }

-- the four records when the plan is found, the last of them at this cost
abbrev last_records : {V : Type 0} → Ghosts V → V → List (Record V)
last_records tally cost =
    record { set = set_of 6; spent = tally.nil; promise = tally.nil; parent = 65535; via = 65535; mark = Shut }
    ∷ record { set = set_of 5; spent = tally.charge 15 0; promise = tally.charge 15 0; parent = 0; via = 0; mark = Shut }
    ∷ record { set = set_of 2; spent = tally.charge 4 1; promise = tally.charge 4 1; parent = 0; via = 1; mark = Shut }
    ∷ record { set = set_of 1; spent = cost; promise = cost; parent = 2; via = 0; mark = Waiting } ∷ []

-- record 3 came by move 0 from record 2, and that by move 1 from record 0
trail : {V : Type 0} (tally : Ghosts V) (cost : V) → Trail (last_records tally cost) 3 (0 ∷ 1 ∷ [])
trail tally cost = up (λ e. omega arith) (there (there (there here))) (up (λ e. omega arith) (there (there here)) root)

small_by_minutes : (room : ℕ) → T (leb 1 room) → T (leb room 65535) → Posed (posing minutes small (blind minutes) room)
small_by_minutes = posed minutes_lawful small

small_by_worst : Posed (posing worst small (blind worst) 4)
small_by_worst = posed worst_lawful small 4 tt tt

goalless_by_minutes : Posed (posing minutes goalless (blind minutes) 4)
goalless_by_minutes = posed minutes_lawful goalless 4 tt tt

startless_by_minutes : Posed (posing minutes startless (blind minutes) 4)
startless_by_minutes = posed minutes_lawful startless 4 tt tt

-- where only the worst price counts, no share of the sum is above its charge
worst_usable : (one : Table worst small every_group 1) (other : Table worst small (only_group 1) 1) → Usable (posing worst small (summed worst (reading one) (reading other)) 4) (summed worst (reading one) (reading other))
unfolding bit
worst_usable one other = record { fitting = refl; drawn = λ o. each o.2 o.3 }
  where
    each : {k : ℕ} {m : Move} → At two_moves k m → worst.at_most ((summed worst (reading one) (reading other)).share k) (charge_of worst m) ≡ false → ⊥
    each here e = not_true_false (sym e)
    each (there here) e = not_true_false (sym e)
    each (there (there a)) e = elim a [ ]

pairs_usable : (pairs : Table minutes startless every_group 2) → Usable (posing minutes startless (reading pairs) 4) (reading pairs)
pairs_usable pairs = record { fitting = refl; drawn = shares_are_drawn minutes_laws (draft_of startless) every_group }

pub worked_cases : WorkedCases
unfolding new answer and_run bit
worked_cases = record {
  four_runs =
      (let p = small_by_minutes 4 tt tt in
      let second = and_run p 1 (lit≤ tt) (new p (held 0) refl) in
      let third = and_run p 1 (lit≤ tt) second in
      let fourth = and_run p 0 (lit≤ tt) third in
      shown p (tt, (refl, (refl, (refl, (refl, tt)))))
      (and_call (and_plan p 1 (lit≤ tt) fourth 3 (0 ∷ 1 ∷ []) refl (trail minutes (held 19))) (reads (trail minutes (held 19)) (lit≤ tt))));
  room_for_three = (let p = small_by_minutes 3 tt tt in shown p (refl, tt) (and_run p 9 (lit≤ tt) (new p (held 0) refl)).queue);
  room_for_two = (let p = small_by_minutes 2 tt tt in shown p (refl, tt) (and_run p 9 (lit≤ tt) (new p (held 0) refl)).queue);
  no_room = goes (posing minutes small (blind minutes) 0) minutes_lawful (honest minutes_lawful small 0) (refl, tt) (and_call (made (no_place refl)) still_kept);
  by_worst =
      (let p = small_by_worst in
      let read = trail worst (single 15) in
      shown p (tt, (tt, (refl, tt)))
      (and_call (and_call (and_plan p 4 (lit≤ tt) (new p (single 0) refl) 3 (0 ∷ 1 ∷ []) refl read) (reads read (lit≤ tt))) (read_refused (list_too_short read (lit< tt)))));
  nothing_to_do = (let p = goalless_by_minutes in shown p (refl, tt) (and_plan p 0 (lit≤ tt) (new p (held 0) refl) 0 [] refl root));
  no_way = (let p = startless_by_minutes in shown p (refl, tt) (and_run p 4 (lit≤ tt) (new p (held 0) refl)).queue);
  not_yet =
      (let p = startless_by_minutes in
      let first = new p (held 0) refl in
      let second : Played (posing minutes startless (blind minutes) 4) = record {
        events = _;
        records = first.records;
        end = Going;
        queue = and_call (and_call first.queue (run_refused (grant_too_large (lit< tt)))) (read_refused not_ended);
        standing = first.standing;
      } in
      shown p (refl, (tt, (refl, tt))) (and_run p 3 (lit≤ tt) second).queue);
  no_way_by_pairs = record {
    one = (tables.startless_by_pairs).one;
    all = λ pairs. goes (posing minutes startless (reading pairs) 4) minutes_lawful
        (record { checked = startless.checked; sound = λ fits. tables.startless_bound pairs }) (refl, tt)
        (and_call (made (fresh four (pairs_usable pairs) (no_hope ((tables.startless_by_pairs).all pairs))))
        (runs (lit≤ tt) (pairs_usable pairs) (runs_out (λ j q a w. elim a [ ]))));
  };
  goal_by_singles = tables.goal_by_singles;
  goal_by_sum = record {
    one = ((tables.goal_by_group_0).one, (tables.goal_by_group_1).one);
    all = λ w i. join_each minutes.join ((tables.goal_by_group_0).all w.0 i) ((tables.goal_by_group_1).all w.1 i);
  };
  goal_by_pairs = tables.goal_by_pairs;
  both_in_minutes = record {
    one = ((tables.goal_by_singles).one, (tables.goal_by_group_1).one);
    all = λ w. made_so (Makes.bad_bound four (overdrawn refl (1, _, there here, refl)));
  };
  overdrawn_is_ten = refl;
  both_by_worst = record {
    one = ((tables.worst_by_singles).one, (tables.worst_by_group_1).one);
    all = λ w. made_so (fresh four (worst_usable w.0 w.1)
        (goal_waits (λ i. join_each worst.join ((tables.worst_by_singles).all w.0 i) ((tables.worst_by_group_1).all w.1 i))));
  };
  never_first = tables.never_first;
  never_second = tables.never_second;
}
