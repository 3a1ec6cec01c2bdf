-- Queues played by the rules: the answers are computed, and only the lists read out are written down.
use Rattle.std.proofs.Common.{◌≡◌, ℕ, ◌≤◌, true, List, [], ◌∷◌, length, ap, subst, subst₂, Some}
use native.Mathlib.Decide.{ℕ_discrete, dec_lt}
use Rattle.facts.proofs.Members.{union, without}
use Rattle.costs.specs.declared.tally.Tally.{Ghosts}
use Rattle.costs.proofs.Orders as orders
use Rattle.theory.specs.Problem.{Problem, Usable}
use Rattle.theory.specs.Records.{goal_record, goal_waits}
use Rattle.theory.specs.Runs.{Trail, Tells, tells_plan, tells_none, tells_full, Runs, again, runs_out, finds, pauses, goes_on}
use Rattle.theory.specs.Queue.{Event, asked, run, ran, holding, Queue, made, and_call, fresh, runs}
use Rattle.theory.specs.declared.record.Record.{Record}
use Rattle.theory.specs.declared.reply.End.{End}
use Rattle.theory.specs.declared.reply.End.TheVariants.{Going, Planned}
use Rattle.theory.specs.declared.reply.Reply.{Reply}
use Rattle.theory.proofs.Basics.{impossible, which, hoped_or_not}
use Rattle.theory.proofs.Places.{at_some}
use Rattle.theory.proofs.Order.{compare}
use Rattle.theory.proofs.Keys.{ahead_or}
use Rattle.theory.proofs.Members.{decided, within_or_not, overlaps_or_not, same_or_not, regression}
use Rattle.theory.proofs.Paths.{Fitting}
use Rattle.theory.proofs.Standing.{Standing, first_stands, run_stands, alone}
use Rattle.theory.proofs.Told.{trail_same}
use Rattle.theory.proofs.Respond.{Responds, search_set, choice, take_one, take_some, out_of_records, found, opening, works, respond}

-- the length told with a plan is that of its list
module _ {V : Type 0} {tally : Ghosts V} {P : Problem tally} where
  tells_length : {recs : List (Record V)} {end : End} {r : Reply V} {i : ℕ} {l : List ℕ} → Tells P recs end r → end ≡ Planned i → Trail recs i l
      → r.length ≡ length l
  tells_length {recs = recs} {i = i} (tells_plan {i = j} {l = k} a t) e trail =
      let same : j ≡ i = cc in ap length (trail_same (subst (λ x. Trail recs x k) same t) trail)
  tells_length tells_none e trail = impossible (cc)
  tells_length (tells_full a) e trail = impossible (cc)

  plan_length : {n : ℕ} {recs later : List (Record V)} {end last : End} {r : Reply V} {i : ℕ} {l : List ℕ}
      → Runs P n recs end r later last → last ≡ Planned i → Trail later i l → r.length ≡ length l
  plan_length (again t) e trail = tells_length t e trail
  plan_length (runs_out none) e trail = impossible (cc)
  plan_length (finds ch w t) e trail = tells_length (tells_plan ch.at t) e trail
  plan_length (pauses ch w) e trail = impossible (cc)
  plan_length (Runs.fills ch w o) e trail = impossible (cc)
  plan_length (goes_on ch w o rest) e trail = plan_length rest e trail

-- a problem whose make is not refused
pub record Posed {V : Type 0} {tally : Ghosts V} (P : Problem tally) : Type 0 where
  pub fitting : Fitting P
  pub fits : P.bound.fits ≡ true
  pub few : P.room ≤ 65535

-- a queue so far, with how its search stands
pub record Played {V : Type 0} {tally : Ghosts V} (P : Problem tally) : Type 0 where
  pub events : List (Event V)
  pub records : List (Record V)
  pub end : End
  pub queue : Queue P events (holding records end)
  pub standing : Standing P records end

-- a reply with the length of this list
abbrev pub with_list : {V : Type 0} → Reply V → List ℕ → Reply V
with_list r l = record { kind = r.kind; opened = r.opened; value = r.value; length = length l }

module _ {V : Type 0} {tally : Ghosts V} {P : Problem tally} (posed : Posed P) where
  pub usable : Usable P P.bound
  usable = record { fitting = posed.fits; drawn = posed.fitting.trusted.drawn }

  unfoldable pub new : (e : V) → P.bound.estimate P.draft.goal ≡ Some e → Played P
  unfolding first_stands alone
  new e h = record {
    events = [];
    records = goal_record P e ∷ [];
    end = Going;
    queue = made (fresh (record { some = posed.fitting.roomy; few = posed.few }) usable (goal_waits h));
    standing = first_stands posed.fitting (goal_waits h);
  }

  unfoldable pub answer : (n : ℕ) (p : Played P) → Responds P n p.records p.end
  unfolding respond works choice found opening out_of_records take_some take_one search_set regression within_or_not same_or_not overlaps_or_not decided union without ahead_or which compare orders.compare hoped_or_not at_some ℕ_discrete dec_lt
  answer n p = respond posed.fitting n p.standing

  unfoldable pub and_run : (n : ℕ) → n ≤ 65536 → Played P → Played P
  unfolding answer run_stands
  and_run n small p =
      let a = answer n p in
      record {
        events = asked (run n P.bound) (ran a.reply) ∷ p.events;
        records = a.later;
        end = a.last;
        queue = and_call p.queue (runs small usable a.runs);
        standing = run_stands posed.fitting p.standing a.runs;
      }

  -- a run that finds a plan, with the list read out
  pub and_plan : (n : ℕ) → n ≤ 65536 → (p : Played P) (i : ℕ) (l : List ℕ) → (answer n p).last ≡ Planned i → Trail (answer n p).later i l
      → Queue P (asked (run n P.bound) (ran (with_list (answer n p).reply l)) ∷ p.events) (holding (answer n p).later (Planned i))
  and_plan n small p i l e t =
      let a = answer n p in
      and_call p.queue (runs small usable (subst₂
      (λ x y. Runs P n p.records p.end (record { kind = a.reply.kind; opened = a.reply.opened; value = a.reply.value; length = x }) a.later y)
      (plan_length a.runs e t) e a.runs))
