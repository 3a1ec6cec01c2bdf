-- What every queue keeps, call by call.
use Rattle.std.proofs.Common.{◌≡◌, ℕ, zero, suc, ◌+◌, ◌<◌, ◌≤◌, ◌⊎◌, List, [], ◌∷◌, length, sym, refl, ap, ◌∙◌, subst, subst₂, inl, inr, arith}
use Rattle.tasks.specs.Lists.{GoodIn}
use Rattle.tasks.specs.Places.{At, here, there}
use Rattle.tasks.proofs.Places.{at_same}
use Rattle.costs.specs.Laws.{Lawful}
use Rattle.costs.specs.Lists.{Costs}
use Rattle.costs.specs.declared.tally.Tally.{Ghosts}
use Rattle.theory.specs.Problem.{Problem, Lent, handed, Usable, Roomy, Honest}
use Rattle.theory.specs.Meets.{MeetsMoreIn}
use Rattle.theory.specs.Records.{First, goal_waits, no_hope}
use Rattle.theory.specs.Runs.{Trail, Tells, tells_plan, tells_none, tells_full, Runs, again, finds, goes_on}
use Rattle.theory.specs.Queue.{Call, run, read_out, Answer, ran, read, refused, State, kept, holding, Makes, no_place, too_many_places, fresh, Answers}
use Rattle.theory.specs.Queue.{still_kept, runs, run_refused, reads, read_refused, Event, asked, Queue, made, and_call, SameEstimates, Steady, granted}
use Rattle.theory.specs.Promise.{Floor, Told, shuts, openings, Promises, QueuesKeepPromises}
use Rattle.theory.specs.declared.record.Mark.TheVariants.{Waiting}
use Rattle.theory.specs.declared.record.Record.{Record}
use Rattle.theory.specs.declared.refusal.Refusal.{Refusal}
use Rattle.theory.specs.declared.reply.End.{End}
use Rattle.theory.specs.declared.reply.End.TheVariants.{Going, Planned, Exhausted, Filled}
use Rattle.theory.specs.declared.reply.Kind.{Kind}
use Rattle.theory.specs.declared.reply.Kind.TheVariants.{Pending, Plan, NoPlan, Full}
use Rattle.theory.specs.declared.reply.Reply.{Reply}
use Rattle.theory.proofs.Basics.{impossible}
use Rattle.theory.proofs.Order.{Laws, Le}
use Rattle.theory.proofs.Paths.{Fitting, leads_costs, leads_good}
use Rattle.theory.proofs.Table.{rooted_at, rooted_trail, rooted_leads}
use Rattle.theory.proofs.Standing.{FloorAt, Standing, first_stands, run_stands, at_work, found_plan, gave_up, overfull}
use Rattle.theory.proofs.Count.{waiting_shuts, run_pending, run_shuts}
use Rattle.theory.proofs.Told.{uncounted, Said, Listed, trail_same, run_says, run_keeps, new_floor, said_under, list_keeps, end_told, floor_told, listed}

-- a bound with the same estimates makes no difference to a run
pub handed_same : {V : Type 0} {tally : Ghosts V} (P : Problem tally) (b : Lent V) → SameEstimates P b → handed P b ≡ P
handed_same P b same = λ i. record {
  draft = P.draft;
  bound = record { fits = P.bound.fits; estimate = λ s. same s i; share = P.bound.share };
  room = P.room;
}

pub as_made : {V : Type 0} {tally : Ghosts V} (P : Problem tally) (b : Lent V) → SameEstimates P b → {n : ℕ} {recs later : List (Record V)}
    {end last : End} {r : Reply V} → Runs (handed P b) n recs end r later last → Runs P n recs end r later last
as_made P b same {n} {recs} {later} {end} {last} {r} go = subst (λ Q. Runs Q n recs end r later last) (handed_same P b same) go

pub as_handed : {V : Type 0} {tally : Ghosts V} (P : Problem tally) (b : Lent V) → SameEstimates P b → {n : ℕ} {recs later : List (Record V)}
    {end last : End} {r : Reply V} → Runs P n recs end r later last → Runs (handed P b) n recs end r later last
as_handed P b same {n} {recs} {later} {end} {last} {r} go = subst (λ Q. Runs Q n recs end r later last) (sym (handed_same P b same)) go

-- a new search after runs with these grants in all
pub data Grown {V : Type 0} {tally : Ghosts V} (P : Problem tally) : ℕ → List (Record V) → End → Type 0 where
  no_run : {recs : List (Record V)} → First P recs → Grown P 0 recs Going
  and_run : {g n : ℕ} {recs later : List (Record V)} {end last : End} {r : Reply V} → Grown P g recs end → Runs P n recs end r later last
      → Grown P (g + n) later last

-- the end has been told, or every grant so far went into openings and a record waits
pub data Progress {V : Type 0} (es : List (Event V)) (g : ℕ) (recs : List (Record V)) (end : End) : Type 0 where
  end_told_by : {i : ℕ} {c : Call V} {r : Reply V} → At es i (asked c (ran r)) → (r.kind ≡ Pending → ⊥) → Progress es g recs end
  going : end ≡ Going → shuts recs ≡ g → (g ≡ 0) ⊎ ((j : ℕ) × (q : Record V) × At recs j q × (q.mark ≡ Waiting)) → Progress es g recs end

-- a run before the event j told a plan
pub record PlanBefore {V : Type 0} (es : List (Event V)) (j : ℕ) : Type 0 where
  pub number : ℕ
  pub call : Call V
  pub reply : Reply V
  pub before : j < number
  pub at : At es number (asked call (ran reply))
  pub is : reply.kind ≡ Plan

-- some run told a plan, if that is how the search has ended
pub data Planning {V : Type 0} (es : List (Event V)) : End → Type 0 where
  not_yet : Planning es Going
  in_vain : Planning es Exhausted
  no_place_left : {i : ℕ} → Planning es (Filled i)
  told_plan : {i j : ℕ} {c : Call V} {r : Reply V} → At es j (asked c (ran r)) → r.kind ≡ Plan → Planning es (Planned i)

pub record Held {V : Type 0} {tally : Ghosts V} (P : Problem tally) (es : List (Event V)) (recs : List (Record V)) (end : End) : Type 0 where
  pub standing : Standing P recs end
  pub said : {i : ℕ} {c : Call V} {r : Reply V} → At es i (asked c (ran r)) → Said P recs end r
  pub reads : {i : ℕ} {c : Call V} {l : List ℕ} → At es i (asked c (read l)) → Listed recs l end
  pub rising : {i j : ℕ} {c d : Call V} {later earlier : Reply V} → At es i (asked c (ran later)) → At es j (asked d (ran earlier)) → i < j
      → Floor later → Floor earlier → Le tally earlier.value later.value
  pub planned : Planning es end
  pub listed_after : {j : ℕ} {d : Call V} {l : List ℕ} → At es j (asked d (read l)) → PlanBefore es j
  pub counted : openings es ≡ shuts recs
  pub progress : Progress es (granted es) recs end
  pub grown : Grown P (granted es) recs end

-- every call was answered with the refusal that make kept
pub record Turned {V : Type 0} {tally : Ghosts V} (P : Problem tally) (es : List (Event V)) (why : Refusal) : Type 0 where
  pub makes : Makes P (kept why)
  pub each : {i : ℕ} {c : Call V} {a : Answer V} → At es i (asked c a) → a ≡ refused why
  pub unopened : openings es ≡ 0

pub data Stood {V : Type 0} {tally : Ghosts V} (P : Problem tally) (es : List (Event V)) : State V → Type 0 where
  turned_away : {why : Refusal} → Turned P es why → Stood P es (kept why)
  at_hand : {first recs : List (Record V)} {end : End} → Makes P (holding first Going) → Fitting P → Held P es recs end → Stood P es (holding recs end)

pending_or_not : (k : Kind) → (k ≡ Pending) ⊎ (k ≡ Pending → ⊥)
pending_or_not Pending = inl refl
pending_or_not Plan = inr (λ e. impossible (cc))
pending_or_not NoPlan = inr (λ e. impossible (cc))
pending_or_not Full = inr (λ e. impossible (cc))

later_plan : {V : Type 0} {es : List (Event V)} {j : ℕ} (e : Event V) → PlanBefore es j → PlanBefore (e ∷ es) (suc j)
later_plan e p =
    record { number = suc p.number; call = p.call; reply = p.reply; before = omega (arith, p.before); at = there p.at; is = p.is }

later_planning : {V : Type 0} {es : List (Event V)} {end : End} (e : Event V) → Planning es end → Planning (e ∷ es) end
later_planning e not_yet = not_yet
later_planning e in_vain = in_vain
later_planning e no_place_left = no_place_left
later_planning e (told_plan a is) = told_plan (there a) is

later_progress : {V : Type 0} {es : List (Event V)} {g h : ℕ} {recs : List (Record V)} {end : End} (e : Event V) → g ≡ h → Progress es g recs end
    → Progress (e ∷ es) h recs end
later_progress e same (end_told_by a ne) = end_told_by (there a) ne
later_progress {recs = recs} e same (going f s w) =
    going f (s ∙ same) (subst (λ x. (x ≡ 0) ⊎ ((j : ℕ) × (q : Record _) × At recs j q × (q.mark ≡ Waiting))) same w)

-- a run that ends with a plan tells so
plan_kind : {V : Type 0} {tally : Ghosts V} {P : Problem tally} {n i : ℕ} {recs later : List (Record V)} {end : End} {r : Reply V}
    → Runs P n recs end r later (Planned i) → r.kind ≡ Plan
plan_kind (again (tells_plan a t)) = refl
plan_kind (finds ch w t) = refl
plan_kind (goes_on ch w o rest) = plan_kind rest

planning : {V : Type 0} {es : List (Event V)} {j : ℕ} {c : Call V} {r : Reply V} (last : End) → At es j (asked c (ran r))
    → ((i : ℕ) → last ≡ Planned i → r.kind ≡ Plan) → Planning es last
planning Going at is = not_yet
planning Exhausted at is = in_vain
planning (Filled i) at is = no_place_left
planning (Planned i) at is = told_plan at (is i refl)

module _ {V : Type 0} {tally : Ghosts V} {P : Problem tally} (F : Fitting P) where
  new_held : {recs : List (Record V)} → First P recs → Held P [] recs Going
  new_held {recs} first = record {
    standing = first_stands F first;
    said = λ a. elim a [ ];
    reads = λ a. elim a [ ];
    rising = λ a b h f g. elim a [ ];
    planned = not_yet;
    listed_after = λ a. elim a [ ];
    counted = sym (no_shut first);
    progress = going refl (no_shut first) (inl refl);
    grown = no_run first;
  }
    where
      no_shut : {recs : List (Record V)} → First P recs → shuts recs ≡ 0
      no_shut (goal_waits h) = refl
      no_shut (no_hope h) = refl

  module _ {es : List (Event V)} {n : ℕ} {b : Lent V} {recs later : List (Record V)} {end end' : End} {r : Reply V}
      (held : Held P es recs end) (runs : Runs P n recs end r later end') where
    ran_said : {i : ℕ} {c : Call V} {s : Reply V} → At (asked (run n b) (ran r) ∷ es) i (asked c (ran s)) → Said P later end' s
    ran_said here = run_says F held.standing runs
    ran_said (there a) = run_keeps F held.standing runs (held.said a)

    ran_reads : {i : ℕ} {c : Call V} {l : List ℕ} → At (asked (run n b) (ran r) ∷ es) i (asked c (read l)) → Listed later l end'
    ran_reads (there a) = list_keeps F runs (held.reads a)

    ran_rising : {i j : ℕ} {c d : Call V} {late early : Reply V} → At (asked (run n b) (ran r) ∷ es) i (asked c (ran late))
        → At (asked (run n b) (ran r) ∷ es) j (asked d (ran early)) → i < j → Floor late → Floor early → Le tally early.value late.value
    ran_rising a here h f e = absurd (omega arith)
    ran_rising here (there b) h f e = new_floor F held.standing runs (said_under F (held.said b) e) f
    ran_rising (there a) (there b) h f e = held.rising a b (omega arith) f e

    ran_progress : Progress es (granted es) recs end → Progress (asked (run n b) (ran r) ∷ es) (granted es + n) later end'
    ran_progress (end_told_by a ne) = end_told_by (there a) ne
    ran_progress (going e s w) = elim (pending_or_not r.kind) [
      | inr ne ↦ end_told_by here ne
      | inl is ↦ (let paused = run_pending runs is in
          going paused.going (omega (arith, run_shuts F held.standing runs)) (inr (paused.number, paused.rec, paused.at, paused.waits)))
    ]

    ran_listed : {j : ℕ} {d : Call V} {l : List ℕ} → At (asked (run n b) (ran r) ∷ es) j (asked d (read l)) → PlanBefore (asked (run n b) (ran r) ∷ es) j
    ran_listed (there a) = later_plan (asked (run n b) (ran r)) (held.listed_after a)

    ran_planned : Planning (asked (run n b) (ran r) ∷ es) end'
    ran_planned = planning end' here (λ i e. plan_kind (subst (λ x. Runs P n recs end r later x) e runs))

    ran_held : Held P (asked (run n b) (ran r) ∷ es) later end'
    ran_held = record {
      standing = run_stands F held.standing runs;
      said = λ a. ran_said a;
      reads = λ a. ran_reads a;
      rising = λ a b h f e. ran_rising a b h f e;
      planned = ran_planned;
      listed_after = λ a. ran_listed a;
      counted = omega (arith, run_shuts F held.standing runs, held.counted);
      progress = ran_progress held.progress;
      grown = and_run held.grown runs;
    }

  read_held : {es : List (Event V)} {i places : ℕ} {recs : List (Record V)} {l : List ℕ} → Held P es recs (Planned i) → Trail recs i l
      → Held P (asked (read_out places) (read l) ∷ es) recs (Planned i)
  read_held {es} {i} {places} {recs} {l} held trail = record {
    standing = held.standing;
    said = λ a. said a;
    reads = λ a. reads a;
    rising = λ a b h f e. rise a b h f e;
    planned = later_planning (asked (read_out places) (read l)) held.planned;
    listed_after = λ a. listed_after a;
    counted = omega (arith, held.counted);
    progress = later_progress (asked (read_out places) (read l)) (omega arith) held.progress;
    grown = subst (λ g. Grown P g recs (Planned i)) (omega arith) held.grown;
  }
    where
      said : {j : ℕ} {c : Call V} {r : Reply V} → At (asked (read_out places) (read l) ∷ es) j (asked c (ran r)) → Said P recs (Planned i) r
      said (there a) = held.said a

      reads : {j : ℕ} {c : Call V} {k : List ℕ} → At (asked (read_out places) (read l) ∷ es) j (asked c (read k)) → Listed recs k (Planned i)
      reads here = listed trail
      reads (there a) = held.reads a

      plan_first : Planning es (Planned i) → PlanBefore (asked (read_out places) (read l) ∷ es) zero
      plan_first (told_plan a is) = record { number = _; call = _; reply = _; before = omega arith; at = there a; is = is }

      listed_after : {j : ℕ} {c : Call V} {k : List ℕ} → At (asked (read_out places) (read l) ∷ es) j (asked c (read k))
          → PlanBefore (asked (read_out places) (read l) ∷ es) j
      listed_after here = plan_first held.planned
      listed_after (there a) = later_plan (asked (read_out places) (read l)) (held.listed_after a)

      rise : {a b : ℕ} {c d : Call V} {late early : Reply V} → At (asked (read_out places) (read l) ∷ es) a (asked c (ran late))
          → At (asked (read_out places) (read l) ∷ es) b (asked d (ran early)) → a < b → Floor late → Floor early
          → Le tally early.value late.value
      rise (there a) (there b) h f e = held.rising a b (omega arith) f e

  refuse_held : {es : List (Event V)} {call : Call V} {why : Refusal} {recs : List (Record V)} {end : End} → Held P es recs end
      → Held P (asked call (refused why) ∷ es) recs end
  refuse_held {es} {call} {why} {recs} {end} held = record {
    standing = held.standing;
    said = λ a. said a;
    reads = λ a. reads a;
    rising = λ a b h f e. rise a b h f e;
    planned = later_planning (asked call (refused why)) held.planned;
    listed_after = λ a. listed_after a;
    counted = omega (arith, held.counted);
    progress = later_progress (asked call (refused why)) (omega arith) held.progress;
    grown = subst (λ g. Grown P g recs end) (omega arith) held.grown;
  }
    where
      said : {j : ℕ} {c : Call V} {r : Reply V} → At (asked call (refused why) ∷ es) j (asked c (ran r)) → Said P recs end r
      said (there a) = held.said a

      reads : {j : ℕ} {c : Call V} {k : List ℕ} → At (asked call (refused why) ∷ es) j (asked c (read k)) → Listed recs k end
      reads (there a) = held.reads a

      listed_after : {j : ℕ} {c : Call V} {k : List ℕ} → At (asked call (refused why) ∷ es) j (asked c (read k)) → PlanBefore (asked call (refused why) ∷ es) j
      listed_after (there a) = later_plan (asked call (refused why)) (held.listed_after a)

      rise : {a b : ℕ} {c d : Call V} {late early : Reply V} → At (asked call (refused why) ∷ es) a (asked c (ran late))
          → At (asked call (refused why) ∷ es) b (asked d (ran early)) → a < b → Floor late → Floor early → Le tally early.value late.value
      rise (there a) (there b) h f e = held.rising a b (omega arith) f e

-- what holds after a call, and so after every queue
module _ {V : Type 0} {tally : Ghosts V} (laws : Laws tally) {P : Problem tally} (honest : Honest P) where
  pub fitting : Roomy P → Usable P P.bound → Fitting P
  fitting roomy usable = record {
    roomy = roomy.some;
    laws = laws;
    faultless = honest.checked;
    trusted = record { sound = honest.sound usable.fitting; drawn = usable.drawn };
  }

  made_stood : {new : State V} → Makes P new → Stood P [] new
  made_stood (no_place z) = turned_away (record { makes = no_place z; each = λ a. elim a [ ]; unopened = refl })
  made_stood (too_many_places h) = turned_away (record { makes = too_many_places h; each = λ a. elim a [ ]; unopened = refl })
  made_stood (Makes.bad_bound roomy why) = turned_away (record { makes = Makes.bad_bound roomy why; each = λ a. elim a [ ]; unopened = refl })
  made_stood (fresh roomy usable first) = let F = fitting roomy usable in at_hand (fresh roomy usable first) F (new_held F first)

  call_stood : {es : List (Event V)} {before after : State V} {call : Call V} {answer : Answer V} → Stood P es before → Answers P before call answer after
      → ((n : ℕ) (b : Lent V) (r : Reply V) → asked call answer ≡ asked (run n b) (ran r) → SameEstimates P b) → Stood P (asked call answer ∷ es) after
  call_stood {es} (turned_away t) (still_kept {why = why} {call = call}) same = turned_away (record { makes = t.makes; each = λ a. each a; unopened = omega (arith, t.unopened) })
    where
      each : {i : ℕ} {c : Call V} {a : Answer V} → At (asked call (refused why) ∷ es) i (asked c a) → a ≡ refused why
      each here = refl
      each (there a) = t.each a
  call_stood (at_hand m F held) (runs {n = n} {b = b} {r = r} small usable go) same = at_hand m F (ran_held F held (as_made P b (same n b r refl) go))
  call_stood (at_hand m F held) (run_refused why) same = at_hand m F (refuse_held F held)
  call_stood (at_hand m F held) (reads trail enough) same = at_hand m F (read_held F held trail)
  call_stood (at_hand m F held) (read_refused why) same = at_hand m F (refuse_held F held)

  pub stood : {es : List (Event V)} {after : State V} → Queue P es after → Steady P es → Stood P es after
  stood (made m) steady = made_stood m
  stood (and_call {es = es} {call = call} {answer = answer} q step) steady =
      call_stood (stood q (λ i n b r a. steady (suc i) n b r (there a))) step
      (λ n b r e. steady zero n b r (subst (λ x. At (asked call answer ∷ es) zero x) e here))

-- what an end is worth, by its kind
module _ {V : Type 0} {tally : Ghosts V} {P : Problem tally} (F : Fitting P) where
  plan_cheapest : {recs : List (Record V)} {end : End} {s : Reply V} → Standing P recs end → Tells P recs end s → s.kind ≡ Plan → FloorAt P s.value
  plan_cheapest (found_plan rooted w floor) (tells_plan a t) e = subst (λ c. FloorAt P c.spent) (at_same (rooted_at rooted) a) floor
  plan_cheapest st tells_none e = impossible (cc)
  plan_cheapest st (tells_full a) e = impossible (cc)

  plan_readable : {recs : List (Record V)} {end : End} {s : Reply V} {l : List ℕ} → Standing P recs end → Tells P recs end s → s.kind ≡ Plan
      → Listed recs l end → Told P l s
  plan_readable {l = l} (found_plan {c = c} {l = k} rooted w floor) (tells_plan a t) e (listed trail) =
      let path = rooted_leads F rooted in
      let same = trail_same (rooted_trail rooted) trail in
      record {
        good = subst (λ x. GoodIn P.draft x) same (leads_good path w);
        costs = subst₂ (λ x y. Costs tally P.draft.moves.now x y.spent) same (at_same (rooted_at rooted) a) (leads_costs path);
        length_told = ap length (trail_same trail t);
      }
  plan_readable st tells_none e b = elim b [ ]
  plan_readable st (tells_full a) e b = elim b [ ]

  plan_attained : {recs : List (Record V)} {end : End} {s : Reply V} → Standing P recs end → Tells P recs end s → s.kind ≡ Plan → (l : List ℕ) × Told P l s
  plan_attained st (tells_plan {l = l} a t) e = (l, plan_readable st (tells_plan a t) e (listed t))
  plan_attained st tells_none e = impossible (cc)
  plan_attained st (tells_full a) e = impossible (cc)

  none_hopeless : {recs : List (Record V)} {end : End} {s : Reply V} → Standing P recs end → Tells P recs end s → s.kind ≡ NoPlan
      → (l : List ℕ) → GoodIn P.draft l → ⊥
  none_hopeless st (tells_plan a t) e = impossible (cc)
  none_hopeless (gave_up never) tells_none e = never
  none_hopeless st (tells_full a) e = impossible (cc)

  full_crowded : {recs : List (Record V)} {end : End} {s : Reply V} → Standing P recs end → Tells P recs end s → s.kind ≡ Full
      → FloorAt P s.value × MeetsMoreIn P.draft P.room
  full_crowded st (tells_plan a t) e = impossible (cc)
  full_crowded st tells_none e = impossible (cc)
  full_crowded (overfull b floor crowd) (tells_full a) e = (subst (λ c. FloorAt P c.promise) (at_same b a) floor, crowd)

  said_tells : {recs : List (Record V)} {end : End} {r : Reply V} → Said P recs end r → (r.kind ≡ Pending → ⊥) → Tells P recs end (uncounted r)
  said_tells (end_told t) ne = t
  said_tells (floor_told e f u) ne = absurd (ne e)

  said_floor : {recs : List (Record V)} {end : End} {r : Reply V} → Standing P recs end → Said P recs end r → Floor r → FloorAt P r.value
  said_floor st (floor_told e f u) fl = f
  said_floor st (end_told t) (inl e) = tells_pending t e
    where
      tells_pending : {recs : List (Record V)} {end : End} {s : Reply V} → Tells P recs end s → s.kind ≡ Pending → FloorAt P s.value
      tells_pending (tells_plan a t) e = impossible (cc)
      tells_pending tells_none e = impossible (cc)
      tells_pending (tells_full a) e = impossible (cc)
  said_floor st (end_told t) (inr e) = (full_crowded st t e).0

  held_keeps : {es : List (Event V)} {recs : List (Record V)} {end : End} → Held P es recs end → Promises P es (holding recs end)
  held_keeps {es} {recs} {end} h = record {
    cheapest = λ i c r a e l v good costs. ((plan_cheapest h.standing (said_tells (h.said a) (λ p. plan_not (sym p ∙ e))) e).below good costs).holds;
    attained = λ i c r a e. as_told (plan_attained h.standing (said_tells (h.said a) (λ p. plan_not (sym p ∙ e))) e);
    planned_first = λ j d l a. (let p = h.listed_after a in (p.number, p.call, p.reply, p.before, p.at, p.is));
    readable = λ i j c d r l a e b. counted_too (plan_readable h.standing (said_tells (h.said a) (λ p. plan_not (sym p ∙ e))) e (h.reads b));
    hopeless = λ i c r a e. none_hopeless h.standing (said_tells (h.said a) (λ p. none_not (sym p ∙ e))) e;
    crowded = λ i c r a e. (full_crowded h.standing (said_tells (h.said a) (λ p. full_not (sym p ∙ e))) e).1;
    floor = λ i c r a f l v good costs. ((said_floor h.standing (h.said a) f).below good costs).holds;
    rising = λ i j c d late early a b less f e. (h.rising a b less f e).holds;
    counted = h.counted;
    decided = λ recs end same room. in_time room h.progress;
    turned_down = λ why same. impossible (cc);
  }
    where
      counted_too : {l : List ℕ} {r : Reply V} → Told P l (uncounted r) → Told P l r
      counted_too t = record { good = t.good; costs = t.costs; length_told = t.length_told }

      as_told : {r : Reply V} → (l : List ℕ) × Told P l (uncounted r) → (l : List ℕ) × Told P l r
      as_told found = (found.0, counted_too found.1)

      plan_not : Pending ≡ Plan → ⊥
      plan_not e = impossible (cc)

      none_not : Pending ≡ NoPlan → ⊥
      none_not e = impossible (cc)

      full_not : Pending ≡ Full → ⊥
      full_not e = impossible (cc)

      room_kept : {end : End} → Standing P recs end → end ≡ Going → length recs ≤ P.room
      room_kept (at_work table settled) e = table.fits
      room_kept (found_plan r w f) e = impossible (cc)
      room_kept (gave_up never) e = impossible (cc)
      room_kept (overfull a f c) e = impossible (cc)

      in_time : P.room ≤ granted es → Progress es (granted es) recs end
          → (i : ℕ) × (c : Call V) × (r : Reply V) × At es i (asked c (ran r)) × (r.kind ≡ Pending → ⊥)
      in_time room (end_told_by {i = i} {c = c} {r = r} a ne) = (i, c, r, a, ne)
      in_time room (going e s (inl z)) = absurd (omega (arith, F.roomy))
      in_time room (going e s (inr w)) = absurd (omega (arith, waiting_shuts w.2 w.3, room_kept h.standing e))

-- a search that was never made keeps its promises too: no run told anything
turned_keeps : {V : Type 0} {tally : Ghosts V} {P : Problem tally} {es : List (Event V)} {why : Refusal} → Turned P es why → Promises P es (kept why)
turned_keeps {V} {es = es} {why = why} t = record {
  cheapest = λ i c r a e. absurd (not_ran a);
  attained = λ i c r a e. absurd (not_ran a);
  planned_first = λ j d l a. absurd (not_read a);
  readable = λ i j c d r l a e b. absurd (not_ran a);
  hopeless = λ i c r a e. absurd (not_ran a);
  crowded = λ i c r a e. absurd (not_ran a);
  floor = λ i c r a f. absurd (not_ran a);
  rising = λ i j c d late early a b less f e. absurd (not_ran a);
  counted = t.unopened;
  decided = λ recs end same room. impossible (cc);
  turned_down = λ other same i c a at. (let e : why ≡ other = cc in t.each at ∙ ap refused e);
}
  where
    not_ran : {i : ℕ} {c : Call V} {r : Reply V} → At es i (asked c (ran r)) → ⊥
    not_ran a = let e = t.each a in impossible (cc)

    not_read : {i : ℕ} {c : Call V} {l : List ℕ} → At es i (asked c (read l)) → ⊥
    not_read a = let e = t.each a in impossible (cc)

stood_keeps : {V : Type 0} {tally : Ghosts V} {P : Problem tally} {es : List (Event V)} {after : State V} → Stood P es after → Promises P es after
stood_keeps (turned_away t) = turned_keeps t
stood_keeps (at_hand m F held) = held_keeps F held

pub queues_keep_promises : {V : Type 0} {tally : Ghosts V} → Lawful tally.at_most tally.nil tally.join → QueuesKeepPromises tally
queues_keep_promises lawful P honest es after queue steady = stood_keeps (stood (record { lawful = lawful }) honest queue steady)
