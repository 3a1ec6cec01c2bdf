-- A book of calls on a new search is a queue of the rules, and so keeps the promises.
use Rattle.std.proofs.Common.{◌≡◌, ℕ, ◌≤◌, min, ◌⊎◌, List, ◌∷◌, length, Ok, Err, Result, sym, refl, ap, ◌∙◌, subst, subst₂, inl, inr, arith, length-take}
use Rattle.tasks.specs.Places.{At, here, there}
use Rattle.tasks.specs.Tasks.{draft_of}
use Rattle.tasks.specs.declared.task.Task.{Task}
use Rattle.tasks.proofs.Checks.{same_task}
use Rattle.costs.specs.Laws.{Lawful}
use Rattle.costs.specs.declared.tally.Tally.{Ghosts}
use Rattle.theory.specs.Problem.{Problem, Lent}
use Rattle.theory.specs.Queue as rules
use Rattle.theory.specs.Queue.{State, holding, Makes, Event, asked, Queue, made, and_call, SameEstimates, Steady}
use Rattle.theory.specs.declared.record.Record.{Record}
use Rattle.theory.specs.Runs.{Trail}
use Rattle.theory.specs.declared.refusal.Refusal.{Refusal}
use Rattle.theory.specs.declared.reply.End.{End}
use Rattle.theory.specs.declared.reply.End.TheVariants.{Planned}
use Rattle.theory.specs.declared.reply.Reply.{Reply}
use Rattle.theory.proofs.Basics.{impossible}
use Rattle.theory.proofs.Kept.{queues_keep_promises}
use Rattle.theory.proofs.Single.{only_sum_counts}
use Rattle.theory.proofs.Told.{trail_same}
use Rattle.records.proofs.Growing.{drop_further}
use Rattle.records.specs.Tables.{recs_of}
use Rattle.runs.specs.Trails.{Sane}
use Rattle.search.specs.Calls.{Made}
use Rattle.search.specs.States.{state_by, table_of, state_of}
use Rattle.search.specs.declared.search.Search.{Search}
use Rattle.search.proofs.Answering.{plan_traced}
use Rattle.queues.specs.Calls.{Outcome, call_of, Follows, at_first, and_then, Log, blank, entry, Book, Serves}
use Rattle.queues.specs.Promised.{KeepsPromises}
use Rattle.queues.specs.declared.calls.Call.{Call}
use Rattle.queues.specs.declared.calls.Call.TheVariants.{Run, ReadOut}

queue_by : {V : Type 0} {tally : Ghosts V} {P : Problem tally} {new : State V} {es : List (Event V)} {after : State V} → Makes P new → Follows P new es after → Queue P es after
queue_by m at_first = made m
queue_by m (and_then before step) = and_call (queue_by m before) step

module _ {V : Type 0} (b : Lent V) (places : ℕ) where
  -- a run of the queue is handed b
  handed_b : (call : Call) {n : ℕ} {d : Lent V} → call_of b places call ≡ rules.run n d → b ≡ d
  handed_b (Run m) e = cc
  handed_b (ReadOut room) e = impossible (cc)

  asked_same : {c d : rules.Call V} {a r : rules.Answer V} → ◌≡◌ {A = Event V} (asked c a) (asked d r) → c ≡ d
  asked_same e = cc

  one_or_more : {e f : Event V} {es : List (Event V)} {i : ℕ} → At (e ∷ es) i f → (e ≡ f) ⊎ ((j : ℕ) × At es j f)
  one_or_more here = inl refl
  one_or_more (there a) = inr (_, a)

  log_steady : {calls : List Call} {told : List (Outcome V)} {n : ℕ} {es : List (Event V)} → Log b places calls told n es
      → (i m : ℕ) (d : Lent V) (r : Reply V) → At es i (asked (rules.run m d) (rules.ran r)) → b ≡ d
  log_steady blank i m d r a = elim a [ ]
  log_steady (entry {call = call} log c t) i m d r a = elim (one_or_more a) [
    | inl e ↦ handed_b call (asked_same e)
    | inr later ↦ log_steady log later.0 m d r later.1
  ]

-- a search that has ended with a plan knows its trail
plan_brief : {V : Type 0} (made_so : Result (Unit {0}) Refusal) (recs : List (Record V)) (end : End) {found : List (Record V)} {i : ℕ} {l : List ℕ} → ∥ Sane recs end ∥₁
    → state_by made_so recs end ≡ holding found (Planned i) → Trail found i l → length l ≤ length recs
plan_brief (Err why) recs end known e t = impossible (cc)
plan_brief (Ok u) recs end {found} {i} {l} known e t =
    let same : found ≡ recs = cc in
    let is : end ≡ Planned i = cc in
    let way = plan_traced is known in
    omega (arith, way.short, ap length (trail_same way.trail (subst (λ x. Trail x i l) same t)))

module _ {V : Type 0} {tally : Ghosts V} (lawful : Lawful tally.at_most tally.nil tally.join) (lent : Task → Lent V) (task : Task) (table : List (Record V)) where
  abbrev P : Problem tally
  P = record { draft = draft_of task; bound = lent task; room = length table }

  pub promised : (calls : List Call) (told told' : List (Outcome V)) (list list' : List ℕ) (h later : Search V) → Made P table h
      → Serves tally (lent h.task) calls told told' list list' h later → KeepsPromises P table calls told told' list list' later
  promised calls told told' list list' h later new served = record {
    events = book.events;
    log = log;
    noted = served.noted;
    by_rules = queue;
    promises = queues_keep_promises lawful P new.honest book.events (state_of later) queue steady;
    sum_counts = λ fs other q s same. only_sum_counts lawful P new.honest book.events fs (state_of later) other queue steady q s same;
    brief = λ recs i l e t. omega (arith, plan_brief later.made (recs_of later.holding.records) later.holding.end later.traced e t, length-take later.holding.records.count (table_of later), served.stays.rest.size, new.rest.size);
    list_read = book.list;
    table_rest = record {
      size = served.stays.rest.size ∙ new.rest.size;
      rest = served.stays.rest.rest ∙ drop_further (table_of h) table _ _ served.stays.grows new.rest.rest;
    };
  }
    where
      same : h.task ≡ task
      same = same_task h.task task new.draft

      book : Book tally (lent h.task) calls (min (length calls) (length told)) told' list list' h later
      book = served.book

      log : Log (lent task) (length list) calls told' (min (length calls) (length told)) book.events
      log = subst (λ t. Log (lent t) (length list) calls told' (min (length calls) (length told)) book.events) same book.log

      queue : Queue P book.events (state_of later)
      queue = queue_by new.makes
          (subst₂ (λ t n. Follows {tally = tally} (record { draft = draft_of t; bound = lent task; room = n }) (state_of h) book.events (state_of later)) same new.rest.size (book.follows (lent task)))

      steady : Steady P book.events
      steady i n d r a s = ap (λ x. x.estimate s) (sym (log_steady (lent task) (length list) log i n d r a))
