-- Calls one after another: what stays, and what is noted.
use Rattle.std.proofs.Common.{◌≡◌, ℕ, ◌+◌, ◌<◌, ◌≤◌, min, List, [], ◌∷◌, length, set, Ok, Err, Result, sym, refl, ap, ◌∙◌, subst, subst₂, add-one, arith}
use Rattle.std.proofs.lemmas.List.{length-set, drop-set-lt}
use Rattle.tasks.specs.Places.{At}
use Rattle.tasks.specs.Tasks.{draft_of}
use Rattle.tasks.specs.declared.task.Task.{Task}
use Rattle.costs.specs.declared.tally.Tally.{Ghosts}
use Rattle.theory.specs.Problem.{Lent}
use Rattle.theory.specs.Queue as rules
use Rattle.theory.specs.Queue.{Answer, Answers, Event, asked}
use Rattle.theory.specs.declared.refusal.Refusal.{Refusal}
use Rattle.theory.specs.declared.reply.Reply as replies
use Rattle.theory.proofs.Places.{at_some, put_here, put_there}
use Rattle.records.proofs.Growing.{drop_further}
use Rattle.search.specs.Calls.{Answered, answer_of, RunAnswered}
use Rattle.search.specs.States.{table_of, state_of, problem_in}
use Rattle.search.specs.declared.search.Search.{Search}
use Rattle.queues.specs.Calls.{Outcome, call_of, told_of, written_by, Reply, Stays, Replied, ReadFront, at_first, and_then, Log, blank, entry, Book, Noted, Serves}
use Rattle.queues.specs.declared.calls.Call.{Call}
use Rattle.queues.specs.declared.calls.Call.TheVariants.{Run, ReadOut}
use Rattle.queues.specs.declared.calls.Told.TheVariants.{Read}

pub stays_put : {V : Type 0} (h : Search V) → Stays h h
stays_put h = record { task = refl; grows = omega arith; rest = record { size = refl; rest = refl } }

pub stays_on : {V : Type 0} (h mid later : Search V) → Stays h mid → Stays mid later → Stays h later
stays_on h mid later one two = record {
  task = two.task ∙ one.task;
  grows = omega (arith, one.grows, two.grows);
  rest = record {
    size = two.rest.size ∙ one.rest.size;
    rest = two.rest.rest ∙ drop_further (table_of mid) (table_of h) _ _ two.grows one.rest.rest;
  };
}

-- the answer to a call, once it is known which call it is
module _ {V : Type 0} (tally : Ghosts V) (b : Lent V) {call : Call} {before : List ℕ} {h : Search V} where
  pub ran_so : {grant : ℕ} {later : Search V} (r : Result (replies.Reply V) Refusal) → call ≡ Run grant → RunAnswered tally b grant h later r
      → Replied tally b call before before h later (told_of (answer_of r))
  ran_so {grant} {later} r is said = record {
    stays = record { task = said.task; grows = said.grows; rest = said.rest };
    reply = record {
      answer = answer_of r;
      answered = subst (λ c. Answered tally (call_of b (length before) c) (answer_of r) h later) (sym is) said.answered;
      is = refl;
      list = by_result r;
    };
  }
    where
      by_result : (r : Result (replies.Reply V) Refusal) → before ≡ written_by (answer_of r) before
      by_result (Ok r) = refl
      by_result (Err why) = refl

  pub read_so : {room n : ℕ} {after : List ℕ} → call ≡ ReadOut room → ReadFront tally h room before after (Ok n)
      → Replied tally b call before after h h (Ok (Read n))
  read_so {room} {n} {after} is said = record {
    stays = stays_put h;
    reply = record {
      answer = rules.read said.0;
      answered = subst (λ c. Answered tally (call_of b (length before) c) (rules.read said.0) h h) (sym is) said.2;
      is = ap (λ k. Ok (Read k)) said.1.told;
      list = said.1.written;
    };
  }

  pub refused_so : {room : ℕ} {why : Refusal} {after : List ℕ} → call ≡ ReadOut room → ReadFront tally h room before after (Err why)
      → Replied tally b call before after h h (Err why)
  refused_so {room} {why} is said = record {
    stays = stays_put h;
    reply = record {
      answer = rules.refused why;
      answered = subst (λ c. Answered tally (call_of b (length before) c) (rules.refused why) h h) (sym is) said.1;
      is = refl;
      list = said.0;
    };
  }

pub none_noted : {V : Type 0} (told : List (Outcome V)) → Noted 0 told told
none_noted told = record { size = refl; rest = refl }

pub one_noted : {V : Type 0} {i : ℕ} {before told after : List (Outcome V)} (x : Outcome V) → after ≡ set told i x → i < length told → Noted i before told
    → Noted (i + 1) before after
one_noted {i = i} {before = before} {told = told} x is less so = subst (λ t. Noted (i + 1) before t) (sym is) (record {
  size = length-set told i x ∙ so.size;
  rest = drop-set-lt (i + 1) told i x (omega arith) ∙ drop_further told before i (i + 1) (omega arith) so.rest;
})

-- a later answer does not change the log
log_set : {V : Type 0} {b : Lent V} {places : ℕ} {calls : List Call} {told : List (Outcome V)} {n : ℕ} {es : List (Event V)} (i : ℕ) (x : Outcome V) → n ≤ i
    → Log b places calls told n es → Log b places calls (set told i x) n es
log_set i x h blank = blank
log_set i x h (entry log a t) = entry (log_set i x (omega arith) log) a (put_there i x t (λ same. omega arith))

module _ {V : Type 0} (tally : Ghosts V) (lent : Task → Lent V) (calls : List Call) (before : List ℕ) (h : Search V) where
  -- what is noted of the first n calls, where every run is handed the same bound
  abbrev pub Noting : ℕ → List (Outcome V) → List ℕ → Search V → Type 0
  Noting n told list later = Book tally (lent h.task) calls n told before list h later

  pub nothing_booked : (told : List (Outcome V)) → Noting 0 told before h
  nothing_booked told = record { events = []; log = blank; follows = λ made. at_first; list = refl }

  pub one_booked : {i : ℕ} {told after : List (Outcome V)} {list list' : List ℕ} {mid later : Search V} {call : Call} {x : Outcome V} → after ≡ set told i x
      → i < length told → Stays h mid → length list ≡ length before → At calls i call → Noting i told list mid
      → Reply tally (lent mid.task) call list list' mid later x → Noting (i + 1) after list' later
  one_booked {i} {told} {after} {list} {list'} {mid} {later} {call} {x} is less stays long at so new = subst (λ t. Noting (i + 1) t list' later) (sym is) (record {
    events = asked (call_of (lent h.task) (length before) call) new.answer ∷ so.events;
    log = subst (λ n. Log (lent h.task) (length before) calls (set told i x) n (asked (call_of (lent h.task) (length before) call) new.answer ∷ so.events))
        (sym (add-one i))
        (entry (log_set i x (omega arith) so.log) at (subst (λ y. At (set told i x) i y) new.is (put_here x (at_some told i less).1)));
    follows = λ made. and_then (so.follows made) (as_first made);
    list = new.list ∙ ap (written_by new.answer) so.list;
  })
    where
      -- the search names its task and its room in its own way
      as_first : (made : Lent V)
          → Answers (problem_in tally h made) (state_of mid) (call_of (lent h.task) (length before) call) new.answer (state_of later)
      as_first made =
          subst (λ p. Answers (problem_in tally h made) (state_of mid) (call_of (lent h.task) p call) new.answer (state_of later)) long
          (subst₂ (λ t n. Answers {tally = tally} (record { draft = draft_of t; bound = made; room = n }) (state_of mid) (call_of (lent t) (length list) call) new.answer (state_of later))
          stays.task stays.rest.size (new.answered made))

-- the calls made are all, or as many as there are places for their replies
pub all_served : {V : Type 0} (tally : Ghosts V) (lent : Task → Lent V) {calls : List Call} {told told' now : List (Outcome V)} (list : List ℕ) {list' : List ℕ} (h : Search V) {later : Search V} {n : ℕ}
    → n ≡ min (length calls) (length told) → now ≡ told' → Stays h later → Noted n told told' → Noting tally lent calls list h n told' list' later
    → Serves tally (lent h.task) calls told now list list' h later
all_served tally lent {calls = calls} {told = told} {told' = told'} list {list' = list'} h {later = later} all same stays noted book =
    subst (λ now. Serves tally (lent h.task) calls told now list list' h later) (sym same) (record {
      stays = stays;
      noted = subst (λ k. Noted k told told') all noted;
      book = subst (λ k. Noting tally lent calls list h k told' list' later) all book;
    })
