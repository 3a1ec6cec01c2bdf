-- What the queue of the program's two calls comes to.
use Rattle.std.proofs.Common.{◌≡◌, ℕ, zero, suc, min, List, [], ◌∷◌, length, get_or, Ok, refl, ap, ◌∙◌, subst}
use Rattle.tasks.specs.Places.{At, here, there}
use Rattle.tasks.specs.declared.task.Task.{Task}
use Rattle.tasks.proofs.Places.{at_same, at_less, at_get}
use Rattle.costs.specs.declared.minutes.Minutes.{Minutes}
use Rattle.theory.specs.Problem.{Lent}
use Rattle.theory.specs.Promise.{Promises}
use Rattle.theory.specs.Queue.{run, read_out, Answer, State, Event, asked, Queue}
use Rattle.theory.specs.declared.record.Record.{Record}
use Rattle.theory.specs.declared.reply.Reply.{Reply}
use Rattle.theory.proofs.Basics.{impossible}
use Rattle.search.specs.States.{state_of}
use Rattle.search.specs.declared.search.Search.{Search}
use Rattle.queues.specs.Calls.{Outcome, call_of, told_of, written, Log, blank, entry}
use Rattle.queues.specs.Promised.{KeepsPromises}
use Rattle.queues.specs.declared.calls.Call.{Call}
use Rattle.queues.specs.declared.calls.Call.TheVariants.{Run, ReadOut}
use Rattle.queues.specs.declared.calls.Told.{Told}
use Rattle.queues.specs.declared.calls.Told.TheVariants.{Ran, Read}
use Rattle.solutions.specs.Solutions.{Solved}
use Rattle.solutions.proofs.Bounding.{Useful}
use Rattle.solutions.proofs.Telling.{posed, both, Brief, tells}

abbrev pub calls : List Call
calls = Run 1024 ∷ (ReadOut 1024 ∷ [])

-- the latest entry of a log, and those before it
record Latest (b : Lent Minutes) (places : ℕ) (told : List (Outcome Minutes)) (n : ℕ) (events : List (Event Minutes)) : Type 0 where
  pub call : Call
  pub answer : Answer Minutes
  pub earlier : List (Event Minutes)
  pub is : events ≡ asked (call_of b places call) answer ∷ earlier
  pub log : Log b places calls told n earlier
  pub made : At calls n call
  pub stands : At told n (told_of answer)

latest : {b : Lent Minutes} {places : ℕ} {told : List (Outcome Minutes)} {n : ℕ} {events : List (Event Minutes)} → Log b places calls told (suc n) events → Latest b places told n events
latest (entry log c t) = record { call = _; answer = _; earlier = _; is = refl; log = log; made = c; stands = t }

no_entry : {b : Lent Minutes} {places : ℕ} {told : List (Outcome Minutes)} {events : List (Event Minutes)} → Log b places calls told zero events → events ≡ []
no_entry blank = refl

-- the two calls stand in the log, and the answer of the run in the first place
record Logged (b : Lent Minutes) (told : List (Outcome Minutes)) (events : List (Event Minutes)) : Type 0 where
  pub one : Answer Minutes
  pub two : Answer Minutes
  pub is : events ≡ both b one two
  pub stands : At told 0 (told_of one)

logged : (b : Lent Minutes) (places : ℕ) (told : List (Outcome Minutes)) (events : List (Event Minutes)) → places ≡ 1024 → Log b places calls told 2 events → Logged b told events
logged b places told events size log =
    let l2 : Latest b places told 1 events = latest log in
    let l1 : Latest b places told 0 l2.earlier = latest l2.log in
    let c2 : call_of b places l2.call ≡ read_out 1024 = ap (call_of b places) (at_same l2.made (there here)) ∙ ap (λ n. read_out (min 1024 n)) size in
    let c1 : call_of b places l1.call ≡ run 1024 b = ap (call_of b places) (at_same l1.made here) in
    let first : l1.earlier ≡ [] = no_entry l1.log in
    let i2 = l2.is in
    let i1 = l1.is in
    record { one = l1.answer; two = l2.answer; is = cc; stands = l1.stands }

-- the run is answered first, and what it tells is what the search finds
pub record Asked (t : Task) (told : List (Outcome Minutes)) (before after : List ℕ) : Type 0 where
  pub reply : Reply Minutes
  pub stands : At told 0 (Ok (Ran reply))
  pub solved : Solved t before after reply

solves : (t : Task) (b : Lent Minutes) (told : List (Outcome Minutes)) (events : List (Event Minutes)) (before after : List ℕ) (now : State Minutes)
    → Useful t 255 b → Logged b told events → Queue (posed t b) events now → Promises (posed t b) events now → Brief now → after ≡ written events before
    → Asked t told before after
solves t b told events before after now u l q p brief list =
    let queue = subst (λ es. Queue (posed t b) es now) l.is q in
    let promises = subst (λ es. Promises (posed t b) es now) l.is p in
    let x = tells t b before (record { fitting = u.fits; drawn = u.drawn }) queue promises brief in
    let came : written events before ≡ written (both b l.one l.two) before = ap (λ es. written es before) l.is in
    record {
      reply = x.reply;
      stands = subst (λ a. At told 0 (told_of a)) x.is l.stands;
      solved = record {
        moves = x.moves;
        says = x.says;
        by_rules = record {
          est = u.est;
          greatest = u.greatest;
          bound = b;
          estimates = u.estimates;
          fits = u.fits;
          answer = l.two;
          state = now;
          queue = subst (λ a. Queue (posed t b) (both b a l.two) now) x.is queue;
          read_so = x.read_so;
        };
        written = read_so list came x.list;
      };
    }
  where
    read_so : {a b c d : List ℕ} → a ≡ b → b ≡ c → c ≡ d → a ≡ d
    read_so e f g = e ∙ f ∙ g

pub asks : (t : Task) (b : Lent Minutes) (table : List (Record Minutes)) (told told' : List (Outcome Minutes)) (before after : List ℕ) (h : Search Minutes)
    → Useful t 255 b → length before ≡ 1024 → length told ≡ 2 → KeepsPromises (posed t b) table calls told told' before after h → Asked t told' before after
asks t b table told told' before after h u size two k =
    let log = subst (λ n. Log b (length before) calls told' n k.events) (ap (min 2) two) k.log in
    solves t b told' k.events before after (state_of h) u (logged b (length before) told' k.events size log) k.by_rules k.promises k.brief k.list_read

module _ {t : Task} {told : List (Outcome Minutes)} {before after : List ℕ} (x : Asked t told before after) (other : Outcome Minutes) where
  first_is : get_or told 0 other ≡ Ok (Ran x.reply)
  first_is = at_same (at_get told 0 other (at_less x.stands)) x.stands

  pub found : (r : Reply Minutes) → get_or told 0 other ≡ Ok (Ran r) → Solved t before after r
  found r is =
      let first = first_is in
      let same : x.reply ≡ r = cc in
      subst (Solved t before after) same x.solved

  pub always_found : ((r : Reply Minutes) → get_or told 0 other ≡ Ok (Ran r) → ⊥) → ⊥
  always_found not_ran = not_ran x.reply first_is

pub not_read : {o : Outcome Minutes} {t : Told Minutes} {n : ℕ} {r : Reply Minutes} → o ≡ Ok t → t ≡ Read n → o ≡ Ok (Ran r) → ⊥
not_read e f g = impossible (cc)
