-- What a run with a grant for all records tells, and what is read out after it.
use Rattle.std.proofs.Common.{◌≡◌, ℕ, ◌≤◌, List, [], ◌∷◌, ◌++◌, length, drop, refl, ap, ◌∙◌, subst, inr, arith}
use Rattle.tasks.specs.Places.{At, here, there}
use Rattle.tasks.specs.Tasks.{draft_of}
use Rattle.tasks.specs.declared.task.Task.{Task}
use Rattle.costs.specs.declared.minutes.Minutes.{Minutes}
use Rattle.theory.specs.Problem.{Problem, Lent, Usable}
use Rattle.theory.specs.Promise.{Promises}
use Rattle.theory.specs.Queue.{Call, run, read_out, Answer, ran, read, refused, State, holding, Unusable, misfit, overdrawn, Makes, no_place, too_many_places, bad_bound, fresh, grant_too_large, bad_bound as bad_handed, ReadRefused, not_ended, ended_with_none, ended_with_full, list_too_short, Answers, runs, run_refused, reads, read_refused, Event, asked, Queue, made, and_call}
use Rattle.theory.specs.Runs.{Trail}
use Rattle.theory.specs.declared.record.Record.{Record}
use Rattle.theory.specs.declared.refusal.Refusal.{Refusal}
use Rattle.theory.specs.declared.reply.End.{End}
use Rattle.theory.specs.declared.reply.End.TheVariants.{Going, Planned}
use Rattle.theory.specs.declared.reply.Kind.TheVariants.{Plan}
use Rattle.theory.specs.declared.reply.Reply.{Reply}
use Rattle.queues.specs.Calls.{written}
use Rattle.costs.specs.Kinds.{minutes}
use Rattle.solutions.specs.Solutions.{Says, cheapest, no_list, no_room}
use Rattle.solutions.proofs.Ended.{Ended, going, planned, exhausted, filled, run_ended}

abbrev pub posed : Task → Lent Minutes → Problem minutes
posed t b = record { draft = draft_of t; bound = b; room = 1024 }

-- the two calls with their answers, the latest first
abbrev pub both : Lent Minutes → (one two : Answer Minutes) → List (Event Minutes)
both b one two = asked (read_out 1024) two ∷ (asked (run 1024 b) one ∷ [])

pub record Tells (t : Task) (b : Lent Minutes) (before : List ℕ) (one two : Answer Minutes) : Type 0 where
  pub reply : Reply Minutes
  pub is : one ≡ ran reply
  pub moves : List ℕ
  pub says : Says t moves reply
  pub read_so : reply.kind ≡ Plan → two ≡ read moves
  pub list : written (both b one two) before ≡ moves ++ drop (length moves) before

never : {A : Type 0} → ◌≡◌ {A = ℕ} 0 1 → A
never e = absurd (omega arith)

abbrev pub Brief : State Minutes → Type 0
Brief s = (recs : List (Record Minutes)) (i : ℕ) (l : List ℕ) → s ≡ holding recs (Planned i) → Trail recs i l → length l ≤ 1024

module _ (t : Task) (b : Lent Minutes) where
  abbrev P : Problem minutes
  P = posed t b

  usable_not : {A : Type 0} {why : Refusal} → Usable P b → Unusable P b why → A
  usable_not u (misfit e) = let f = u.fitting in never (cc)
  usable_not u (overdrawn e o) = absurd (u.drawn o)

  made_fresh : {s : State Minutes} → Usable P b → Makes P s → (recs : List (Record Minutes)) × (s ≡ holding recs Going)
  made_fresh u (no_place e) = never (cc)
  made_fresh u (too_many_places l) = absurd (omega arith)
  made_fresh u (bad_bound r x) = usable_not u x
  made_fresh u (fresh r x f) = (_, refl)

  same_reply : {r q : Reply Minutes} {why : Refusal} {i : ℕ} {c : Call Minutes} → At (both b (ran r) (refused why)) i (asked c (ran q)) → q ≡ r
  same_reply (there here) = refl
  same_reply (there (there a)) = elim a [ ]

  tells_refused : {recs : List (Record Minutes)} {last : End} {why : Refusal} (before : List ℕ) (r : Reply Minutes) → Ended r last → ReadRefused recs 1024 last why
      → Promises P (both b (ran r) (refused why)) (holding recs last) → Brief (holding recs last) → Tells t b before (ran r) (refused why)
  tells_refused {recs = recs} before r (going k) not_ended p brief =
      let told = p.decided recs Going refl (omega arith) in absurd (told.4 (ap (λ q. q.kind) (same_reply told.3) ∙ k))
  tells_refused before r (exhausted k n) ended_with_none p brief =
      record { reply = r; is = refl; moves = []; says = no_list k refl n (p.hopeless 1 (run 1024 b) r (there here) k); read_so = λ e. cc; list = refl }
  tells_refused before r (filled k n) ended_with_full p brief =
      record { reply = r; is = refl; moves = []; says = no_room k refl n (p.crowded 1 (run 1024 b) r (there here) k) (p.floor 1 (run 1024 b) r (there here) (inr k)); read_so = λ e. cc; list = refl }
  tells_refused before r e (list_too_short trail short) p brief = let few = brief _ _ _ refl trail in absurd (omega arith)

  tells_read : {i : ℕ} {l : List ℕ} {s : State Minutes} (before : List ℕ) (r : Reply Minutes) → Ended r (Planned i) → Promises P (both b (ran r) (read l)) s
      → Tells t b before (ran r) (read l)
  tells_read {l = l} before r (planned k) p =
      let told = p.readable 1 0 (run 1024 b) (read_out 1024) r l (there here) k here in
      record { reply = r; is = refl; moves = l; says = cheapest k told.good told.costs told.length_told (p.cheapest 1 (run 1024 b) r (there here) k); read_so = λ e. refl; list = refl }

  tells_second : {recs : List (Record Minutes)} {last : End} {two : Answer Minutes} {s : State Minutes} (before : List ℕ) (r : Reply Minutes) → Ended r last
      → Answers P (holding recs last) (read_out 1024) two s → Promises P (both b (ran r) two) s → Brief s → Tells t b before (ran r) two
  tells_second before r e (reads trail short) p brief = tells_read before r e p
  tells_second before r e (read_refused x) p brief = tells_refused before r e x p brief

  tells_first : {recs : List (Record Minutes)} {one two : Answer Minutes} {mid s : State Minutes} (before : List ℕ) → Usable P b
      → Answers P (holding recs Going) (run 1024 b) one mid → Answers P mid (read_out 1024) two s → Promises P (both b one two) s → Brief s → Tells t b before one two
  tells_first before u (runs few used rest) second p brief = tells_second before _ (run_ended rest) second p brief
  tells_first before u (run_refused (grant_too_large l)) second p brief = absurd (omega arith)
  tells_first before u (run_refused (bad_handed l x)) second p brief = usable_not u x

  last_of : {c : Call Minutes} {a : Answer Minutes} {es : List (Event Minutes)} {s : State Minutes} → Queue P (asked c a ∷ es) s
      → (mid : State Minutes) × Queue P es mid × Answers P mid c a s
  last_of (and_call q a) = (_, q, a)

  none_of : {s : State Minutes} → Queue P [] s → Makes P s
  none_of (made m) = m

  pub tells : {one two : Answer Minutes} {s : State Minutes} (before : List ℕ) → Usable P b → Queue P (both b one two) s → Promises P (both b one two) s → Brief s
      → Tells t b before one two
  tells {one} before u q p brief =
      let second = last_of q in
      let first = last_of second.1 in
      let new = made_fresh u (none_of first.1) in
      tells_first before u (subst (λ x. Answers P x (run 1024 b) one second.0) new.1 first.2) second.2 p brief
