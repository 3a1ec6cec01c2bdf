-- What the check finds, and what it has then seen of a task.
use mathlib.Core.HLevel.{is_prop→PathP}
use Rattle.std.proofs.Common.{◌≡◌, ℕ, ◌+◌, ◌<◌, ◌≤◌, false, length, Decides, subst, inl, inr, ⊎_elim, arith}
use Rattle.std.proofs.lemmas.Bool.{cases_lt}
use Rattle.facts.proofs.Tests.{not_true_false}
use Rattle.tasks.specs.Faults.{HeadingFault, MoveFault, Faulty, Faultless, FirstPlace, turn}
use Rattle.tasks.specs.Places.{At}
use Rattle.tasks.specs.Tasks.{draft_of, facts_of, moves_of}
use Rattle.tasks.specs.declared.draft.Draft.{Draft}
use Rattle.tasks.specs.declared.moves.Move.{Move}
use Rattle.tasks.specs.declared.refusal.Place.{Place}
use Rattle.tasks.specs.declared.refusal.Place.TheVariants.{Heading, Move as OfMove}
use Rattle.tasks.specs.declared.refusal.Refusal.{Refusal}
use Rattle.tasks.specs.declared.refusal.Refusal.TheVariants.{OutOfRange}
use Rattle.tasks.specs.declared.task.Task.{Task}
use Rattle.tasks.proofs.Places.{at_less, at_same}

pub few_moves : (d : Draft) → ((p : Place) → Faulty d OutOfRange p → ⊥) → length d.moves.now ≤ 1024
few_moves d none = ⊎_elim (λ l. absurd (none Heading (inr (inr l)))) (λ l. l) (cases_lt 1024 (length d.moves.now))

-- so a task has at most 1,024 moves, and from 1 to 64 facts
pub few_moves_of : (t : Task) → length (moves_of t) ≤ 1024
few_moves_of t = few_moves (draft_of t) (t.checked OutOfRange)

pub few_facts : (t : Task) → facts_of t ≤ 64
few_facts t = ⊎_elim (λ l. absurd (t.checked OutOfRange Heading (inr (inl l)))) (λ l. l) (cases_lt 64 (facts_of t))

pub some_facts : (t : Task) → 0 < facts_of t
some_facts t = ⊎_elim (λ l. absurd (t.checked OutOfRange Heading (inl l))) (λ l. omega arith) (cases_lt (facts_of t) 1)

-- a task is told by its draft alone: that it has no fault has one proof
pub same_task : (t u : Task) → draft_of t ≡ draft_of u → t ≡ u
same_task t u p = λ i. record { draft = p i; checked = is_prop→PathP (λ j. Faultless (p j)) (λ j. hlevel) t.checked u.checked i }

-- any move will do where a list is read past its end
abbrev pub no_move : Move
no_move = record { group = 0; price = 0; needs = record { word = 0 }; makes = record { word = 0 }; breaks = record { word = 0 } }

module _ (d : Draft) (r : Refusal) where
  -- no move below k has the fault
  abbrev pub Passed : ℕ → Type 0
  Passed k = (j : ℕ) (m : Move) → j < k → At d.moves.now j m → MoveFault d r m → ⊥

  pub first_move : Decides false (HeadingFault d r) → (k : ℕ) (m : Move) → Passed k → At d.moves.now k m → MoveFault d r m → FirstPlace d r (OfMove k)
  first_move sound k m passed at h = record { here = (m, at, h); first = first }
    where
      first : (q : Place) → Faulty d r q → turn (OfMove k) ≤ turn q
      first Heading f = absurd (not_true_false (sound.1 f))
      first (OfMove j) f = ⊎_elim (λ l. absurd (passed j f.0 l f.1 f.2)) (λ l. omega arith) (cases_lt j k)

  pub no_place : Decides false (HeadingFault d r) → (k : ℕ) → Passed k → length d.moves.now ≤ k → (p : Place) → Faulty d r p → ⊥
  no_place sound k passed end Heading f = not_true_false (sound.1 f)
  no_place sound k passed end (OfMove j) f = passed j f.0 (omega (arith, at_less f.1)) f.1 f.2

  pub passed_more : (k : ℕ) (m : Move) → Passed k → At d.moves.now k m → Decides false (MoveFault d r m) → Passed (k + 1)
  passed_more k m passed at fine j n l found h = ⊎_elim
      (λ lower. passed j n lower found h)
      (λ e. let same : j ≡ k = omega arith in
      not_true_false (fine.1 (subst (MoveFault d r) (at_same (subst (λ i. At d.moves.now i n) same found) at) h)))
      (cases_lt j k)
