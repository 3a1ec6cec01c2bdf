-- Looking through the moves for a share that is above its charge.
use Rattle.std.proofs.Common.{◌≡◌, ℕ, ◌+◌, ◌<◌, ◌≤◌, false, List, length, Decides, subst, ⊎_elim, arith}
use Rattle.std.proofs.lemmas.Bool.{cases_lt}
use Rattle.facts.proofs.Tests.{not_true_false}
use Rattle.tasks.specs.Places.{At}
use Rattle.tasks.specs.declared.moves.Move.{Move}
use Rattle.tasks.proofs.Places.{at_less, at_same}
use Rattle.costs.specs.Lists.{charge_of}
use Rattle.costs.specs.declared.tally.Tally.{Ghosts}
use Rattle.bounds.specs.Sound.{SomeAbove}

module _ {V : Type 0} (tally : Ghosts V) (moves : List Move) (share : ℕ → V) where
  -- the share of the move of this number is above its charge
  abbrev pub Above : ℕ → Move → Type 0
  Above k m = tally.at_most (share k) (charge_of tally m) ≡ false

  -- no move below k has such a share
  abbrev pub Passed : ℕ → Type 0
  Passed k = (j : ℕ) (m : Move) → j < k → At moves j m → Above j m → ⊥

  pub passed_more : (k : ℕ) (m : Move) → Passed k → At moves k m → (Above k m → ⊥) → Passed (k + 1)
  passed_more k m passed at fine j n l found above = ⊎_elim
      (λ lower. passed j n lower found above)
      (λ e.
      let same : j ≡ k = omega arith in
      fine (subst (Above k) (at_same (subst (λ i. At moves i n) same found) at) (subst (λ i. Above i n) same above)))
      (cases_lt j k)

  pub passed_all : (k : ℕ) → Passed k → length moves ≤ k → Decides false (SomeAbove tally moves share)
  passed_all k passed end = (
    (λ e. absurd (not_true_false e)),
    (λ o. absurd (passed o.0 o.1 (omega (arith, at_less o.2)) o.2 o.3)),
  )
