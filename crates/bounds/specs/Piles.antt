-- What is made of two bounds: the higher of them, and their sum.
use Rattle.std.specs.Prelude.{ℕ}
use Rattle.facts.specs.declared.sets.FactSet.{FactSet}
use Rattle.tasks.specs.declared.draft.Draft.{Draft}
use Rattle.costs.specs.Choices.{larger_of}
use Rattle.costs.specs.Estimates.{not_above, join_each}
use Rattle.costs.specs.Estimates.{Estimate}
use Rattle.costs.specs.declared.tally.Tally.{Ghosts}
use Rattle.bounds.specs.Sound.{SoundIn}

module _ {V : Type 0} (tally : Ghosts V) where
  -- the larger of the two, for each set and for each move
  abbrev pub higher_estimate : (one other : FactSet → Estimate V) → FactSet → Estimate V
  higher_estimate one other s = larger_of (not_above tally.at_most) (one s) (other s)

  abbrev pub higher_share : (one other : ℕ → V) → ℕ → V
  higher_share one other k = larger_of tally.at_most (one k) (other k)

  -- the two joined, for each set and for each move
  abbrev pub sum_estimate : (one other : FactSet → Estimate V) → FactSet → Estimate V
  sum_estimate one other s = join_each tally.join (one s) (other s)

  abbrev pub sum_share : (one other : ℕ → V) → ℕ → V
  sum_share one other k = tally.join (one k) (other k)

-- the higher of two bounds keeps the laws where both do, and so does their sum
pub record PilesAreSound {V : Type 0} (tally : Ghosts V) : Type 0 where
  pub higher : (d : Draft) (e f : FactSet → Estimate V) (a b : ℕ → V) → SoundIn tally d e a → SoundIn tally d f b
      → SoundIn tally d (higher_estimate tally e f) (higher_share tally a b)
  pub sum : (d : Draft) (e f : FactSet → Estimate V) (a b : ℕ → V) → SoundIn tally d e a → SoundIn tally d f b
      → SoundIn tally d (sum_estimate tally e f) (sum_share tally a b)
