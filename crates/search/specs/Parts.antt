-- What is told of a bound that is handed in, and of the size of a table.
use Rattle.std.specs.Prelude.{◌≡◌, ℕ, ◌<◌, ◌≤◌, true, Err, Result, MatchResult}
use Rattle.tasks.specs.Tasks.{draft_of}
use Rattle.tasks.specs.declared.task.Task.{Task}
use Rattle.costs.specs.declared.tally.Tally.{Ghosts}
use Rattle.bounds.specs.Sound.{Sound}
use Rattle.theory.specs.Problem.{Problem, Lent, Usable}
use Rattle.theory.specs.Queue.{Unusable}
use Rattle.theory.specs.declared.refusal.Refusal.{Refusal}
use Rattle.theory.specs.declared.refusal.Refusal.TheVariants.{TableSize}

-- a bound that fits the task keeps its two laws there
abbrev pub SoundOn : {V : Type 0} → Ghosts V → Task → Lent V → Type 0
SoundOn tally task b = b.fits ≡ true → Sound tally task b.estimate b.share

-- what is told of a bound that is handed in: that it can be used on the task, or why not
pub record Judged {V : Type 0} (tally : Ghosts V) (task : Task) (b : Lent V) (r : Result (Unit {0}) Refusal) : Type 0 where
  pub sound : SoundOn tally task b
  pub tells : (P : Problem tally) → P.draft ≡ draft_of task → MatchResult r (λ u. Usable P b) (Unusable P b)

-- whether a search can be made over so many places, or why not: a wrong number of them is told before a fault of the bound
pub data SizedUp {V : Type 0} (tally : Ghosts V) (task : Task) (b : Lent V) (places : ℕ) : Result (Unit {0}) Refusal → Type 0 where
  no_place : places ≡ 0 → SizedUp tally task b places (Err TableSize)
  too_many : 65535 < places → SizedUp tally task b places (Err TableSize)
  roomy : {r : Result (Unit {0}) Refusal} → 1 ≤ places → places ≤ 65535 → Judged tally task b r → SizedUp tally task b places r
