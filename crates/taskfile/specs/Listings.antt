-- One number more of a set.
use Rattle.std.specs.Prelude.{◌≡◌, ℕ, ◌+◌, ◌<◌, ◌≤◌, ◌||◌, List, Some, None, Option, ◌==◌}
use Rattle.facts.specs.Sets.{has}
use Rattle.facts.specs.declared.sets.FactSet.{FactSet}
use Rattle.taskfile.specs.declared.sets.Listing.{Listing}
use Rattle.taskfile.specs.Values.{Numeral}

-- what the facts before and the number n make: nothing any more once a number is no fact
abbrev pub Joins : ℕ → Option FactSet → Option FactSet → Type 0
Joins n None None = Unit {0}
Joins n None (Some t) = ⊥
Joins n (Some s) None = 64 ≤ n
Joins n (Some s) (Some t) = (n < 64) × ((f : ℕ) → has t f ≡ (has s f || f == n))

-- s is followed by t, with the number that item writes
pub record TookItem (s : Listing) (item : List ℕ) (t : Listing) : Type 0 where
  pub n : ℕ
  pub reads : Numeral item n
  pub rises : s.least ≤ n
  pub next : t.least ≡ n + 1
  pub joins : Joins n s.facts t.facts
