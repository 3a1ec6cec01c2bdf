-- Sets of facts, by membership.
use Rattle.std.specs.Prelude.{◌≡◌, ℕ, ◌<◌, ◌≤◌, Bool, false, not, ◌&&◌, T, ◌⊎◌, List, [], ◌∷◌, Some, None, Decides, Option, ◌==◌, count_ones}
use Rattle.facts.specs.Words.{bit}
use Rattle.facts.specs.declared.sets.FactSet.{FactSet}

-- fact f is in the set
abbrev pub has : FactSet → ℕ → Bool
has s f = bit s.word f

-- some fact of s is n or more
abbrev pub HasFrom : FactSet → ℕ → Type 0
HasFrom s n = (f : ℕ) × T (has s f) × (n ≤ f)

-- every fact of s is one of t
abbrev pub Within : FactSet → FactSet → Type 0
Within s t = (f : ℕ) → T (has s f) → T (has t f)

-- some fact is in both
abbrev pub Overlap : FactSet → FactSet → Type 0
Overlap s t = (f : ℕ) × T (has s f) × T (has t f)

abbrev pub EqualFactsEqualSets : Type 0
EqualFactsEqualSets = (s t : FactSet) → ((f : ℕ) → has s f ≡ has t f) → s ≡ t

-- f is one of these numbers
abbrev pub Among : ℕ → List ℕ → Type 0
Among f [] = ⊥
Among f (x ∷ xs) = (f ≡ x) ⊎ Among f xs

-- each number is below all that follow it
abbrev pub Rises : List ℕ → Type 0
Rises [] = Unit {0}
Rises (x ∷ xs) = ((f : ℕ) → Among f xs → x < f) × Rises xs

-- the numbers are the facts of s, in rising order
pub record Lists (s : FactSet) (facts : List ℕ) : Type 0 where
  pub rising : Rises facts
  pub members : (f : ℕ) → Decides (has s f) (Among f facts)

-- what comes next of s in rising order: its lowest fact, and then the others are left
abbrev pub Next : FactSet → Option ℕ → FactSet → Type 0
Next s None t = (f : ℕ) → has s f ≡ false
Next s (Some x) t = T (has s x) × ((f : ℕ) → T (has s f) → x ≤ f) × ((f : ℕ) → has t f ≡ (has s f && not (f == x)))

-- how many facts s has
abbrev pub size : FactSet → ℕ
size s = count_ones s.word
