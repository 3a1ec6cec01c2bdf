-- What the value of a line is read as.
use Rattle.std.specs.Prelude.{◌≡◌, ℕ, ◌<◌, Bool, true, false, List, Ok, Err, decimal, Result}
use Rattle.std.specs.List.{AllByRecursion}
use Rattle.facts.specs.Sets.{Rises, Lists}
use Rattle.facts.specs.declared.sets.FactSet.{FactSet}
use Rattle.taskfile.specs.declared.keys.Key.{Key}
use Rattle.taskfile.specs.declared.keys.Value.{Value}
use Rattle.taskfile.specs.declared.keys.Value.TheVariants.{Number, Set}
use Rattle.taskfile.specs.declared.misread.Flaw.{Flaw}
use Rattle.taskfile.specs.declared.misread.Flaw.TheVariants.{WrongLine, Malformed, OutOfRange, TooManyMoves}
use Rattle.taskfile.specs.Entries.{Entry, value_of, Short, Formed, InRange, joined}

abbrev pub is_number : Value → Bool
is_number (Number v) = true
is_number (Set v) = false

abbrev pub written : Value → List ℕ
written (Number v) = v.now
written (Set v) = v.now

-- v writes the number n
pub record Numeral (v : List ℕ) (n : ℕ) : Type 0 where
  pub short : Short n
  pub digits : v ≡ decimal n

-- v writes the numbers ns as a set
pub record Listed (v : List ℕ) (ns : List ℕ) : Type 0 where
  pub text : v ≡ joined ns
  pub rising : Rises ns
  pub short : AllByRecursion Short ns

abbrev pub OnlyFacts : List ℕ → Type 0
OnlyFacts ns = AllByRecursion (λ n. n < 64) ns

-- a text that is no set is malformed, whatever its numbers are
abbrev pub SetRead : List ℕ → Result FactSet Flaw → Type 0
SetRead v (Ok s) = (ns : List ℕ) × Listed v ns × OnlyFacts ns × Lists s ns
SetRead v (Err WrongLine) = ⊥
SetRead v (Err Malformed) = (ns : List ℕ) → Listed v ns → ⊥
SetRead v (Err OutOfRange) = (ns : List ℕ) × Listed v ns × (OnlyFacts ns → ⊥)
SetRead v (Err TooManyMoves) = ⊥

-- what the bytes v are read as where a line of the key k is due, and an entry tells it
abbrev pub ReadAs : {A : Type 0} → (A → Entry → Type 0) → Key → List ℕ → Result A Flaw → Type 0
ReadAs tells k v (Ok t) = (e : Entry) × tells t e × (v ≡ value_of e) × Formed k e × InRange k e
ReadAs tells k v (Err WrongLine) = ⊥
ReadAs tells k v (Err Malformed) = (e : Entry) → Formed k e → v ≡ value_of e → ⊥
ReadAs tells k v (Err OutOfRange) = (e : Entry) × (v ≡ value_of e) × Formed k e × (InRange k e → ⊥)
ReadAs tells k v (Err TooManyMoves) = ⊥
