-- What can be wrong where a line is due: each flaw only where those before it are ruled out.
use Rattle.std.specs.Prelude.{◌≡◌, ℕ, List, ◌∷◌, ◌++◌}
use Rattle.taskfile.specs.declared.keys.Key.{Key}
use Rattle.taskfile.specs.declared.misread.Flaw.{Flaw}
use Rattle.taskfile.specs.declared.misread.Flaw.TheVariants.{WrongLine, Malformed, OutOfRange, TooManyMoves}
use Rattle.taskfile.specs.Entries.{Entry, line_of, Formed, InRange, Fits}
use Rattle.taskfile.specs.Keys.{lead}

-- rest begins with a line of the key k, whatever its value
abbrev pub HasLine : Key → List ℕ → Type 0
HasLine k rest = (v : List ℕ) × (more : List ℕ) × (rest ≡ lead k ++ (v ++ 10 ∷ more))

-- rest begins with the line of the key k that says e
abbrev pub Says : Key → Entry → List ℕ → Type 0
Says k e rest = (more : List ℕ) × (rest ≡ line_of k e ++ more)

abbrev pub Faulty : ℕ → Key → List ℕ → Flaw → Type 0
Faulty room k rest WrongLine = HasLine k rest → ⊥
Faulty room k rest Malformed = HasLine k rest × ((e : Entry) → Formed k e → Says k e rest → ⊥)
Faulty room k rest OutOfRange = (e : Entry) × Says k e rest × Formed k e × (InRange k e → ⊥)
Faulty room k rest TooManyMoves = (e : Entry) × Says k e rest × Formed k e × InRange k e × (Fits room k e → ⊥)
