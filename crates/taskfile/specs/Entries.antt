-- What one line says, the text of such a line, and when it may stand in a file.
use Rattle.std.specs.Prelude.{◌≡◌, ℕ, ◌<◌, ◌≤◌, true, false, List, [], ◌∷◌, ◌++◌, decimal}
use Rattle.std.specs.List.{AllByRecursion}
use Rattle.facts.specs.Sets.{Rises}
use Rattle.taskfile.specs.declared.keys.Key.{Key}
use Rattle.taskfile.specs.declared.keys.Key.TheVariants.{Moves}
use Rattle.taskfile.specs.Keys.{lead, one_number, lowest, highest}

-- a number, or the numbers of a set
pub data Entry : Type 0 where
  number : ℕ → Entry
  members : List ℕ → Entry

-- numbers joined by commas (44)
abbrev pub commas : ℕ → List ℕ → List ℕ
commas n [] = decimal n
commas n (m ∷ ns) = decimal n ++ 44 ∷ commas m ns

abbrev pub joined : List ℕ → List ℕ
joined [] = []
joined (n ∷ ns) = commas n ns

abbrev pub value_of : Entry → List ℕ
value_of (number n) = decimal n
value_of (members ns) = joined ns

-- a line ends with the byte 10
abbrev pub line_of : Key → Entry → List ℕ
line_of k e = lead k ++ (value_of e ++ 10 ∷ [])

-- numbers have at most five digits
abbrev pub Short : ℕ → Type 0
Short n = n < 100000

-- the entry is of the kind that the key asks for, and well formed
abbrev pub Formed : Key → Entry → Type 0
Formed k (number n) = (one_number k ≡ true) × Short n
Formed k (members ns) = (one_number k ≡ false) × Rises ns × AllByRecursion Short ns

abbrev pub Between : Key → ℕ → Type 0
Between k n = (lowest k ≤ n) × (n ≤ highest k)

abbrev pub InRange : Key → Entry → Type 0
InRange k (number n) = Between k n
InRange k (members ns) = AllByRecursion (Between k) ns

-- a list with this much room has a place for each move
abbrev pub Fits : ℕ → Key → Entry → Type 0
Fits room k (number n) = k ≡ Moves → n ≤ room
Fits room k (members ns) = Unit {0}

-- what may stand in a file where a line of the key k is due
pub record Good (room : ℕ) (k : Key) (e : Entry) : Type 0 where
  pub formed : Formed k e
  pub inside : InRange k e
  pub fits : Fits room k e
