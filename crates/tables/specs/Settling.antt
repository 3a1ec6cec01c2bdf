-- What holds while the places of a table are settled, the cheapest first: for the contracts of private functions.
use Rattle.std.specs.Prelude.{◌≡◌, ℕ, ◌+◌, ◌<◌, Bool, true, false, ◌&&◌, T, ◌⊎◌, List, length, Some, None, Option, if◌then◌else◌, slice_index_or, slice_set}
use Rattle.facts.specs.Sets.{has}
use Rattle.facts.specs.declared.sets.FactSet.{FactSet}
use Rattle.tasks.specs.Moves.{Regresses}
use Rattle.tasks.specs.Places.{At}
use Rattle.tasks.specs.declared.moves.Move.{Move}
use Rattle.costs.specs.Choices.{Smaller}
use Rattle.costs.specs.Estimates.{not_above}
use Rattle.costs.specs.Estimates.{Estimate}
use Rattle.costs.specs.declared.tally.Tally.{Ghosts}
use Rattle.bounds.specs.Sound.{NotAbove}
use Rattle.tables.specs.Equation.{Setting, offer_of}
use Rattle.tables.specs.Nets.{Net, Present, In, place_of}
use Rattle.tables.specs.Reading.{Two}

-- the places that are nil
abbrev pub Start : {V K : Type 0} {b : Setting} → Net V b K → K → Type 0
Start {b = b} n k = Present n k × In n b.start k

-- move j, which is m, regresses the set of place k to t
pub record Step {V K : Type 0} {b : Setting} (n : Net V b K) (j : ℕ) (m : Move) (k : K) (t : FactSet) : Type 0 where
  pub present : Present n k
  pub at : At b.moves j m
  pub set : FactSet
  pub names : n.Names k set
  pub regresses : Regresses m set t

-- what the step allows
abbrev pub via : {V K : Type 0} {b : Setting} (tally : Ghosts V) → Net V b K → Move → (K → Estimate V) → FactSet → Estimate V
via {b = b} tally n m val t = offer_of tally b m (n.est val t)

-- h is at most what the steps from each place allow
pub record Under {V K : Type 0} {b : Setting} (tally : Ghosts V) (n : Net V b K) (h : K → Estimate V) : Type 0 where
  pub begun : (k : K) → Start n k → NotAbove tally (h k) (Some tally.nil)
  pub steps : (j : ℕ) (m : Move) (y : K) (t : FactSet) → Step n j m y t → NotAbove tally (h y) (via tally n m h t)

-- the value of place y has a reason
pub data Backed {V K : Type 0} {b : Setting} (tally : Ghosts V) (n : Net V b K) (val : K → Estimate V) (y : K) : Type 0 where
  unreached : val y ≡ None → Backed tally n val y
  begun : Start n y → Backed tally n val y
  stepped : (j : ℕ) (m : Move) (t : FactSet) → Step n j m y t → NotAbove tally (via tally n m val t) (val y) → Backed tally n val y

-- what holds at all times
pub record Sure {V K : Type 0} {b : Setting} (tally : Ghosts V) (n : Net V b K) (val : K → Estimate V) : Type 0 where
  pub above : (h : K → Estimate V) → Under tally n h → (k : K) → NotAbove tally (h k) (val k)
  pub backed : (y : K) → Backed tally n val y
  pub begun : (k : K) → Start n k → val k ≡ Some tally.nil
  pub absent : (k : K) → (Present n k → ⊥) → val k ≡ None

-- between two rounds
pub record Settling {V K : Type 0} {b : Setting} (tally : Ghosts V) (n : Net V b K) (val : K → Estimate V) (done : K → Bool) : Type 0 where
  pub sure : Sure tally n val
  pub ordered : (u v : K) → T (done u) → done v ≡ false → NotAbove tally (val u) (val v)
  pub closed : (j : ℕ) (m : Move) (y : K) (t : FactSet) → Step n j m y t → ((k : K) → In n t k → T (done k)) → NotAbove tally (val y) (via tally n m val t)

-- In a round: `floor` is the value just settled, `fresh` the sets that it is a part of, and `Seen` the steps taken so far.
pub record Relaxing {V K : Type 0} {b : Setting} (tally : Ghosts V) (n : Net V b K) (fresh : FactSet → Bool) (done : K → Bool) (floor : Estimate V) (Seen : ℕ → K → Type 0) (val : K → Estimate V) : Type 0 where
  pub sure : Sure tally n val
  pub low : (u : K) → T (done u) → NotAbove tally (val u) floor
  pub high : (v : K) → done v ≡ false → NotAbove tally floor (val v)
  pub base : (floor ≡ Some tally.nil) ⊎ ((u : K) × T (done u) × (val u ≡ floor) × ((t : FactSet) → T (fresh t) → In n t u))
  pub closed : (j : ℕ) (m : Move) (y : K) (t : FactSet) → Step n j m y t → ((k : K) → In n t k → T (done k)) → (fresh t ≡ false) ⊎ Seen j y
      → NotAbove tally (val y) (via tally n m val t)

-- what some more steps give, whatever was settled before the round
pub record Turned {V K : Type 0} {b : Setting} (tally : Ghosts V) (n : Net V b K) (fresh : FactSet → Bool) (Seen More : ℕ → K → Type 0) (before after : K → Estimate V) : Type 0 where
  pub runs : (done : K → Bool) (floor : Estimate V) → Relaxing tally n fresh done floor Seen before → Relaxing tally n fresh done floor More after

-- the steps of the moves before i
abbrev pub Before : {K : Type 0} → ℕ → ℕ → K → Type 0
Before i j y = j < i

-- some places have come down to `offer`, and no place of `Head` is above it
pub record Lowers {V K : Type 0} (tally : Ghosts V) (Head : K → Type 0) (offer : Estimate V) (old new : K → Estimate V) : Type 0 where
  pub each : (k : K) → (new k ≡ old k) ⊎ (Head k × (new k ≡ offer) × NotAbove tally offer (old k))
  pub under : (k : K) → Head k → NotAbove tally (new k) offer

-- the place of this number has become the smaller of it and the offer
pub record LowersAt {V : Type 0} (tally : Ghosts V) (number : ℕ) (offer : Estimate V) (old new : List (Estimate V)) : Type 0 where
  pub to : Estimate V
  pub smaller : Smaller (not_above tally.at_most) (slice_index_or old number None) offer to
  pub wrote : new ≡ slice_set old number to

-- r beside a fact of `heads`
abbrev pub Beside : {V : Type 0} {b : Setting} → Net V b Two → FactSet → ℕ → Two → Type 0
Beside n heads r k = Present n k × (((k.1 ≡ r) × T (has heads k.0)) ⊎ ((k.0 ≡ r) × T (has heads k.1)))

-- whether the place just settled is among these; at first, any place is
abbrev pub touches : {K : Type 0} → (K → Bool) → Option K → Bool
touches among None = true
touches among (Some k) = among k

abbrev pub both : (ℕ → Bool) → Two → Bool
both among k = among k.0 && among k.1

-- the places are nil in the start, never elsewhere
abbrev pub Begun : {V K : Type 0} {b : Setting} (tally : Ghosts V) → Net V b K → List (Estimate V) → Type 0
Begun {b = b} tally n table = (i : ℕ) → i < n.count → slice_index_or table i None ≡ (if n.inside b.start (n.place i) then Some tally.nil else None)

-- all steps of the move are taken
abbrev pub Takes : {V K : Type 0} {b : Setting} (tally : Ghosts V) → Net V b K → Move → Option K → List (Estimate V) → List (Estimate V) → Type 0
Takes {b = b} tally n m settled old new = (j : ℕ) → At b.moves j m
    → Turned tally n (λ t. touches (n.inside t) settled) (Before j) (Before (j + 1)) (place_of n old) (place_of n new)

-- u is open, and no open place is less
pub record Cheapest {V : Type 0} (tally : Ghosts V) (done : List Bool) (table : List (Estimate V)) (u : ℕ) : Type 0 where
  pub inside : u < length table
  pub undone : slice_index_or done u false ≡ false
  pub least : (v : ℕ) → v < length table → slice_index_or done v false ≡ false → NotAbove tally (slice_index_or table u None) (slice_index_or table v None)

-- the choice of the next place; none if all open places are never
abbrev pub Picks : {V : Type 0} → Ghosts V → List Bool → List (Estimate V) → Option ℕ → Type 0
Picks tally done table (Some u) = Cheapest tally done table u
Picks tally done table None = (v : ℕ) → v < length table → slice_index_or done v false ≡ false → slice_index_or table v None ≡ None
