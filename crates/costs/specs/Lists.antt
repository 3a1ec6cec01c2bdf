-- The cost of a list of moves.
use Rattle.std.specs.Prelude.{ℕ, ◌<◌, List, [], ◌∷◌, length, slice_index}
use Rattle.tasks.specs.Places.{At}
use Rattle.tasks.specs.declared.moves.Move.{Move}
use Rattle.costs.specs.declared.tally.Tally.{Ghosts}

-- what a move costs by itself
abbrev pub charge_of : {V : Type 0} → Ghosts V → Move → V
charge_of tally m = tally.charge m.price m.group

-- the cost of a list is the join of its moves' charges, nil for the empty list
pub data Costs {V : Type 0} (tally : Ghosts V) (moves : List Move) : List ℕ → V → Type 0 where
  nothing : Costs tally moves [] tally.nil
  and_move : {k : ℕ} {m : Move} {l : List ℕ} {v : V} → At moves k m → Costs tally moves l v → Costs tally moves (k ∷ l) (tally.join (charge_of tally m) v)

-- some number of the list is no move
abbrev pub Unknown : List Move → List ℕ → Type 0
Unknown moves l = (i : ℕ) × (i < length l) × ((m : Move) → At moves (slice_index l i) m → ⊥)
