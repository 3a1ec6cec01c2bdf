-- The cost of a list with one more move at its end.
use Rattle.std.proofs.Common.{ℕ, List, [], ◌∷◌, ◌++◌, sym, subst}
use Rattle.tasks.specs.Places.{At}
use Rattle.tasks.specs.declared.moves.Move.{Move}
use Rattle.costs.specs.Laws.{Lawful}
use Rattle.costs.specs.Lists.{charge_of, Costs, nothing, and_move}
use Rattle.costs.specs.declared.tally.Tally.{Ghosts}

module _ {V : Type 0} {tally : Ghosts V} {moves : List Move} (laws : Lawful tally.at_most tally.nil tally.join) where
  pub costs_more : {k : ℕ} {m : Move} {l : List ℕ} {v : V} → Costs tally moves l v → At moves k m
      → Costs tally moves (l ++ (k ∷ [])) (tally.join v (charge_of tally m))
  costs_more {k = k} {m = m} nothing at = subst (Costs tally moves (k ∷ []))
      (laws.commutative (charge_of tally m) tally.nil) (and_move at nothing)
  costs_more {k = k} {m = m} (and_move {k = j} {m = n} {l = l} {v = v} first rest) at =
      subst (Costs tally moves (j ∷ (l ++ (k ∷ [])))) (sym (laws.associative (charge_of tally n) v (charge_of tally m))) (and_move first (costs_more rest at))
