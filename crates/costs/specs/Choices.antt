-- The larger and the smaller of two, by an order.
use Rattle.std.specs.Prelude.{◌≡◌, Bool, cond, T, ◌⊎◌}

-- r is one of the two, and at least both
pub record Larger {V : Type 0} (at_most : V → V → Bool) (one other r : V) : Type 0 where
  pub chosen : (r ≡ one) ⊎ (r ≡ other)
  pub above_one : T (at_most one r)
  pub above_other : T (at_most other r)

-- r is one of the two, and at most both
pub record Smaller {V : Type 0} (at_most : V → V → Bool) (one other r : V) : Type 0 where
  pub chosen : (r ≡ one) ⊎ (r ≡ other)
  pub below_one : T (at_most r one)
  pub below_other : T (at_most r other)

-- the two as functions, for a definition that takes the larger or the smaller of many
abbrev pub larger_of : {V : Type 0} → (V → V → Bool) → V → V → V
larger_of at_most u v = cond (at_most u v) v u

abbrev pub smaller_of : {V : Type 0} → (V → V → Bool) → V → V → V
smaller_of at_most u v = cond (at_most u v) u v
