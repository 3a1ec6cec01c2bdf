-- Estimates: the values of a tally, and never (`None`), which is above them all and absorbs every join.
use Rattle.std.specs.Prelude.{Bool, true, false, Some, None, Option}

abbrev pub Estimate : Type 0 → Type 0
Estimate V = Option V

abbrev pub not_above : {V : Type 0} → (V → V → Bool) → Estimate V → Estimate V → Bool
not_above at_most (Some u) (Some v) = at_most u v
not_above at_most (Some u) None = true
not_above at_most None (Some v) = false
not_above at_most None None = true

abbrev pub join_each : {V : Type 0} → (V → V → V) → Estimate V → Estimate V → Estimate V
join_each join (Some u) (Some v) = Some (join u v)
join_each join (Some u) None = None
join_each join None (Some v) = None
join_each join None None = None
