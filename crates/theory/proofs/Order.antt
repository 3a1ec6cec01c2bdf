-- The order of a lawful kind of cost, in records from which the checker reads off the costs and their kind.
use Rattle.std.proofs.Common.{◌≡◌, ◌⊎◌, inl, inr}
use Rattle.costs.specs.Laws.{Lawful}
use Rattle.costs.specs.declared.tally.Tally.{Ghosts}
use Rattle.costs.proofs.Orders as orders
use Rattle.facts.proofs.Tests.{not_both}
use Rattle.theory.specs.Problem.{AtMost, Lower}

pub record Laws {V : Type 0} (tally : Ghosts V) : Type 0 where
  pub lawful : Lawful tally.at_most tally.nil tally.join

pub record Le {V : Type 0} (tally : Ghosts V) (u v : V) : Type 0 where
  pub holds : AtMost tally u v

module _ {V : Type 0} {tally : Ghosts V} (laws : Laws tally) where
  unfoldable pub compare : (u v : V) → Le tally u v ⊎ Lower tally v u
  compare u v = elim (orders.compare laws.lawful u v) [ inl h ↦ inl (record { holds = h }) | inr e ↦ inr e ]

  pub lower_le : (u v : V) → Lower tally u v → Le tally u v
  lower_le u v h = record { holds = laws.lawful.total v u h }

  pub lower_not : (u v : V) → Lower tally u v → Le tally v u → ⊥
  lower_not u v h k = not_both k.holds h

  pub le_trans : {u v w : V} → Le tally u v → Le tally v w → Le tally u w
  le_trans {u} {v} {w} h k = record { holds = laws.lawful.transitive u v w h.holds k.holds }

  pub le_anti : {u v : V} → Le tally u v → Le tally v u → u ≡ v
  le_anti {u} {v} h k = laws.lawful.antisymmetric u v h.holds k.holds

  pub le_refl : {u : V} → Le tally u u
  le_refl {u} = record { holds = orders.reflexive laws.lawful u }

  pub le_of : {u v : V} → u ≡ v → Le tally u v
  le_of {u} {v} e = record { holds = orders.from_equal laws.lawful u v e }

  pub le_nil : {v : V} → Le tally tally.nil v
  le_nil {v} = record { holds = laws.lawful.least v }

  pub mono_l : {u v : V} (w : V) → Le tally u v → Le tally (tally.join u w) (tally.join v w)
  mono_l {u} {v} w h = record { holds = laws.lawful.monotone u v w h.holds }

  pub mono_r : {u v : V} (w : V) → Le tally u v → Le tally (tally.join w u) (tally.join w v)
  mono_r {u} {v} w h = record { holds = orders.join_mono_right laws.lawful w u v h.holds }

  pub up_l : (u w : V) → Le tally u (tally.join u w)
  up_l u w = record { holds = orders.up_left laws.lawful u w }

  pub up_r : (u w : V) → Le tally w (tally.join u w)
  up_r u w = record { holds = orders.up_right laws.lawful u w }

  pub lower_then : (u v w : V) → Lower tally u v → Le tally v w → Lower tally u w
  lower_then u v w h k = elim (compare w u) [ inl b ↦ absurd (lower_not u v h (le_trans k b)) | inr b ↦ b ]

  pub then_lower : (u v w : V) → Le tally u v → Lower tally v w → Lower tally u w
  then_lower u v w h k = elim (compare w u) [ inl b ↦ absurd (lower_not v w k (le_trans b h)) | inr b ↦ b ]
