-- The order of estimates and their joins, from the laws of a tally.
use Rattle.std.proofs.Common.{◌≡◌, Bool, true, false, T, sym, subst, None, Some}
use Rattle.costs.specs.Choices.{Larger, larger_of}
use Rattle.costs.specs.Estimates.{not_above}
use Rattle.costs.specs.Laws.{Lawful}
use Rattle.costs.specs.Estimates.{Estimate}
use Rattle.costs.specs.declared.tally.Tally.{Ghosts}
use Rattle.costs.specs.EstimatesLemmas as estimates
use Rattle.costs.proofs.Orders as orders
use Rattle.bounds.specs.Sound.{NotAbove, joined_with}

-- a test holds if it cannot fail
pub stable : (b : Bool) → ((T b → ⊥) → ⊥) → T b
stable true h = tt
stable false h = h (λ x. x)

pub record LawsOf {V : Type 0} (tally : Ghosts V) : Type 0 where
  pub lawful : Lawful tally.at_most tally.nil tally.join

module _ {V : Type 0} {tally : Ghosts V} (laws : LawsOf tally) where
  pub reflexive : (e : Estimate V) → NotAbove tally e e
  reflexive = orders.reflexive (estimates.estimates_lawful laws.lawful)

  pub same : {e f : Estimate V} → e ≡ f → NotAbove tally e f
  same {e} p = subst (λ x. NotAbove tally e x) p (reflexive e)

  pub transitive : (e f g : Estimate V) → NotAbove tally e f → NotAbove tally f g → NotAbove tally e g
  transitive = orders.transitive (estimates.estimates_lawful laws.lawful)

  pub antisymmetric : (e f : Estimate V) → NotAbove tally e f → NotAbove tally f e → e ≡ f
  antisymmetric = orders.antisymmetric (estimates.estimates_lawful laws.lawful)

  pub total : (e f : Estimate V) → not_above tally.at_most e f ≡ false → NotAbove tally f e
  total e f p = (estimates.estimates_lawful laws.lawful).total e f p

  pub top : (e : Estimate V) → NotAbove tally e None
  top = estimates.top laws.lawful

  pub least : (e : Estimate V) → NotAbove tally (Some tally.nil) e
  least e = (estimates.estimates_lawful laws.lawful).least e

  pub join_mono : (c : V) (e f : Estimate V) → NotAbove tally e f → NotAbove tally (joined_with tally c e) (joined_with tally c f)
  join_mono c e f p = orders.join_mono_right (estimates.estimates_lawful laws.lawful) (Some c) e f p

  -- a join is at least its part
  pub join_above : (c : V) (e : Estimate V) → NotAbove tally e (joined_with tally c e)
  join_above c e = orders.up_right (estimates.estimates_lawful laws.lawful) (Some c) e

  pub join_never : (c : V) (e f : Estimate V) → e ≡ None → NotAbove tally f (joined_with tally c e)
  join_never c e f p = subst (λ x. NotAbove tally f (joined_with tally c x)) (sym p) (top f)

  pub larger : (e f : Estimate V) → Larger (not_above tally.at_most) e f (larger_of (not_above tally.at_most) e f)
  larger e f = orders.larger_made (estimates.estimates_lawful laws.lawful) e f

pub laws_of : {V : Type 0} (tally : Ghosts V) → Lawful tally.at_most tally.nil tally.join → LawsOf tally
laws_of tally l = record { lawful = l }
