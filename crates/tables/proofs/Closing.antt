-- What holds of the equation and of worked-out tables.
use Rattle.std.proofs.Common.{◌≡◌, Bool, true, false, cond, T, subst}
use Rattle.facts.specs.Words.{bit}
use Rattle.facts.proofs.Tests.{not_both}
use Rattle.tasks.specs.declared.moves.Move.{Move}
use Rattle.costs.specs.Lists.{charge_of}
use Rattle.costs.specs.declared.tally.Tally.{Ghosts}
use Rattle.costs.proofs.Orders as orders
use Rattle.tables.specs.Theorems.{GreatestIsSole, SharesAreDrawn}
use Rattle.tables.proofs.Order as order
use Rattle.tables.proofs.Order.{LawsOf}
use Rattle.tables.proofs.Soundness.{share_at_move}

module _ {V : Type 0} {tally : Ghosts V} (laws : LawsOf tally) where
  pub greatest_is_sole : GreatestIsSole tally
  greatest_is_sole b m est other g h s = order.antisymmetric laws (est s) (other s) (h.above est g.solves s) (g.above other h.solves s)

  counted_below : (m : Move) (b : Bool) → T (tally.at_most (cond b (charge_of tally m) tally.nil) (charge_of tally m))
  counted_below m true = orders.reflexive laws.lawful (charge_of tally m)
  counted_below m false = laws.lawful.least (charge_of tally m)

  pub shares_are_drawn : SharesAreDrawn tally
  shares_are_drawn d groups over =
      let m = over.1 in
      not_both (counted_below m (bit groups m.group))
      (subst (λ c. tally.at_most c (charge_of tally m) ≡ false) (share_at_move tally groups d.moves.now over.0 m over.2) over.3)
