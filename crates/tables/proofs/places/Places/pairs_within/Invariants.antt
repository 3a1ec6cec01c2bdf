use Rattle.std.proofs.Common.{ℕ, T}
use Rattle.facts.specs.Sets.{has, Within}
use Rattle.bounds.specs.Sound.{NotAbove}
use Rattle.tables.specs.Nets.{pairs, place_of}
use Rattle.tables.specs.Origins.{setting_in}
use Rattle.tables.proofs.Subsets.{Gone}
use Rattle.tables.proofs.places.Places.pairs_within.Given as goal

abbrev pub invariant-loop-r : goal.invariant-loop-r
invariant-loop-r g l =
    Within l.r-iterator.left l.initial.r-iterator.left
    × ((r : ℕ) → Gone l.initial.r-iterator.left l.r-iterator.left r → (p : ℕ) → T (has l.set p) → NotAbove g.V.Tally (place_of (pairs g.V.Tally (setting_in l.self.origin)) l.self.table.now (p, r)) l.limit)
