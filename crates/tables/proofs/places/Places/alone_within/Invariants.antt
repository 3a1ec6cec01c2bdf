use Rattle.std.proofs.Common.{ℕ}
use Rattle.facts.specs.Sets.{Within}
use Rattle.bounds.specs.Sound.{NotAbove}
use Rattle.tables.specs.Nets.{pairs, place_of}
use Rattle.tables.specs.Origins.{setting_in}
use Rattle.tables.proofs.Subsets.{Gone}
use Rattle.tables.proofs.places.Places.alone_within.Given as goal

abbrev pub invariant-loop-p : goal.invariant-loop-p
invariant-loop-p g l =
    Within l.p-iterator.left l.initial.p-iterator.left
    × ((x : ℕ) → Gone l.initial.p-iterator.left l.p-iterator.left x → NotAbove g.V.Tally (place_of (pairs g.V.Tally (setting_in l.self.origin)) l.self.table.now (x, x)) l.limit)
