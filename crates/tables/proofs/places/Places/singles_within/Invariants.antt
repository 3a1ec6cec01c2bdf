use Rattle.std.proofs.Common.{ℕ}
use Rattle.facts.specs.Sets.{Within}
use Rattle.bounds.specs.Sound.{NotAbove}
use Rattle.tables.specs.Nets.{singles, place_of}
use Rattle.tables.specs.Origins.{setting_in}
use Rattle.tables.proofs.Subsets.{Gone}
use Rattle.tables.proofs.places.Places.singles_within.Given as goal

abbrev pub invariant-loop-fact : goal.invariant-loop-fact
invariant-loop-fact g l =
    Within l.fact-iterator.left l.initial.fact-iterator.left
    × ((x : ℕ) → Gone l.initial.fact-iterator.left l.fact-iterator.left x → NotAbove g.V.Tally (place_of (singles g.V.Tally (setting_in l.self.origin)) l.self.table.now x) l.limit)
