use Rattle.facts.specs.Sets.{Within}
use Rattle.tables.specs.Nets.{singles, place_of}
use Rattle.tables.specs.Origins.{setting_in}
use Rattle.tables.specs.Reading.{Top}
use Rattle.tables.proofs.Subsets.{Gone}
use Rattle.tables.proofs.places.Places.highest_single.Given as goal

abbrev pub invariant-loop-fact : goal.invariant-loop-fact
invariant-loop-fact g l =
    Within l.fact-iterator.left l.initial.fact-iterator.left
    × Top g.V.Tally (Gone l.initial.fact-iterator.left l.fact-iterator.left) (place_of (singles g.V.Tally (setting_in l.self.origin)) l.self.table.now) l.top
