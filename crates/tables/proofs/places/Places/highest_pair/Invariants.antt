use Rattle.std.proofs.Common.{T}
use Rattle.facts.specs.Sets.{has, Within}
use Rattle.tables.specs.Nets.{pairs, place_of}
use Rattle.tables.specs.Origins.{setting_in}
use Rattle.tables.specs.Reading.{Top}
use Rattle.tables.proofs.Subsets.{Gone}
use Rattle.tables.proofs.places.Places.highest_pair.Given as goal

abbrev pub invariant-loop-p : goal.invariant-loop-p
invariant-loop-p g l =
    Within l.p-iterator.left l.initial.p-iterator.left
    × Top g.V.Tally (λ k. Gone l.initial.p-iterator.left l.p-iterator.left k.0 × T (has l.set k.1)) (place_of (pairs g.V.Tally (setting_in l.self.origin)) l.self.table.now) l.top
