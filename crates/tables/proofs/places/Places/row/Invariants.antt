use Rattle.std.proofs.Common.{◌≡◌}
use Rattle.facts.specs.Sets.{Within}
use Rattle.tables.specs.Nets.{pairs, place_of}
use Rattle.tables.specs.Origins.{setting_in}
use Rattle.tables.specs.Reading.{Top}
use Rattle.tables.proofs.Subsets.{Gone}
use Rattle.tables.proofs.places.Places.row.Given as goal

abbrev pub invariant-loop-q : goal.invariant-loop-q
invariant-loop-q g l =
    Within l.q-iterator.left l.initial.q-iterator.left
    × Top g.V.Tally (λ k. (k.0 ≡ l.p) × Gone l.initial.q-iterator.left l.q-iterator.left k.1) (place_of (pairs g.V.Tally (setting_in l.self.origin)) l.self.table.now) l.top
