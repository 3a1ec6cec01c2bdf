use Rattle.std.proofs.Common.{◌≡◌, ◌⊎◌}
use Rattle.facts.specs.Sets.{Within}
use Rattle.tables.specs.Nets.{pairs, Present, place_of}
use Rattle.tables.specs.Origins.{setting_in}
use Rattle.tables.specs.Settling.{Lowers}
use Rattle.tables.proofs.Subsets.{Gone}
use Rattle.tables.proofs.two.lower_pairs.Given as goal

abbrev pub invariant-loop-p : goal.invariant-loop-p
invariant-loop-p g l =
    let n = pairs g.V.Tally (setting_in l.origin) in
    Within l.p-iterator.left l.initial.p-iterator.left
    × Lowers g.V.Tally
    (λ k. Present n k × (((k.1 ≡ l.r) × Gone l.initial.p-iterator.left l.p-iterator.left k.0) ⊎ ((k.0 ≡ l.r) × Gone l.initial.p-iterator.left l.p-iterator.left k.1)))
    l.offer (place_of n l.initial.table) (place_of n l.table)
