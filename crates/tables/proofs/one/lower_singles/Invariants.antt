use Rattle.facts.specs.Sets.{Within}
use Rattle.tables.specs.Nets.{singles, Present, place_of}
use Rattle.tables.specs.Origins.{setting_in}
use Rattle.tables.specs.Settling.{Lowers}
use Rattle.tables.proofs.Subsets.{Gone}
use Rattle.tables.proofs.one.lower_singles.Given as goal

abbrev pub invariant-loop-fact : goal.invariant-loop-fact
invariant-loop-fact g l =
    let n = singles g.V.Tally (setting_in l.origin) in
    Within l.fact-iterator.left l.initial.fact-iterator.left
    × Lowers g.V.Tally (λ k. Present n k × Gone l.initial.fact-iterator.left l.fact-iterator.left k) l.offer (place_of n l.initial.table) (place_of n l.table)
