use Rattle.std.proofs.Common.{◌≡◌, ℕ, ◌<◌, ◌≤◌, T}
use Rattle.facts.specs.Sets.{has}
use Rattle.tasks.specs.Places.{At}
use Rattle.tables.specs.Nets.{pairs, place_of}
use Rattle.tables.specs.Origins.{setting_in}
use Rattle.tables.specs.Reading.{Top}
use Rattle.tables.specs.Settling.{touches, Before, Turned}
use Rattle.tables.proofs.TwoFacts.{With}
use Rattle.tables.proofs.two.TwoLayout.take.Given as goal

-- the facts before the next are taken
abbrev pub invariant-loop-r : goal.invariant-loop-r
invariant-loop-r g l =
    let b = setting_in l.origin in
    let n = pairs g.V.Tally b in
    let first = l.initial.r-iterator.start in
    let next = l.r-iterator.start in
    Top g.V.Tally (λ k. T (has l.m.needs k.0) × T (has l.m.needs k.1)) (place_of n l.table) l.base
    × ((first ≤ next) × (l.r-iterator.end ≡ l.initial.r-iterator.end))
    × ((j : ℕ) → At b.moves j l.m
    → Turned g.V.Tally n (λ t. touches (n.inside t) l.fn.settled) (Before j) (With j l.m (λ x. (first ≤ x) × (x < next))) (place_of n l.initial.table) (place_of n l.table))
