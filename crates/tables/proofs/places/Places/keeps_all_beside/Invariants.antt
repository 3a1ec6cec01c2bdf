use Rattle.std.proofs.Common.{ℕ, ◌<◌, T}
use Rattle.facts.specs.Sets.{has}
use Rattle.tables.specs.Nets.{pairs, place_of, UnderOffer}
use Rattle.tables.specs.Origins.{setting_in}
use Rattle.tables.proofs.places.Places.keeps_all_beside.Given as goal

-- the heads beside each fact so far
abbrev pub invariant-loop-r : goal.invariant-loop-r
invariant-loop-r g l =
    let b = setting_in l.self.origin in
    (r : ℕ) → r < l.r → (T (has l.m.breaks r) → ⊥) → UnderOffer g.V.Tally b (place_of (pairs g.V.Tally b) l.self.table.now) l.m r
