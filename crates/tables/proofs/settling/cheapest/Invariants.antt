use Rattle.std.proofs.Common.{◌≡◌, ℕ, ◌<◌, false, ◌⊎◌, length, get_or, None}
use Rattle.bounds.specs.Sound.{NotAbove}
use Rattle.tables.proofs.settling.cheapest.Given as goal

abbrev pub invariant-loop-number : goal.invariant-loop-number
invariant-loop-number g l =
    ((v : ℕ) → v < l.number → get_or l.done v false ≡ false → NotAbove g.V.Tally l.best (get_or l.table v None))
    × ((l.best ≡ None) ⊎ ((l.chosen < length l.table) × (get_or l.done l.chosen false ≡ false) × (l.best ≡ get_or l.table l.chosen None)))
