-- What a table was worked out from, as a setting; and what its places have.
use Rattle.std.specs.Prelude.{ℕ}
use Rattle.costs.specs.Estimates.{Estimate}
use Rattle.costs.specs.declared.tally.Tally.{Ghosts}
use Rattle.tables.specs.Equation.{Setting}
use Rattle.tables.specs.Nets.{singles, pairs, place_of}
use Rattle.tables.specs.Reading.{Two}
use Rattle.tables.specs.declared.origin.Origin.{Origin}
use Rattle.tables.specs.declared.places.Places.{Places}

abbrev pub setting_in : Origin → Setting
setting_in o = record { facts = o.facts; start = o.start; moves = o.moves.now; groups = o.groups }

-- the places of a single table
abbrev pub single_values : {V : Type 0} → Ghosts V → Places V → ℕ → Estimate V
single_values tally p = place_of (singles tally (setting_in p.origin)) p.table.now

-- the places of a pair table
abbrev pub pair_values : {V : Type 0} → Ghosts V → Places V → Two → Estimate V
pair_values tally p = place_of (pairs tally (setting_in p.origin)) p.table.now
