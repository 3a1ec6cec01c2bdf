-- The number by which a table that is too short is told.
use Rattle.std.specs.Prelude.{ℕ}

abbrev pub too_short : ℕ
too_short = 7
