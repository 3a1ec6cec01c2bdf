-- The numbers of refusals, case by case.
use Rattle.std.specs.Prelude.{ℕ}
use Rattle.tasks.specs.declared.refusal.Place.{Place}
use Rattle.tasks.specs.declared.refusal.Place.TheVariants.{Heading, Move as OfMove}
use Rattle.tasks.specs.declared.refusal.Refusal.{Refusal}
use Rattle.tasks.specs.declared.refusal.Refusal.TheVariants.{OutOfRange, UnknownFact, MakesAndBreaks}

abbrev pub number_of : Refusal → ℕ
number_of OutOfRange = 3
number_of UnknownFact = 5
number_of MakesAndBreaks = 6

-- the move at fault, 65,535 if it is the draft itself
abbrev pub place_of : Place → ℕ
place_of Heading = 65535
place_of (OfMove k) = k
