-- The numbers of flaws, case by case.
use Rattle.std.specs.Prelude.{ℕ}
use Rattle.taskfile.specs.declared.misread.Flaw.{Flaw}
use Rattle.taskfile.specs.declared.misread.Flaw.TheVariants.{WrongLine, Malformed, OutOfRange, TooManyMoves}

abbrev pub number_of : Flaw → ℕ
number_of WrongLine = 1
number_of Malformed = 2
number_of OutOfRange = 3
number_of TooManyMoves = 4
