-- The numbers of refusals, case by case.
use Rattle.std.specs.Prelude.{ℕ}
use Rattle.theory.specs.declared.refusal.Refusal.{Refusal}
use Rattle.theory.specs.declared.refusal.Refusal.TheVariants.{TableSize, Misfit, Overdrawn, GrantTooLarge, NotPlanned, ListTooShort}

abbrev pub number_of : Refusal → ℕ
number_of TableSize = 8
number_of Misfit = 9
number_of Overdrawn = 10
number_of GrantTooLarge = 11
number_of NotPlanned = 12
number_of ListTooShort = 13
