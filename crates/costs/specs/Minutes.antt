-- Minutes: their order, and the sum, held at 2 ^ 32 - 1 where it would pass it.
use Rattle.std.specs.Prelude.{ℕ, ◌+◌, ◌-◌, ◌^◌, min, Bool, nat_le}
use Rattle.std.proofs.Common.{arith}
use Rattle.costs.specs.declared.minutes.Minutes.{Minutes}

abbrev pub no_longer : Minutes → Minutes → Bool
no_longer a b = nat_le a.total b.total

-- n minutes, or the largest number of minutes where n is beyond it
abbrev pub held : ℕ → Minutes
held n = record { total = min n (2 ^ 32 - 1); fits = omega arith }

abbrev pub sum : Minutes → Minutes → Minutes
sum a b = held (a.total + b.total)
