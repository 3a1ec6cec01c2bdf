-- The worst single price: its order, and the worse of two.
use Rattle.std.specs.Prelude.{ℕ, max, Bool, nat_le}
use Rattle.costs.specs.declared.worst.Worst.{Worst}

abbrev pub no_worse : Worst → Worst → Bool
no_worse a b = nat_le a.highest b.highest

-- the cost of a single price
abbrev pub single : ℕ → Worst
single n = record { highest = n }

abbrev pub worse : Worst → Worst → Worst
worse a b = single (max a.highest b.highest)
