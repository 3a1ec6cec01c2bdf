-- Minutes are told apart by their totals alone.
use Rattle.std.specs.Prelude.{◌≡◌, ◌^◌, ◌<◌}
use mathlib.Core.HLevel.{is_prop→PathP}
use Rattle.std.proofs.Math.Bridge.{le_prop}
use Rattle.costs.specs.declared.minutes.Minutes.{Minutes}

pub same : (a b : Minutes) → a.total ≡ b.total → a ≡ b
same a b p = λ i. record { total = p i; fits = is_prop→PathP (λ j. p j < 2 ^ 32) (λ j. le_prop) a.fits b.fits i }
