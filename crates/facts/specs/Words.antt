-- The bits of a word.
use Rattle.std.specs.Prelude.{ℕ, ◌/◌, ◌%◌, ◌^◌, Bool, ◌==◌}

unfoldable pub bit : ℕ → ℕ → Bool
bit word f = word / 2 ^ f % 2 == 1
