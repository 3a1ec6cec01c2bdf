-- Bytes before and after the first one that is b.
use Rattle.std.specs.Prelude.{◌≡◌, ℕ, ◌<◌, List, ◌∷◌, ◌++◌, length, ◌≢◌, slice_index}

-- b stands nowhere in src
abbrev pub Lacks : ℕ → List ℕ → Type 0
Lacks b src = (k : ℕ) → k < length src → slice_index src k ≢ b

-- l is what src has before its first b, and rest is what follows that b
pub record Cut (b : ℕ) (src l rest : List ℕ) : Type 0 where
  pub parts : src ≡ l ++ b ∷ rest
  pub first : Lacks b l
