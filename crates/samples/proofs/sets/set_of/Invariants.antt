use Rattle.std.proofs.Common.{◌≡◌, ℕ, ◌==◌, take}
use Rattle.std.specs.List.{list_any}
use Rattle.facts.specs.Sets.{has}
use Rattle.samples.proofs.sets.set_of.Given as goal

abbrev pub invariant-loop-fact : goal.invariant-loop-fact
invariant-loop-fact l = (f : ℕ) → has l.set f ≡ list_any (λ fact. f == fact) (take l.fact-index l.facts)
