-- The record that an end tells of, and what a search that has ended tells again.
use Rattle.std.specs.Prelude.{ℕ, ◌<◌, List}
use Rattle.std.specs.Coded.{Unit-prop, le_prop}
use Rattle.costs.specs.declared.tally.Tally.{Ghosts}
use Rattle.theory.specs.Problem.{Problem}
use Rattle.theory.specs.Runs.{Tells}
use Rattle.theory.specs.declared.record.Record.{Record}
use Rattle.theory.specs.declared.reply.End.{End}
use Rattle.theory.specs.declared.reply.End.TheVariants.{Going, Planned, Exhausted, Filled}
use Rattle.theory.specs.declared.reply.Reply.{Reply}
use Rattle.runs.specs.Trails.{Sane}

-- the record that the end tells of, if any, is among the first n
abbrev pub Inside : ℕ → End → Type 0
Inside n Going = Unit {0}
Inside n (Planned i) = i < n
Inside n Exhausted = Unit {0}
Inside n (Filled i) = i < n

-- which can be known in one way only
pub inside_prop : (n : ℕ) (end : End) → IsProp (Inside n end)
inside_prop n Going = Unit-prop
inside_prop n (Planned i) = le_prop
inside_prop n Exhausted = Unit-prop
inside_prop n (Filled i) = le_prop

-- the reply is what the rules have a search tell that has ended so
abbrev pub Retells : {V : Type 0} → Ghosts V → List (Record V) → End → Reply V → Type 0
Retells tally recs end reply = ∥ Sane recs end ∥₁ → (P : Problem tally) → Tells P recs end reply
