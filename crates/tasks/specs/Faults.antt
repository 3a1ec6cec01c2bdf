-- What the check looks for: the faults of a draft, and which of them comes first.
use Rattle.std.specs.Prelude.{ℕ, suc, ◌<◌, ◌≤◌, ◌⊎◌, length}
use Rattle.facts.specs.Sets.{HasFrom, Overlap}
use Rattle.tasks.specs.Places.{At}
use Rattle.tasks.specs.Refusals.{number_of}
use Rattle.tasks.specs.declared.draft.Draft.{Draft}
use Rattle.tasks.specs.declared.moves.Move.{Move}
use Rattle.tasks.specs.declared.refusal.Fault.{Fault}
use Rattle.tasks.specs.declared.refusal.Place.{Place}
use Rattle.tasks.specs.declared.refusal.Place.TheVariants.{Heading, Move as OfMove}
use Rattle.tasks.specs.declared.refusal.Refusal.{Refusal}
use Rattle.tasks.specs.declared.refusal.Refusal.TheVariants.{OutOfRange, UnknownFact, MakesAndBreaks}

-- what is wrong with the draft itself (prices have no case: a 16-bit number is always in range)
abbrev pub HeadingFault : Draft → Refusal → Type 0
HeadingFault d OutOfRange = (d.facts < 1) ⊎ ((64 < d.facts) ⊎ (1024 < length d.moves.now))
HeadingFault d UnknownFact = HasFrom d.start d.facts ⊎ HasFrom d.goal d.facts
HeadingFault d MakesAndBreaks = ⊥

-- what is wrong with one of its moves
abbrev pub MoveFault : Draft → Refusal → Move → Type 0
MoveFault d OutOfRange m = 7 < m.group
MoveFault d UnknownFact m = HasFrom m.needs d.facts ⊎ (HasFrom m.makes d.facts ⊎ HasFrom m.breaks d.facts)
MoveFault d MakesAndBreaks m = Overlap m.makes m.breaks

-- the draft has this fault at this place
abbrev pub Faulty : Draft → Refusal → Place → Type 0
Faulty d r Heading = HeadingFault d r
Faulty d r (OfMove k) = (m : Move) × At d.moves.now k m × MoveFault d r m

abbrev pub Faultless : Draft → Type 0
Faultless d = (r : Refusal) (p : Place) → Faulty d r p → ⊥

-- the draft itself is looked at before its moves, and these in rising order
abbrev pub turn : Place → ℕ
turn Heading = 0
turn (OfMove k) = suc k

-- the place p is at fault, and no place before it
pub record FirstPlace (d : Draft) (r : Refusal) (p : Place) : Type 0 where
  pub here : Faulty d r p
  pub first : (q : Place) → Faulty d r q → turn p ≤ turn q

-- the first fault has the lowest number that occurs, and the first of its places
pub record FirstFault (d : Draft) (e : Fault) : Type 0 where
  pub at : FirstPlace d e.refusal e.place
  pub lowest : (r : Refusal) (p : Place) → Faulty d r p → number_of e.refusal ≤ number_of r
