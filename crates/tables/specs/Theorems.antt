-- What holds of the equation and of worked-out tables, whoever reads them.
use Rattle.std.specs.Prelude.{◌≡◌, ℕ, List}
use Rattle.facts.specs.declared.sets.FactSet.{FactSet}
use Rattle.tasks.specs.declared.draft.Draft.{Draft}
use Rattle.costs.specs.Estimates.{Estimate}
use Rattle.costs.specs.declared.tally.Tally.{Ghosts}
use Rattle.bounds.specs.Sound.{OverdrawnIn}
use Rattle.tables.specs.Equation.{Setting, setting_from, Greatest}
use Rattle.tables.specs.Nets.{Net, place_of}
use Rattle.tables.specs.Reading.{share_at}
use Rattle.tables.specs.Rules.{FitsIn}
use Rattle.tables.specs.Worked.{WorkedOut}

-- two greatest solutions agree at every set
abbrev pub GreatestIsSole : {V : Type 0} → Ghosts V → Type 0
GreatestIsSole {V} tally = (b : Setting) (m : ℕ) (est other : FactSet → Estimate V) → Greatest tally b m est → Greatest tally b m other → (s : FactSet) → est s ≡ other s

-- a bound over a table fits the draft that the table was worked out for
abbrev pub WorkedOutTablesFit : {V K : Type 0} → Ghosts V → ((b : Setting) → Net V b K) → Type 0
WorkedOutTablesFit {V} tally net = (d : Draft) (groups : ℕ) (table : List (Estimate V)) → WorkedOut tally (net (setting_from d groups)) table
    → FitsIn tally (net (setting_from d groups)) (place_of (net (setting_from d groups)) table) d

-- a share is the move's charge or nil, and so never above the charge
abbrev pub SharesAreDrawn : {V : Type 0} → Ghosts V → Type 0
SharesAreDrawn tally = (d : Draft) (groups : ℕ) → OverdrawnIn tally d (share_at tally groups d.moves.now) → ⊥
