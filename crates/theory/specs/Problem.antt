-- What a search is made from: a kind of cost, a draft, a bound and a number of places for records.
use Rattle.std.specs.Prelude.{◌≡◌, ℕ, ◌≤◌, Bool, true, false, T}
use Rattle.facts.specs.declared.sets.FactSet.{FactSet}
use Rattle.tasks.specs.Faults.{Faultless}
use Rattle.tasks.specs.declared.draft.Draft.{Draft}
use Rattle.costs.specs.Estimates.{Estimate}
use Rattle.costs.specs.declared.tally.Tally.{Ghosts}
use Rattle.bounds.specs.Sound.{SoundIn, OverdrawnIn}

-- what is seen of a bound that is handed to a call: whether it fits the task, its estimates and its shares
pub record Lent (V : Type 0) : Type 0 where
  pub fits : Bool
  pub estimate : FactSet → Estimate V
  pub share : ℕ → V

-- the draft may be any, with a fault or without; the bound is the one that make was handed
pub record Problem {V : Type 0} (tally : Ghosts V) : Type 0 where
  pub draft : Draft
  pub bound : Lent V
  pub room : ℕ

abbrev pub AtMost : {V : Type 0} → Ghosts V → V → V → Type 0
AtMost tally u v = T (tally.at_most u v)

abbrev pub Lower : {V : Type 0} → Ghosts V → V → V → Type 0
Lower tally u v = tally.at_most v u ≡ false

-- the problem with the estimates of another bound: a run reads nothing else of the bound that it is handed
abbrev pub handed : {V : Type 0} {tally : Ghosts V} → Problem tally → Lent V → Problem tally
handed P b = record {
  draft = P.draft;
  bound = record { fits = P.bound.fits; estimate = b.estimate; share = P.bound.share };
  room = P.room;
}

-- the bound fits and is not overdrawn
pub record Usable {V : Type 0} {tally : Ghosts V} (P : Problem tally) (b : Lent V) : Type 0 where
  pub fitting : b.fits ≡ true
  pub drawn : OverdrawnIn tally P.draft b.share → ⊥

-- there is a place for a record, and every record has a number below 65,535
pub record Roomy {V : Type 0} {tally : Ghosts V} (P : Problem tally) : Type 0 where
  pub some : 1 ≤ P.room
  pub few : P.room ≤ 65535

-- what the promises suppose: the draft was checked and has no fault, and a bound that fits keeps its two laws
pub record Honest {V : Type 0} {tally : Ghosts V} (P : Problem tally) : Type 0 where
  pub checked : Faultless P.draft
  pub sound : P.bound.fits ≡ true → SoundIn tally P.draft P.bound.estimate P.bound.share
