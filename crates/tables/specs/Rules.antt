-- The rules of a table from which it follows that its estimates are a bound, and when it fits a task.
use Rattle.std.specs.Prelude.{◌≡◌, ℕ, Bool, ◌&&◌, ◌==◌, Some}
use Rattle.std.specs.Cmp.Lexicographic.{pointwise}
use Rattle.std.specs.List.{list_all}
use Rattle.facts.specs.declared.sets.FactSet.{FactSet}
use Rattle.tasks.specs.Moves.{Regresses}
use Rattle.tasks.specs.Places.{At}
use Rattle.tasks.specs.Tasks.{draft_of, facts_of, start_of, moves_of}
use Rattle.tasks.specs.declared.draft.Draft.{Draft}
use Rattle.tasks.specs.declared.moves.Move.{Move}
use Rattle.tasks.specs.declared.task.Task.{Task}
use Rattle.costs.specs.Estimates.{not_above}
use Rattle.costs.specs.Estimates.{Estimate}
use Rattle.costs.specs.declared.tally.Tally.{Ghosts}
use Rattle.bounds.specs.Sound.{NotAbove}
use Rattle.tables.specs.Equation.{Setting, offer_of}
use Rattle.tables.specs.Nets.{Net, In}

pub record Rules {V K : Type 0} {b : Setting} (tally : Ghosts V) (n : Net V b K) (val : K → Estimate V) : Type 0 where
  -- sets within the start are nil
  pub start : (k : K) → In n b.start k → val k ≡ Some tally.nil
  -- a set is at most each regressing move's counted charge joined with the estimate of the result
  pub moves : (j : ℕ) (m : Move) (k : K) (s t : FactSet) → At b.moves j m → n.Names k s → Regresses m s t
      → NotAbove tally (val k) (offer_of tally b m (n.est val t))
  pub further : n.Further val

-- the draft has these facts, this start and these moves; its goal may be any
pub record SameDraft (b : Setting) (d : Draft) : Type 0 where
  pub facts : b.facts ≡ d.facts
  pub start : b.start ≡ d.start
  pub moves : b.moves ≡ d.moves.now

-- when the bound over a table fits a draft
pub record FitsIn {V K : Type 0} {b : Setting} (tally : Ghosts V) (n : Net V b K) (val : K → Estimate V) (d : Draft) : Type 0 where
  pub same : SameDraft b d
  pub rules : Rules tally n val

-- a task has the parts of its draft, and a bound fits it where it fits that
abbrev pub SameTask : Setting → Task → Type 0
SameTask b t = SameDraft b (draft_of t)

abbrev pub Fits : {V K : Type 0} {b : Setting} (tally : Ghosts V) → Net V b K → (K → Estimate V) → Task → Type 0
Fits tally n val t = FitsIn tally n val (draft_of t)

-- the same as tests
abbrev pub is_same_set : FactSet → FactSet → Bool
is_same_set s u = s.word == u.word

abbrev pub is_same_move : Move → Move → Bool
is_same_move m n = m.group == n.group && (m.price == n.price && (is_same_set m.needs n.needs && (is_same_set m.makes n.makes && is_same_set m.breaks n.breaks)))

abbrev pub is_same_task : Setting → Task → Bool
is_same_task b t = b.facts == facts_of t && (is_same_set b.start (start_of t) && pointwise is_same_move b.moves (moves_of t))

abbrev pub keeps : {V K : Type 0} {b : Setting} (tally : Ghosts V) → Net V b K → (K → Estimate V) → Bool
keeps {b = b} tally n val =
    not_above tally.at_most (n.est val b.start) (Some tally.nil) && (list_all (n.keeps_move val) b.moves && n.keeps_further val)

abbrev pub fits : {V K : Type 0} {b : Setting} (tally : Ghosts V) → Net V b K → (K → Estimate V) → Task → Bool
fits {b = b} tally n val t = is_same_task b t && keeps tally n val
