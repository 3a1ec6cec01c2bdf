-- What a move does: carried out it leads from one set of facts to another, and regressed it leads back.
use Rattle.std.specs.Prelude.{◌≡◌, ℕ, not, ◌&&◌, ◌||◌}
use Rattle.facts.specs.Sets.{has, Within, Overlap}
use Rattle.facts.specs.declared.sets.FactSet.{FactSet}
use Rattle.tasks.specs.declared.moves.Move.{Move}

-- the move can be carried out in s, and leaves t: first its breaks are removed, then its makes are added
pub record Carries (m : Move) (s t : FactSet) : Type 0 where
  pub ready : Within m.needs s
  pub result : (f : ℕ) → has t f ≡ ((has s f && not (has m.breaks f)) || has m.makes f)

-- the move makes a fact of s and breaks none; t is s without the makes, together with the needs
pub record Regresses (m : Move) (s t : FactSet) : Type 0 where
  pub makes : Overlap m.makes s
  pub breaks : Overlap m.breaks s → ⊥
  pub result : (f : ℕ) → has t f ≡ ((has s f && not (has m.makes f)) || has m.needs f)
