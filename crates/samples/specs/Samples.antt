-- The sets, moves and the small task that tests are made of.
use Rattle.std.specs.Prelude.{◌≡◌, ℕ, List, [], ◌∷◌, ◌==◌}
use Rattle.std.specs.List.{list_any}
use Rattle.facts.specs.Sets.{has}
use Rattle.facts.specs.declared.sets.FactSet.{FactSet}
use Rattle.tasks.specs.declared.draft.Draft.{Draft}
use Rattle.tasks.specs.declared.moves.Move.{Move}

-- the set has these facts and no others
abbrev pub IsSet : List ℕ → FactSet → Type 0
IsSet facts s = (f : ℕ) → has s f ≡ list_any (λ fact. f == fact) facts

-- the move has this group and price, and these facts
pub record IsMove (group price : ℕ) (needs makes breaks : List ℕ) (m : Move) : Type 0 where
  pub group_is : m.group ≡ group
  pub price_is : m.price ≡ price
  pub needs_are : IsSet needs m.needs
  pub makes_are : IsSet makes m.makes
  pub breaks_are : IsSet breaks m.breaks

-- one turns fact 0 into fact 1, at 15; the other, of group 1, makes fact 2, at 4
pub record AreTwoMoves (moves : List Move) : Type 0 where
  pub one : Move
  pub other : Move
  pub moves_are : moves ≡ one ∷ other ∷ []
  pub turns : IsMove 0 15 (0 ∷ []) (1 ∷ []) (0 ∷ []) one
  pub makes : IsMove 1 4 [] (2 ∷ []) [] other

-- with these moves, from fact 0 to facts 1 and 2
pub record IsDraft (moves : List Move) (d : Draft) : Type 0 where
  pub facts_are : d.facts ≡ 3
  pub start_is : IsSet (0 ∷ []) d.start
  pub goal_is : IsSet (1 ∷ 2 ∷ []) d.goal
  pub moves_are : d.moves.now ≡ moves
