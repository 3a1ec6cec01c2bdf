-- What entries tell: a heading, and moves one after another.
use Rattle.std.specs.Prelude.{◌≡◌, ℕ, ◌<◌, List, ◌∷◌, length}
use Rattle.facts.specs.Sets.{Lists}
use Rattle.facts.specs.declared.sets.FactSet.{FactSet}
use Rattle.tasks.specs.declared.moves.Move.{Move}
use Rattle.taskfile.specs.declared.heading.Heading.{Heading}
use Rattle.taskfile.specs.Entries.{Entry, number, members}

abbrev pub TellsNumber : ℕ → Entry → Type 0
TellsNumber n (number m) = n ≡ m
TellsNumber n (members ns) = ⊥

abbrev pub TellsSet : FactSet → Entry → Type 0
TellsSet s (number n) = ⊥
TellsSet s (members ns) = Lists s ns

pub record TellsMove (m : Move) (g p n k b : Entry) : Type 0 where
  pub group : TellsNumber m.group g
  pub price : TellsNumber m.price p
  pub needs : TellsSet m.needs n
  pub makes : TellsSet m.makes k
  pub breaks : TellsSet m.breaks b

-- the first four entries tell the heading
pub data TellsHeading (h : Heading) : List Entry → Type 0 where
  heading : {f c s g : Entry} {es : List Entry}
      → TellsNumber h.facts f → TellsNumber h.count c → TellsSet h.start s → TellsSet h.goal g → TellsHeading h (f ∷ c ∷ s ∷ g ∷ es)

-- what a list of moves holds before and after: five entries tell a move, which takes the next place, and where fewer are left all places stay
pub data Written : List Entry → List Move → List Move → Type 0 where
  stay : {es : List Entry} {list : List Move} → length es < 5 → Written es list list
  put : {g p n k b : Entry} {es : List Entry} {old new : Move} {before after : List Move}
      → TellsMove new g p n k b → Written es before after → Written (g ∷ p ∷ n ∷ k ∷ b ∷ es) (old ∷ before) (new ∷ after)
