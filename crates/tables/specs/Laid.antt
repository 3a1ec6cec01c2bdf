-- What holds of the places of a table, whatever is in it.
use Rattle.std.specs.Prelude.{◌≡◌, ℕ, ◌<◌, ◌≤◌, ◌↔◌, IsTrue, T, None}
use Rattle.facts.specs.Sets.{has, Within}
use Rattle.facts.specs.declared.sets.FactSet.{FactSet}
use Rattle.tasks.specs.Places.{At}
use Rattle.tasks.specs.declared.moves.Move.{Move}
use Rattle.costs.specs.Estimates.{Estimate}
use Rattle.costs.specs.declared.tally.Tally.{Ghosts}
use Rattle.bounds.specs.Sound.{NotAbove}
use Rattle.tables.specs.Equation.{Setting, Few}
use Rattle.tables.specs.Nets.{Net, Present, In}
use Rattle.tables.specs.Reading.{Top}
use Rattle.tables.specs.Rules.{Rules, keeps}
use Rattle.tables.specs.Settling.{Step, via, Sure}

-- the places stand for the sets of few facts
pub record Shape {V K : Type 0} {b : Setting} (n : Net V b K) : Type 0 where
  pub few_of : (k : K) (s : FactSet) → n.Names k s → Few n.size s
  pub of_few : (s : FactSet) → Few n.size s → (Within s b.start → ⊥) → (k : K) × n.Names k s
  pub set_of : (k : K) → (s : FactSet) × n.Names k s
  pub same_set : (k : K) (s u : FactSet) → n.Names k s → n.Names k u → s ≡ u
  pub in_within : (t : FactSet) (k : K) (s : FactSet) → n.Names k s → In n t k → Within s t
  pub within_in : (t : FactSet) (k : K) (s : FactSet) → n.Names k s → Within s t → In n t k
  pub past_fact : (k : K) (s : FactSet) → n.Names k s → (Present n k → ⊥) → (x : ℕ) × T (has s x) × (b.facts ≤ x)
  pub past_place : (t : FactSet) (x : ℕ) → T (has t x) → b.facts ≤ x → (k : K) × In n t k × (Present n k → ⊥)

-- each place that the table has is one of its numbers
pub record Numbered {V K : Type 0} {b : Setting} (n : Net V b K) : Type 0 where
  pub below : (k : K) → Present n k → n.number k < n.count
  pub placed : (k : K) → Present n k → n.place (n.number k) ≡ k
  pub present : (i : ℕ) → i < n.count → Present n (n.place i)
  pub numbered : (i : ℕ) → i < n.count → n.number (n.place i) ≡ i
  pub few : b.facts ≤ 64 → n.count ≤ 4096

-- the estimate of a set is its highest place
abbrev pub Tops : {V K : Type 0} {b : Setting} (tally : Ghosts V) → Net V b K → Type 0
Tops {V} {K} tally n = (val : K → Estimate V) (t : FactSet) → Top tally (In n t) val (n.est val t)

-- there are few facts, and the start and what moves make are some of them
pub record Known (b : Setting) : Type 0 where
  pub few : b.facts ≤ 64
  pub start : (f : ℕ) → T (has b.start f) → f < b.facts
  pub makes : (j : ℕ) (m : Move) → At b.moves j m → (f : ℕ) → T (has m.makes f) → f < b.facts

-- no place is above what a move allows it
abbrev pub Closed : {V K : Type 0} {b : Setting} (tally : Ghosts V) → Net V b K → (K → Estimate V) → Type 0
Closed {K = K} tally n val = (j : ℕ) (m : Move) (y : K) (t : FactSet) → Step n j m y t → NotAbove tally (val y) (via tally n m val t)

pub record Laid {V K : Type 0} {b : Setting} (tally : Ghosts V) (n : Net V b K) : Type 0 where
  pub shape : Shape n
  pub numbers : Numbered n
  pub tops : Tops tally n
  -- settled places keep what more is asked, and then the estimate of a place's set is what stands there
  pub further : Known b → (val : K → Estimate V) → Sure tally n val → Closed tally n val → n.Further val
  pub own : (val : K → Estimate V) → n.Further val → (k : K) (s : FactSet) → n.Names k s → n.est val s ≡ val k
  -- the tests tell whether the rules are kept, where missing places are never
  pub tells : (val : K → Estimate V) → ((k : K) → (Present n k → ⊥) → val k ≡ None) → IsTrue (keeps tally n val) ↔ Rules tally n val
