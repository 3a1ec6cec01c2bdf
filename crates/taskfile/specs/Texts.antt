-- The text of a draft, and what it is read as.
use Rattle.std.specs.Prelude.{◌≡◌, ℕ, zero, suc, ◌≤◌, Bool, true, false, List, [], ◌∷◌, ◌++◌, length, drop, Ok, Result}
use Rattle.std.specs.List.{AllByRecursion}
use Rattle.facts.specs.Sets.{has}
use Rattle.facts.specs.declared.sets.FactSet.{FactSet}
use Rattle.tasks.specs.declared.draft.Draft.{Draft}
use Rattle.tasks.specs.declared.moves.Move.{Move}
use Rattle.taskfile.specs.declared.heading.Heading.{Heading}
use Rattle.taskfile.specs.declared.keys.Key.{Key}
use Rattle.taskfile.specs.declared.keys.Key.TheVariants.{Facts, Moves, Start, Goal, Group, Price, Needs, Makes, Breaks}
use Rattle.taskfile.specs.declared.misread.Misread.{Misread}
use Rattle.taskfile.specs.Entries.{Entry, number, members, Between}
use Rattle.taskfile.specs.Fronts.{text_from}

-- n stands before the others if the test says so
abbrev pub keep : Bool → ℕ → List ℕ → List ℕ
keep true n ns = n ∷ ns
keep false n ns = ns

-- the facts of s among the n numbers from f on, in rising order
unfoldable pub facts_from : FactSet → ℕ → ℕ → List ℕ
facts_from s f zero = []
facts_from s f (suc n) = keep (has s f) f (facts_from s (suc f) n)

abbrev pub set_entry : FactSet → Entry
set_entry s = members (facts_from s 0 64)

abbrev pub move_entries : List Move → List Entry
move_entries [] = []
move_entries (m ∷ ms) = number m.group ∷ number m.price ∷ set_entry m.needs ∷ set_entry m.makes ∷ set_entry m.breaks ∷ move_entries ms

abbrev pub entries_of : Draft → List Entry
entries_of d = number d.facts ∷ number (length d.moves.now) ∷ set_entry d.start ∷ set_entry d.goal ∷ move_entries d.moves.now

abbrev pub text_of : Draft → List ℕ
text_of d = text_from Facts (entries_of d)

abbrev pub heading_of : Draft → Heading
heading_of d = record { facts = d.facts; count = length d.moves.now; start = d.start; goal = d.goal }

-- what a draft has is in range
abbrev pub SetBetween : Key → FactSet → Type 0
SetBetween k s = (f : ℕ) → has s f ≡ true → Between k f

pub record MoveBetween (m : Move) : Type 0 where
  pub group : Between Group m.group
  pub price : Between Price m.price
  pub needs : SetBetween Needs m.needs
  pub makes : SetBetween Makes m.makes
  pub breaks : SetBetween Breaks m.breaks

pub record DraftBetween (d : Draft) : Type 0 where
  pub facts : Between Facts d.facts
  pub count : Between Moves (length d.moves.now)
  pub start : SetBetween Start d.start
  pub goal : SetBetween Goal d.goal
  pub moves : AllByRecursion MoveBetween d.moves.now

-- where the bytes are the text of a draft, its heading is read, its moves stand in the first places, and the others are as before
abbrev pub ReadsBack : List ℕ → List Move → Result Heading Misread → List Move → Type 0
ReadsBack src before r after = (d : Draft) → src ≡ text_of d → DraftBetween d → length src ≤ 60000 → length d.moves.now ≤ length before
    → (r ≡ Ok (heading_of d)) × (after ≡ d.moves.now ++ drop (length d.moves.now) before)
