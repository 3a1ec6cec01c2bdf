-- Lines, as the reader takes them.
use Rattle.std.specs.Prelude.{◌≡◌, ℕ, ◌+◌, ◌*◌, ◌<◌, List, [], ◌∷◌, ◌++◌, length}
use Rattle.tasks.specs.declared.moves.Move.{Move}
use Rattle.taskfile.specs.declared.heading.Heading.{Heading}
use Rattle.taskfile.specs.declared.keys.Key.{Key}
use Rattle.taskfile.specs.declared.keys.Value.{Value}
use Rattle.taskfile.specs.declared.misread.Flaw.{Flaw}
use Rattle.taskfile.specs.declared.misread.Flaw.TheVariants.{WrongLine, TooManyMoves}
use Rattle.taskfile.specs.declared.misread.Misread.{Misread}
use Rattle.taskfile.specs.declared.reader.Reader.{Reader}
use Rattle.taskfile.specs.Cuts.{Lacks}
use Rattle.taskfile.specs.Entries.{Entry, line_of, Formed, InRange}
use Rattle.taskfile.specs.Faults.{HasLine, Faulty}
use Rattle.taskfile.specs.Fronts.{Front, key_from}
use Rattle.taskfile.specs.Keys.{after, lead, one_number}
use Rattle.taskfile.specs.Tellings.{TellsHeading, TellsMove, Written}
use Rattle.taskfile.specs.Values.{is_number, written}

-- the bytes src begin with a line of the key k that has the value v
pub record Line (k : Key) (v : Value) (src rest : List ℕ) : Type 0 where
  pub text : src ≡ lead k ++ (written v ++ 10 ∷ rest)
  pub sort : is_number v ≡ one_number k
  pub whole : Lacks 10 (written v)

-- the reader a goes on to the next line as the reader b
pub record Moved (a b : Reader) : Type 0 where
  pub next : b.expected ≡ after a.expected
  pub count : b.line ≡ a.line + 1

-- the reader a takes the line with the value v, and is then the reader b
pub record TookLine (a : Reader) (v : Value) (b : Reader) : Type 0 where
  pub line : Line a.expected v a.rest.now b.rest.now
  pub moved : Moved a b

abbrev pub NoLine : Reader → Type 0
NoLine a = HasLine a.expected a.rest.now → ⊥

-- the reader a takes the line that says e, well formed and in range, and is then the reader b
pub record Took (a : Reader) (e : Entry) (b : Reader) : Type 0 where
  pub text : a.rest.now ≡ line_of a.expected e ++ b.rest.now
  pub formed : Formed a.expected e
  pub inside : InRange a.expected e
  pub moved : Moved a b

-- the reader a takes a line that tells t, and is then the reader b
pub record TookAs {A : Type 0} (tells : A → Entry → Type 0) (a : Reader) (t : A) (b : Reader) : Type 0 where
  pub entry : Entry
  pub told : tells t entry
  pub took : Took a entry b

-- the line that is due has this flaw, whatever room there is
abbrev pub Faults : Reader → Flaw → Type 0
Faults a f = (room : ℕ) → Faulty room a.expected a.rest.now f

pub record Stops (a : Reader) (m : Misread) : Type 0 where
  pub flaw : Faults a m.flaw
  pub line : m.line ≡ a.line

-- all lines are taken, and bytes follow
pub record LeftOver (a : Reader) (m : Misread) : Type 0 where
  pub some : 0 < length a.rest.now
  pub flaw : m.flaw ≡ WrongLine
  pub line : m.line ≡ a.line

pub record TooMany (m : Misread) : Type 0 where
  pub flaw : m.flaw ≡ TooManyMoves
  pub line : m.line ≡ 2

-- the reader a takes the lines of es, all good, and is then the reader b
pub record TookAll (room : ℕ) (a : Reader) (es : List Entry) (b : Reader) : Type 0 where
  pub front : Front room a.expected a.rest.now es b.rest.now
  pub next : b.expected ≡ key_from a.expected es
  pub count : b.line ≡ a.line + length es

-- the reader a takes the lines of some entries, fewer than `most`, and stops at the next
pub record StopsIn (room : ℕ) (a : Reader) (most : ℕ) (m : Misread) (es : List Entry) : Type 0 where
  pub rest : List ℕ
  pub front : Front room a.expected a.rest.now es rest
  pub few : length es < most
  pub flaw : Faulty room (key_from a.expected es) rest m.flaw
  pub line : m.line ≡ a.line + length es

-- the reader a takes the lines of a heading
pub record TookHeading (room : ℕ) (a : Reader) (h : Heading) (b : Reader) : Type 0 where
  pub facts : Entry
  pub count : Entry
  pub start : Entry
  pub goal : Entry
  pub tells : TellsHeading h (facts ∷ count ∷ start ∷ goal ∷ [])
  pub lines : TookAll room a (facts ∷ count ∷ start ∷ goal ∷ []) b

-- the reader a takes the lines of a move
pub record TookMove (room : ℕ) (a : Reader) (m : Move) (b : Reader) : Type 0 where
  pub group : Entry
  pub price : Entry
  pub needs : Entry
  pub makes : Entry
  pub breaks : Entry
  pub tells : TellsMove m group price needs makes breaks
  pub lines : TookAll room a (group ∷ price ∷ needs ∷ makes ∷ breaks ∷ []) b

-- the reader a takes the lines of this many moves, which are written to the list
pub record TookMoves (room moves : ℕ) (a : Reader) (before after : List Move) (b : Reader) : Type 0 where
  pub entries : List Entry
  pub many : length entries ≡ 5 * moves
  pub written : Written entries before after
  pub lines : TookAll room a entries b

abbrev pub StopsBefore : ℕ → Reader → ℕ → Misread → Type 0
StopsBefore room a most m = (es : List Entry) × StopsIn room a most m es

-- the moves that the reader takes before it stops are written to the list
pub record StopsWriting (room moves : ℕ) (a : Reader) (before after : List Move) (m : Misread) : Type 0 where
  pub entries : List Entry
  pub written : Written entries before after
  pub stops : StopsIn room a (5 * moves) m entries
