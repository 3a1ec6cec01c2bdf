-- What every queue keeps.
use Rattle.std.specs.Prelude.{◌≡◌, ℕ, ◌+◌, ◌<◌, ◌≤◌, ◌⊎◌, List, [], ◌∷◌, length, ◌≢◌}
use Rattle.tasks.specs.Lists.{GoodIn}
use Rattle.tasks.specs.Places.{At}
use Rattle.costs.specs.Lists.{Costs}
use Rattle.costs.specs.declared.tally.Tally.{Ghosts}
use Rattle.theory.specs.Problem.{Problem, Lent, AtMost, Usable, Honest}
use Rattle.theory.specs.Meets.{MeetsMoreIn}
use Rattle.theory.specs.Queue.{Call, run, Answer, ran, read, refused, State, kept, holding, Makes, Answers, Event, asked, Queue, SameEstimates, Steady, granted}
use Rattle.theory.specs.declared.record.Mark.{Mark}
use Rattle.theory.specs.declared.record.Mark.TheVariants.{Waiting, Shut}
use Rattle.theory.specs.declared.record.Record.{Record}
use Rattle.theory.specs.declared.refusal.Refusal.{Refusal}
use Rattle.theory.specs.declared.reply.End.{End}
use Rattle.theory.specs.declared.reply.Kind.TheVariants.{Pending, Plan, NoPlan, Full}
use Rattle.theory.specs.declared.reply.Reply.{Reply}

-- a reply whose value is a floor
abbrev pub Floor : {V : Type 0} → Reply V → Type 0
Floor r = (r.kind ≡ Pending) ⊎ (r.kind ≡ Full)

-- no good list costs less than the value
abbrev pub BelowAll : {V : Type 0} {tally : Ghosts V} → Problem tally → V → Type 0
BelowAll {V} {tally} P value = (l : List ℕ) (v : V) → GoodIn P.draft l → Costs tally P.draft.moves.now l v → AtMost tally value v

-- a good list has the cost and the length told
pub record Told {V : Type 0} {tally : Ghosts V} (P : Problem tally) (l : List ℕ) (r : Reply V) : Type 0 where
  pub good : GoodIn P.draft l
  pub costs : Costs tally P.draft.moves.now l r.value
  pub length_told : length l ≡ r.length

-- how many records are shut
abbrev pub one_if_shut : Mark → ℕ
one_if_shut Waiting = 0
one_if_shut Shut = 1

abbrev pub shuts : {V : Type 0} → List (Record V) → ℕ
shuts [] = 0
shuts (r ∷ recs) = one_if_shut r.mark + shuts recs

abbrev pub records_of : {V : Type 0} → State V → List (Record V)
records_of (kept why) = []
records_of (holding recs end) = recs

-- how many openings were counted
abbrev pub openings_of : {V : Type 0} → Answer V → ℕ
openings_of (ran r) = r.opened
openings_of (read l) = 0
openings_of (refused why) = 0

abbrev pub openings : {V : Type 0} → List (Event V) → ℕ
openings [] = 0
openings (asked call answer ∷ es) = openings es + openings_of answer

pub record Promises {V : Type 0} {tally : Ghosts V} (P : Problem tally) (es : List (Event V)) (now : State V) : Type 0 where
  -- after plan no good list costs less
  pub cheapest : (i : ℕ) (c : Call V) (r : Reply V) → At es i (asked c (ran r)) → r.kind ≡ Plan → BelowAll P r.value
  -- and some good list has the cost and the length told
  pub attained : (i : ℕ) (c : Call V) (r : Reply V) → At es i (asked c (ran r)) → r.kind ≡ Plan → (l : List ℕ) × Told P l r
  -- a list is read out only once a run has told a plan, and is such a list
  pub planned_first : (j : ℕ) (d : Call V) (l : List ℕ) → At es j (asked d (read l))
      → (i : ℕ) × (c : Call V) × (r : Reply V) × (j < i) × At es i (asked c (ran r)) × (r.kind ≡ Plan)
  pub readable : (i j : ℕ) (c d : Call V) (r : Reply V) (l : List ℕ) → At es i (asked c (ran r)) → r.kind ≡ Plan → At es j (asked d (read l))
      → Told P l r
  -- after none there is no good list
  pub hopeless : (i : ℕ) (c : Call V) (r : Reply V) → At es i (asked c (ran r)) → r.kind ≡ NoPlan → (l : List ℕ) → GoodIn P.draft l → ⊥
  -- after full regression from the goal meets more sets than there are places
  pub crowded : (i : ℕ) (c : Call V) (r : Reply V) → At es i (asked c (ran r)) → r.kind ≡ Full → MeetsMoreIn P.draft P.room
  -- no good list costs less than a floor
  pub floor : (i : ℕ) (c : Call V) (r : Reply V) → At es i (asked c (ran r)) → Floor r → BelowAll P r.value
  -- floors rise
  pub rising : (i j : ℕ) (c d : Call V) (later earlier : Reply V) → At es i (asked c (ran later)) → At es j (asked d (ran earlier)) → i < j
      → Floor later → Floor earlier → AtMost tally earlier.value later.value
  -- the openings counted are the records shut; this holds before a run and after it, so its own openings are those that it shut
  pub counted : openings es ≡ shuts (records_of now)
  -- with grants for as many openings as there are places, some run has told an end
  pub decided : (recs : List (Record V)) (end : End) → now ≡ holding recs end → P.room ≤ granted es
      → (i : ℕ) × (c : Call V) × (r : Reply V) × At es i (asked c (ran r)) × (r.kind ≢ Pending)
  -- after a refused make every call is answered with the refusal that make kept
  pub turned_down : (why : Refusal) → now ≡ kept why → (i : ℕ) (c : Call V) (a : Answer V) → At es i (asked c a) → a ≡ refused why

abbrev pub QueuesKeepPromises : {V : Type 0} → Ghosts V → Type 0
QueuesKeepPromises {V} tally = (P : Problem tally) → Honest P → (es : List (Event V)) (now : State V) → Queue P es now → Steady P es → Promises P es now

-- two searches have equal records, and answer a further run alike
pub record Alike {V : Type 0} {tally : Ghosts V} (P : Problem tally) (one other : State V) : Type 0 where
  pub records : records_of one ≡ records_of other
  pub answers : (n : ℕ) (b : Lent V) (a d : Answer V) (after then : State V) → (Usable P b → SameEstimates P b)
      → Answers P one (run n b) a after → Answers P other (run n b) d then → (a ≡ d) × (records_of after ≡ records_of then)

-- only the grant sum counts
abbrev pub OnlySumCounts : {V : Type 0} → Ghosts V → Type 0
OnlySumCounts {V} tally = (P : Problem tally) → Honest P → (es fs : List (Event V)) (one other : State V) → Queue P es one → Steady P es → Queue P fs other
    → Steady P fs → granted es ≡ granted fs → Alike P one other

-- a call has an answer, and only one
pub record OneAnswer {V : Type 0} {tally : Ghosts V} (P : Problem tally) (before : State V) (call : Call V) : Type 0 where
  pub answer : Answer V
  pub after : State V
  pub answers : Answers P before call answer after
  pub only : (other : Answer V) (then : State V) → Answers P before call other then → (other ≡ answer) × (then ≡ after)

abbrev pub EveryCallAnswered : {V : Type 0} → Ghosts V → Type 0
EveryCallAnswered {V} tally = (P : Problem tally) → Honest P → (es : List (Event V)) (now : State V) → Queue P es now → Steady P es
    → (call : Call V) → ((n : ℕ) (b : Lent V) → call ≡ run n b → Usable P b → SameEstimates P b) → OneAnswer P now call

-- a make has an outcome, and only one
pub record OneMake {V : Type 0} {tally : Ghosts V} (P : Problem tally) : Type 0 where
  pub new : State V
  pub makes : Makes P new
  pub only : (other : State V) → Makes P other → other ≡ new

abbrev pub EveryMakeDecided : {V : Type 0} → Ghosts V → Type 0
EveryMakeDecided {V} tally = (P : Problem tally) → OneMake P
