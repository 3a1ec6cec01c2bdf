-- A run: one constructor for each rule.
use Rattle.std.specs.Prelude.{ℕ, zero, suc, List, [], ◌∷◌, length, ◌≢◌}
use Rattle.facts.specs.Sets.{Within}
use Rattle.tasks.specs.Places.{At}
use Rattle.costs.specs.declared.tally.Tally.{Ghosts}
use Rattle.theory.specs.Problem.{Problem}
use Rattle.theory.specs.Records.{Chosen, NoneWaits}
use Rattle.theory.specs.Openings.{Opens, Overflows}
use Rattle.theory.specs.declared.record.Record.{Record}
use Rattle.theory.specs.declared.reply.End.{End}
use Rattle.theory.specs.declared.reply.End.TheVariants.{Going, Planned, Exhausted, Filled}
use Rattle.theory.specs.declared.reply.Kind.TheVariants.{Pending, Plan, NoPlan, Full}
use Rattle.theory.specs.declared.reply.Reply.{Reply}

-- the list read from a record through the parents to record 0, each move as it comes
pub data Trail {V : Type 0} (recs : List (Record V)) : ℕ → List ℕ → Type 0 where
  root : Trail recs zero []
  up : {i : ℕ} {r : Record V} {l : List ℕ} → (i ≢ zero) → At recs i r → Trail recs r.parent l → Trail recs i (r.via ∷ l)

-- what is told of the record c: a plan by a list of so many moves, a table that is full, or a grant that is used up
abbrev pub tell_plan : {V : Type 0} → Record V → ℕ → Reply V
tell_plan c n = record { kind = Plan; opened = 0; value = c.spent; length = n }

abbrev pub tell_full : {V : Type 0} → Record V → Reply V
tell_full c = record { kind = Full; opened = 0; value = c.promise; length = 0 }

abbrev pub tell_pending : {V : Type 0} → Record V → Reply V
tell_pending c = record { kind = Pending; opened = 0; value = c.promise; length = 0 }

abbrev pub tell_none : {V : Type 0} {tally : Ghosts V} → Problem tally → Reply V
tell_none {tally = tally} P = record { kind = NoPlan; opened = 0; value = tally.nil; length = 0 }

abbrev pub one_more : {V : Type 0} → Reply V → Reply V
one_more r = record { kind = r.kind; opened = suc r.opened; value = r.value; length = r.length }

-- what a search that has ended tells
pub data Tells {V : Type 0} {tally : Ghosts V} (P : Problem tally) (recs : List (Record V)) : End → Reply V → Type 0 where
  tells_plan : {i : ℕ} {c : Record V} {l : List ℕ} → At recs i c → Trail recs i l → Tells P recs (Planned i) (tell_plan c (length l))
  tells_none : Tells P recs Exhausted (tell_none P)
  tells_full : {i : ℕ} {c : Record V} → At recs i c → Tells P recs (Filled i) (tell_full c)

-- a set that does not lie within the start
abbrev pub Outside : {V : Type 0} {tally : Ghosts V} → Problem tally → Record V → Type 0
Outside P c = Within c.set P.draft.start → ⊥

-- a run with a grant: the records and the end before it, its reply, and the records and the end after it
pub data Runs {V : Type 0} {tally : Ghosts V} (P : Problem tally) : ℕ → List (Record V) → End → Reply V → List (Record V) → End → Type 0 where
  -- a search that has ended tells its end again
  again : {n : ℕ} {recs : List (Record V)} {end : End} {r : Reply V} → Tells P recs end r → Runs P n recs end r recs end
  -- if no record waits, it ends with none
  runs_out : {n : ℕ} {recs : List (Record V)} → NoneWaits recs → Runs P n recs Going (tell_none P) recs Exhausted
  -- if the choice's set lies within the start, it ends with plan at the cost spent
  finds : {n i : ℕ} {c : Record V} {recs : List (Record V)} {l : List ℕ} → Chosen tally recs i c → Within c.set P.draft.start
      → Trail recs i l → Runs P n recs Going (tell_plan c (length l)) recs (Planned i)
  -- if the grant is used up, it tells pending; the floor is the choice's promise
  pauses : {i : ℕ} {c : Record V} {recs : List (Record V)} → Chosen tally recs i c → Outside P c
      → Runs P zero recs Going (tell_pending c) recs Going
  -- if an opening finds no room, it ends with full; the floor is the choice's promise
  fills : {n i : ℕ} {c : Record V} {recs mid : List (Record V)} → Chosen tally recs i c → Outside P c → Overflows P recs i c mid
      → Runs P (suc n) recs Going (tell_full c) mid (Filled i)
  -- otherwise it opens the choice, counts that and goes on
  goes_on : {n i : ℕ} {c : Record V} {recs mid later : List (Record V)} {r : Reply V} {end : End} → Chosen tally recs i c → Outside P c
      → Opens P recs i c mid → Runs P n mid Going r later end → Runs P (suc n) recs Going (one_more r) later end
