-- How a run ends tells what it says.
use Rattle.std.proofs.Common.{◌≡◌, ℕ, List, refl}
use Rattle.costs.specs.declared.tally.Tally.{Ghosts}
use Rattle.theory.specs.Problem.{Problem}
use Rattle.theory.specs.Runs.{Tells, tells_plan, tells_none, tells_full, Runs, again, runs_out, finds, pauses, fills, goes_on, one_more}
use Rattle.theory.specs.declared.record.Record.{Record}
use Rattle.theory.specs.declared.reply.End.{End}
use Rattle.theory.specs.declared.reply.End.TheVariants.{Going, Planned, Exhausted, Filled}
use Rattle.theory.specs.declared.reply.Kind.TheVariants.{Pending, Plan, NoPlan, Full}
use Rattle.theory.specs.declared.reply.Reply.{Reply}

pub data Ended {V : Type 0} (r : Reply V) : End → Type 0 where
  going : r.kind ≡ Pending → Ended r Going
  planned : {i : ℕ} → r.kind ≡ Plan → Ended r (Planned i)
  exhausted : r.kind ≡ NoPlan → r.length ≡ 0 → Ended r Exhausted
  filled : {i : ℕ} → r.kind ≡ Full → r.length ≡ 0 → Ended r (Filled i)

one_more_ended : {V : Type 0} {r : Reply V} {end : End} → Ended r end → Ended (one_more r) end
one_more_ended (going k) = going k
one_more_ended (planned k) = planned k
one_more_ended (exhausted k n) = exhausted k n
one_more_ended (filled k n) = filled k n

module _ {V : Type 0} {tally : Ghosts V} where
  tells_ended : {P : Problem tally} {recs : List (Record V)} {end : End} {r : Reply V} → Tells P recs end r → Ended r end
  tells_ended (tells_plan a t) = planned refl
  tells_ended tells_none = exhausted refl refl
  tells_ended (tells_full a) = filled refl refl

  pub run_ended : {P : Problem tally} {n : ℕ} {recs later : List (Record V)} {end last : End} {r : Reply V} → Runs P n recs end r later last → Ended r last
  run_ended (again t) = tells_ended t
  run_ended (runs_out n) = exhausted refl refl
  run_ended (finds c w t) = planned refl
  run_ended (pauses c o) = going refl
  run_ended (fills c o f) = filled refl refl
  run_ended (goes_on c o f rest) = one_more_ended (run_ended rest)
