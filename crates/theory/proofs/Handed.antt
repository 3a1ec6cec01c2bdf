-- A run reads nothing of a bound but its estimates: another bound with the same estimates makes no difference.
use Rattle.std.proofs.Common.{◌≡◌, ℕ, List, sym, ◌∙◌}
use Rattle.facts.specs.declared.sets.FactSet.{FactSet}
use Rattle.tasks.specs.declared.moves.Move.{Move}
use Rattle.costs.specs.declared.tally.Tally.{Ghosts}
use Rattle.theory.specs.Problem.{Problem, Lent}
use Rattle.theory.specs.Openings.{LeadsTo, Takes, not_regressing, passed_over, bettered, no_better, shut_already, added}
use Rattle.theory.specs.Openings.{TakesFirst, none_yet, and_next, Opens, opens, Overflows, overflows}
use Rattle.theory.specs.Runs.{Tells, tells_plan, tells_none, tells_full, Runs, again, runs_out, finds, pauses, fills, goes_on}
use Rattle.theory.specs.declared.record.Record.{Record}
use Rattle.theory.specs.declared.reply.End.{End}
use Rattle.theory.specs.declared.reply.Reply.{Reply}

-- the problem with another bound
abbrev pub by_bound : {V : Type 0} {tally : Ghosts V} → Problem tally → Lent V → Problem tally
by_bound P b = record { draft = P.draft; bound = b; room = P.room }

-- from one bound to another with the same estimates
module _ {V : Type 0} {tally : Ghosts V} (P : Problem tally) (b d : Lent V) (same : (s : FactSet) → b.estimate s ≡ d.estimate s) where
  lead_by : {c : Record V} {m : Move} {t : FactSet} {e : V} → LeadsTo (by_bound P b) c m t e → LeadsTo (by_bound P d) c m t e
  lead_by {t = t} lead = record { regresses = lead.regresses; hoped = sym (same t) ∙ lead.hoped }

  take_by : {recs : List (Record V)} {i k : ℕ} {c : Record V} {m : Move} {later : List (Record V)} → Takes (by_bound P b) recs i c k m later → Takes (by_bound P d) recs i c k m later
  take_by (not_regressing n) = not_regressing n
  take_by (passed_over {t = t} r e) = passed_over r (sym (same t) ∙ e)
  take_by (bettered lead f w l) = bettered (lead_by lead) f w l
  take_by (no_better lead f w l) = no_better (lead_by lead) f w l
  take_by (shut_already lead f s) = shut_already (lead_by lead) f s
  take_by (added lead u h) = added (lead_by lead) u h

  first_by : {recs : List (Record V)} {i : ℕ} {c : Record V} {k : ℕ} {later : List (Record V)} → TakesFirst (by_bound P b) recs i c k later → TakesFirst (by_bound P d) recs i c k later
  first_by none_yet = none_yet
  first_by (and_next before at step) = and_next (first_by before) at (take_by step)

  open_by : {recs : List (Record V)} {i : ℕ} {c : Record V} {later : List (Record V)} → Opens (by_bound P b) recs i c later → Opens (by_bound P d) recs i c later
  open_by (opens all at) = opens (first_by all) at

  overflow_by : {recs : List (Record V)} {i : ℕ} {c : Record V} {later : List (Record V)} → Overflows (by_bound P b) recs i c later → Overflows (by_bound P d) recs i c later
  overflow_by (overflows before at lead none room) = overflows (first_by before) at (lead_by lead) none room

  tell_by : {recs : List (Record V)} {end : End} {r : Reply V} → Tells (by_bound P b) recs end r → Tells (by_bound P d) recs end r
  tell_by (tells_plan a t) = tells_plan a t
  tell_by tells_none = tells_none
  tell_by (tells_full a) = tells_full a

  pub run_by : {n : ℕ} {recs later : List (Record V)} {end last : End} {r : Reply V} → Runs (by_bound P b) n recs end r later last
      → Runs (by_bound P d) n recs end r later last
  run_by (again t) = again (tell_by t)
  run_by (runs_out none) = runs_out none
  run_by (finds ch w t) = finds ch w t
  run_by (pauses ch w) = pauses ch w
  run_by (fills ch w o) = fills ch w (overflow_by o)
  run_by (goes_on ch w o rest) = goes_on ch w (open_by o) (run_by rest)
