-- A new record comes in: what the code does to the records is what the rules say of the move.
use Rattle.std.proofs.Common.{◌≡◌, ℕ, cond, List, [], ◌∷◌, ◌++◌, set as put, Ok, Err, Result, sym, refl, ap, ◌∙◌, subst, inl, inr, arith}
use Rattle.facts.specs.declared.sets.FactSet.{FactSet}
use Rattle.facts.proofs.Tests.{from_true}
use Rattle.tasks.specs.Places.{At}
use Rattle.tasks.specs.declared.moves.Move.{Move}
use Rattle.tasks.proofs.Places.{at_same}
use Rattle.costs.specs.declared.tally.Tally.{Ghosts}
use Rattle.theory.specs.Openings.{child, LeadsTo, Recorded, Unrecorded, Takes, bettered, no_better, shut_already, added}
use Rattle.theory.specs.Problem.{Problem}
use Rattle.theory.specs.declared.record.Mark.{Mark}
use Rattle.theory.specs.declared.record.Mark.TheVariants.{Waiting, Shut}
use Rattle.theory.specs.declared.record.Record.{Record}
use Rattle.records.specs.Tables.{IsRecorded, Added}
use Rattle.records.specs.Entries.{left_of, LoweredAt, Taken}
use Rattle.records.specs.declared.cells.Full.{Full}
use Rattle.records.proofs.Picks.{told}
use Rattle.records.proofs.Places.{put_same}

module _ {V : Type 0} {tally : Ghosts V} (P : Problem tally) (recs : List (Record V)) (i : ℕ) (c : Record V) (k : ℕ) (m : Move) {t : FactSet} {e : V}
    (lead : LeadsTo P c m t e) (new : Record V) (is : new ≡ child P i c k m t e) where
  pub taken_add : {room : ℕ} (later : List (Record V)) → P.room ≡ room → Unrecorded recs new.set → (r : Result (Unit {0}) Full) → Added room recs later new r
      → Taken P recs later i c k m new r
  taken_add later lent none (Ok u) h =
      subst (λ x. Takes P recs i c k m x) (ap (λ r. recs ++ (r ∷ [])) (sym is) ∙ sym h.1)
      (added lead (subst (λ s. Unrecorded recs s) (ap (λ r. r.set) is) none) (omega (arith, lent, h.0)))
  taken_add later lent none (Err f) h = (none, omega (arith, lent, h.0), h.1)

  module _ {j : ℕ} (f : IsRecorded recs new.set j) where
    there_is : {old : Record V} → At recs j old → Recorded recs t j old
    there_is at = record { at = at; same = ap (λ r. r.set) (at_same at f.1.at) ∙ f.1.same ∙ ap (λ r. r.set) is }

    keep_one : {old : Record V} → At recs j old → Takes P recs i c k m recs → Takes P recs i c k m (put recs j old)
    keep_one at takes = subst (λ x. Takes P recs i c k m x) (sym (put_same at)) takes

    lower_one : {old : Record V} → At recs j old → (s : Mark) → old.mark ≡ s → Takes P recs i c k m (put recs j (left_of tally s old new))
    lower_one at Shut s = keep_one at (shut_already lead (there_is at) s)
    lower_one {old} at Waiting s = elim (told (tally.at_most old.spent new.spent)) [
      | inl h ↦ subst (λ b. Takes P recs i c k m (put recs j (cond b old new))) (sym h)
          (keep_one at (no_better lead (there_is at) s (from_true (ap (λ r. tally.at_most old.spent r.spent) (sym is) ∙ h))))
      | inr h ↦ subst (λ b. Takes P recs i c k m (put recs j (cond b old new))) (sym h)
          (subst (λ r. Takes P recs i c k m (put recs j r)) (sym is)
          (bettered lead (there_is at) s (ap (λ r. tally.at_most old.spent r.spent) (sym is) ∙ h)))
    ]

    pub taken_lower : {later : List (Record V)} → LoweredAt tally recs j new later → Takes P recs i c k m later
    taken_lower low = subst (λ x. Takes P recs i c k m x) (sym low.2) (lower_one low.1 low.0.mark refl)
