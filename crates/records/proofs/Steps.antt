-- An opening: the moves taken one after another, and the choice shut.
use Rattle.std.proofs.Common.{◌≡◌, ℕ, ◌+◌, ◌<◌, ◌≤◌, List, length, get_or, Some, sym, ap, subst, add-one, arith}
use Rattle.facts.specs.declared.sets.FactSet.{FactSet}
use Rattle.tasks.specs.Moves.{Regresses}
use Rattle.tasks.specs.Places.{At}
use Rattle.tasks.specs.declared.moves.Move.{Move}
use Rattle.tasks.proofs.Checks.{no_move}
use Rattle.tasks.proofs.Places.{at_less, at_get}
use Rattle.costs.specs.declared.tally.Tally.{Ghosts}
use Rattle.theory.specs.Openings.{child, LeadsTo, Unrecorded, Takes, TakesFirst, none_yet, and_next, Opens, opens, Overflows, overflows}
use Rattle.theory.specs.Problem.{Problem}
use Rattle.theory.specs.declared.record.Record.{Record}
use Rattle.records.specs.Openings.{ShutAt}

pub move_here : {items moves : List Move} {number : ℕ} → items ≡ moves → number < length items → At moves number (get_or items number no_move)
move_here {items = items} {number = number} same less = subst (λ l. At l number (get_or items number no_move)) same (at_get items number no_move less)

module _ {V : Type 0} {tally : Ghosts V} (P : Problem tally) (recs : List (Record V)) (i : ℕ) (c : Record V) where
  first_less : {number : ℕ} {later : List (Record V)} → TakesFirst P recs i c number later → number ≤ length P.draft.moves.now
  first_less none_yet = omega arith
  first_less (and_next t at s) = at_less at

  module _ {number : ℕ} {mid : List (Record V)} (so : TakesFirst P recs i c number mid) where
    pub one_taken : {m : Move} {later : List (Record V)} → At P.draft.moves.now number m → Takes P mid i c number m later → TakesFirst P recs i c (number + 1) later
    one_taken {later = later} at takes = subst (λ k. TakesFirst P recs i c k later) (sym (add-one number)) (and_next so at takes)

    pub all_taken : length P.draft.moves.now ≤ number → TakesFirst P recs i c (length P.draft.moves.now) mid
    all_taken all =
        let last : number ≡ length P.draft.moves.now = let few = first_less so in omega arith in
        subst (λ k. TakesFirst P recs i c k mid) last so

    -- the move leads to a new record, which comes in or finds no room
    module _ {m : Move} {t : FactSet} {e : V} (at : At P.draft.moves.now number m) (regresses : Regresses m c.set t) (hoped : P.bound.estimate t ≡ Some e) where
      lead : LeadsTo P c m t e
      lead = record { regresses = regresses; hoped = hoped }

      pub one_led : {later : List (Record V)} {new : Record V} → ((Q : Problem tally) → new ≡ child Q i c number m t e)
          → (LeadsTo P c m t e → new ≡ child P i c number m t e → Takes P mid i c number m later) → TakesFirst P recs i c (number + 1) later
      one_led is done = one_taken at (done lead (is P))

      pub no_room : {later : List (Record V)} {new : Record V} → ((Q : Problem tally) → new ≡ child Q i c number m t e)
          → (LeadsTo P c m t e → new ≡ child P i c number m t e → Unrecorded mid new.set × (P.room ≤ length mid) × (later ≡ mid)) → Overflows P recs i c later
      no_room is stuck =
          let full = stuck lead (is P) in
          subst (λ x. Overflows P recs i c x) (sym full.2)
          (overflows so at lead (subst (Unrecorded mid) (ap (λ r. r.set) (is P)) full.0) full.1)

  pub all_opened : {mid later : List (Record V)} → TakesFirst P recs i c (length P.draft.moves.now) mid → ShutAt mid i later → Opens P recs i c later
  all_opened taken shut = subst (λ x. Opens P recs i c x) (sym shut.2) (opens taken shut.1)
