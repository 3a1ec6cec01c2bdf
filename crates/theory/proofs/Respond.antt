-- The rules answer every run.
use Rattle.std.proofs.Common.{◌≡◌, ℕ, zero, suc, ◌≤◌, ◌⊎◌, List, [], ◌∷◌, ◌++◌, length, set as put, inl, inr, arith}
use native.Mathlib.Decide.{dec_lt}
use Rattle.facts.specs.Sets.{Within}
use Rattle.facts.specs.declared.sets.FactSet.{FactSet}
use Rattle.tasks.specs.Places.{At, here, there}
use Rattle.tasks.specs.declared.moves.Move.{Move}
use Rattle.costs.specs.declared.tally.Tally.{Ghosts}
use Rattle.theory.specs.Problem.{Problem}
use Rattle.theory.specs.Records.{Ahead, Chosen, NoneWaits, shutting}
use Rattle.theory.specs.Openings.{spent_by, child, LeadsTo, Recorded, Unrecorded, Takes, not_regressing, passed_over, bettered, no_better, shut_already, added}
use Rattle.theory.specs.Openings.{TakesFirst, none_yet, and_next, Opens, opens, Overflows, overflows}
use Rattle.theory.specs.Runs.{tell_pending, one_more, tells_plan, tells_none, tells_full, Outside, Runs, again, runs_out, finds, pauses, fills, goes_on}
use Rattle.theory.specs.declared.record.Mark.TheVariants.{Waiting, Shut}
use Rattle.theory.specs.declared.record.Record.{Record}
use Rattle.theory.specs.declared.reply.End.{End}
use Rattle.theory.specs.declared.reply.End.TheVariants.{Going, Planned, Exhausted, Filled}
use Rattle.theory.specs.declared.reply.Reply.{Reply}
use Rattle.theory.proofs.Basics.{not_both, which, hoped_or_not}
use Rattle.theory.proofs.Places.{at_some}
use Rattle.theory.proofs.Order.{Laws, compare}
use Rattle.theory.proofs.Keys.{ahead_trans, ahead_or, shift, ahead_self}
use Rattle.theory.proofs.Members.{within_or_not, same_or_not, regression}
use Rattle.theory.proofs.Paths.{Fitting}
use Rattle.theory.proofs.Table.{Table, Settled, rooted_at, rooted_trail}
use Rattle.theory.proofs.Opening.{take_first, opened}
use Rattle.theory.proofs.Standing.{Standing, at_work, found_plan, gave_up, overfull}

-- a run with the grant n
pub record Responds {V : Type 0} {tally : Ghosts V} (P : Problem tally) (n : ℕ) (recs : List (Record V)) (end : End) : Type 0 where
  pub reply : Reply V
  pub later : List (Record V)
  pub last : End
  pub runs : Runs P n recs end reply later last

-- a set of the records, or not
unfoldable pub search_set : {V : Type 0} (recs : List (Record V)) (t : FactSet) → ((j : ℕ) × (q : Record V) × Recorded recs t j q) ⊎ Unrecorded recs t
search_set [] t = inr (λ j q r. elim r.at [ ])
search_set {V} (x ∷ recs) t = elim (same_or_not x.set t) [
  | inl e ↦ inl (zero, x, record { at = here; same = e })
  | inr ne ↦ further (search_set recs t) ne
]
  where
    further : ((j : ℕ) × (q : Record V) × Recorded recs t j q) ⊎ Unrecorded recs t → (x.set ≡ t → ⊥)
        → ((j : ℕ) × (q : Record V) × Recorded (x ∷ recs) t j q) ⊎ Unrecorded (x ∷ recs) t
    further (inl f) ne = inl (suc f.0, f.1, record { at = there f.2.at; same = f.2.same })
    further (inr none) ne = inr (λ j q r. away r.at r.same)
      where
        away : {j : ℕ} {q : Record V} → At (x ∷ recs) j q → q.set ≡ t → ⊥
        away here e = ne e
        away (there a) e = none _ _ (record { at = a; same = e })

module _ {V : Type 0} {tally : Ghosts V} (laws : Laws tally) where
  -- who is ahead of the first record and of the others is ahead of all
  pub least_of : {r c : Record V} {recs : List (Record V)} {i : ℕ} → (r.mark ≡ Waiting → Ahead tally c i r zero)
      → ((j : ℕ) (q : Record V) → At recs j q → q.mark ≡ Waiting → Ahead tally c i q (suc j))
      → {j : ℕ} {q : Record V} → At (r ∷ recs) j q → q.mark ≡ Waiting → Ahead tally c i q j
  least_of first rest here w = first w
  least_of first rest (there a) w = rest _ _ a w

  pub none_of : {r : Record V} {recs : List (Record V)} → r.mark ≡ Shut → NoneWaits recs
      → {j : ℕ} {q : Record V} → At (r ∷ recs) j q → q.mark ≡ Waiting → ⊥
  none_of s none here w = not_both s w
  none_of s none (there a) w = none _ _ a w

  -- the choice, if a record waits
  unfoldable pub choice : (recs : List (Record V)) → ((i : ℕ) × (c : Record V) × Chosen tally recs i c) ⊎ NoneWaits recs
  choice [] = inr (λ j q a w. elim a [ ])
  choice (r ∷ recs) = with_first (which r.mark) (choice recs)
    where
      with_first : (r.mark ≡ Shut) ⊎ (r.mark ≡ Waiting)
          → ((i : ℕ) × (c : Record V) × Chosen tally recs i c) ⊎ NoneWaits recs
          → ((i : ℕ) × (c : Record V) × Chosen tally (r ∷ recs) i c) ⊎ NoneWaits (r ∷ recs)
      with_first (inl s) (inr none) = inr (λ j q a w. none_of s none a w)
      with_first (inl s) (inl f) = inl (
        suc f.0,
        f.1,
        record {
          at = there f.2.at;
          waits = f.2.waits;
          least = λ j q a w. least_of (λ w'. absurd (not_both s w')) (λ j q a w. shift (f.2.least j q a w)) a w;
        },
      )
      with_first (inr w) (inr none) = inl (
        zero,
        r,
        record {
          at = here;
          waits = w;
          least = λ j q a w. least_of (λ w'. ahead_self) (λ j q a w. absurd (none j q a w)) a w;
        },
      )
      with_first (inr w) (inl f) = elim (ahead_or laws r f.1 zero (suc f.0) (omega arith)) [
        | inl h ↦ inl (
          zero,
          r,
          record {
            at = here;
            waits = w;
            least = λ j q a w. least_of (λ w'. ahead_self) (λ j q a w. ahead_trans laws h (shift (f.2.least j q a w))) a w;
          },
        )
        | inr h ↦ inl (
          suc f.0,
          f.1,
          record {
            at = there f.2.at;
            waits = f.2.waits;
            least = λ j q a w. least_of (λ w'. h) (λ j q a w. shift (f.2.least j q a w)) a w;
          },
        )
      ]

module _ {V : Type 0} {tally : Ghosts V} {P : Problem tally} (F : Fitting P) where
  abbrev laws : Laws tally
  laws = F.laws

  -- a move is taken, or finds no room
  unfoldable pub take_one : (recs : List (Record V)) (i : ℕ) (c : Record V) (k : ℕ) (m : Move) → ((later : List (Record V)) × Takes P recs i c k m later)
      ⊎ ((t : FactSet) × (e : V) × LeadsTo P c m t e × Unrecorded recs t × (P.room ≤ length recs))
  take_one recs i c k m = elim (regression m c.set) [
    | inr none ↦ inl (recs, not_regressing none)
    | inl g ↦ elim (hoped_or_not (P.bound.estimate g.0)) [
      | inl never ↦ inl (recs, passed_over g.1 never)
      | inr e ↦ led g.0 e.0 (record { regresses = g.1; hoped = e.1 })
    ]
  ]
    where
      led : (t : FactSet) (e : V) → LeadsTo P c m t e → ((later : List (Record V)) × Takes P recs i c k m later)
          ⊎ ((t : FactSet) × (e : V) × LeadsTo P c m t e × Unrecorded recs t × (P.room ≤ length recs))
      led t e lead = elim (search_set recs t) [
        | inl f ↦ elim (which f.1.mark) [
          | inl s ↦ inl (recs, shut_already lead f.2 s)
          | inr w ↦ elim (compare laws f.1.spent (spent_by P c m)) [
            | inl h ↦ inl (recs, no_better lead f.2 w h.holds)
            | inr h ↦ inl (put recs f.0 (child P i c k m t e), bettered lead f.2 w h)
          ]
        ]
        | inr none ↦ elim (dec_lt (length recs) P.room) [
          | yes h ↦ inl (recs ++ (child P i c k m t e ∷ []), added lead none h)
          | no h ↦ inr (t, e, lead, none, omega (arith, h))
        ]
      ]

  -- the first moves are taken, or one finds no room
  unfoldable pub take_some : (recs : List (Record V)) (i : ℕ) (c : Record V) (n : ℕ) → n ≤ length P.draft.moves.now
      → ((later : List (Record V)) × TakesFirst P recs i c n later) ⊎ ((mid : List (Record V)) × Overflows P recs i c mid)
  take_some recs i c zero h = inl (recs, none_yet)
  take_some recs i c (suc n) h = next (take_some recs i c n (omega arith))
    where
      next : ((later : List (Record V)) × TakesFirst P recs i c n later) ⊎ ((mid : List (Record V)) × Overflows P recs i c mid)
          → ((later : List (Record V)) × TakesFirst P recs i c (suc n) later) ⊎ ((mid : List (Record V)) × Overflows P recs i c mid)
      next (inr o) = inr o
      next (inl b) = (let mv = at_some P.draft.moves.now n h in elim (take_one b.0 i c n mv.0) [
        | inl step ↦ inl (step.0, and_next b.1 mv.1 step.1)
        | inr f ↦ inr (b.0, overflows b.1 mv.1 f.2 f.3 f.4)
      ])

  module _ {recs : List (Record V)} (table : Table P recs) (settled : Settled P recs) where
    unfoldable pub out_of_records : (n : ℕ) → NoneWaits recs → Responds P n recs Going
    out_of_records n none = record { reply = _; later = recs; last = Exhausted; runs = runs_out none }

    unfoldable pub found : (n : ℕ) {i : ℕ} {c : Record V} → Chosen tally recs i c → Within c.set P.draft.start → Responds P n recs Going
    found n {i} ch w = record {
      reply = _;
      later = recs;
      last = Planned i;
      runs = finds ch w (rooted_trail (table.rooted ch.at).1);
    }

    -- an opening, or a move that finds no room
    unfoldable pub opening : {i : ℕ} {c : Record V} → Chosen tally recs i c → Outside P c
        → ((mid : List (Record V)) × Opens P recs i c mid) ⊎ ((mid : List (Record V)) × Overflows P recs i c mid)
    opening {i} {c} ch out = elim (take_some recs i c (length P.draft.moves.now) (omega arith)) [
      | inl all ↦ inl (put all.0 i (shutting c), opens all.1 (take_first F table settled ch out all.1).0)
      | inr o ↦ inr o
    ]

  unfoldable pub works : (n : ℕ) {recs : List (Record V)} → Table P recs → Settled P recs → Responds P n recs Going
  works zero {recs} table settled = elim (choice laws recs) [
    | inr none ↦ out_of_records table settled zero none
    | inl f ↦ elim (within_or_not f.1.set P.draft.start) [
      | inl w ↦ found table settled zero f.2 w
      | inr out ↦ record { reply = tell_pending f.1; later = recs; last = Going; runs = pauses f.2 out }
    ]
  ]
  works (suc n) {recs} table settled = elim (choice laws recs) [
    | inr none ↦ out_of_records table settled (suc n) none
    | inl f ↦ elim (within_or_not f.1.set P.draft.start) [
      | inl w ↦ found table settled (suc n) f.2 w
      | inr out ↦ elim (opening table settled f.2 out) [
        | inr o ↦ record { reply = _; later = o.0; last = Filled f.0; runs = fills f.2 out o.1 }
        | inl o ↦ (let next = opened F table settled f.2 out o.1 in
            let rest = works n next.0 next.1 in
            record { reply = one_more rest.reply; later = rest.later; last = rest.last; runs = goes_on f.2 out o.1 rest.runs })
      ]
    ]
  ]

  unfoldable pub respond : (n : ℕ) {recs : List (Record V)} {end : End} → Standing P recs end → Responds P n recs end
  respond n (at_work table settled) = works n table settled
  respond n {recs} (found_plan {i = i} rooted w floor) =
      record { reply = _; later = recs; last = Planned i; runs = again (tells_plan (rooted_at rooted) (rooted_trail rooted)) }
  respond n {recs} (gave_up never) = record { reply = _; later = recs; last = Exhausted; runs = again tells_none }
  respond n {recs} (overfull {i = i} a floor crowd) = record { reply = _; later = recs; last = Filled i; runs = again (tells_full a) }
