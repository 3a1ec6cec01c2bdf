-- The record of a set and the choice, among the records looked at so far, one more at a time.
use Rattle.std.proofs.Common.{◌≡◌, ℕ, ◌+◌, ◌<◌, ◌≤◌, Bool, true, false, cond, ◌⊎◌, List, [], ◌∷◌, ◌++◌, length, take, Some, None, Option, sym, refl, ap, ◌∙◌, subst, subst₂, inl, inr, arith, MatchOption}
use Rattle.std.proofs.lemmas.List.{length-take-le}
use Rattle.std.specs.List.{AllWithin, HoldsAt}
use Rattle.facts.specs.declared.sets.FactSet.{FactSet}
use Rattle.facts.proofs.Tests.{from_true}
use Rattle.tasks.specs.Places.{At}
use Rattle.tasks.proofs.Places.{at_less, at_same, at_get}
use Rattle.costs.specs.declared.tally.Tally.{Ghosts}
use Rattle.theory.specs.Openings.{Unrecorded}
use Rattle.theory.specs.Records.{NoneWaits, Ahead, by_promise, by_spent, by_number}
use Rattle.theory.specs.declared.record.Mark.{Mark}
use Rattle.theory.specs.declared.record.Mark.TheVariants.{Waiting, Shut}
use Rattle.theory.specs.declared.record.Record.{Record}
use Rattle.theory.proofs.Basics.{impossible, not_both}
use Rattle.theory.proofs.Keys.{ahead_trans}
use Rattle.theory.proofs.Order.{Laws}
use Rattle.theory.proofs.Places.{at_some, new, old, add_old, add_new, add_cases}
use Rattle.records.specs.Choice.{IsChosen, is_before, best_of, better_of}
use Rattle.records.specs.Tables.{IsRecorded}
use Rattle.records.specs.declared.numbered.Numbered.{Numbered}
use Rattle.records.proofs.Places.{take_next}

-- the first record of a set, or none, as a search through the records finds it
module _ {V : Type 0} (recs : List (Record V)) (t : FactSet) where
  abbrev pub Of : Record V → Type 0
  Of r = r.set ≡ t

  abbrev pub NotOf : Record V → Type 0
  NotOf r = r.set ≡ t → ⊥

  pub none_recorded : AllWithin NotOf recs 0 (length recs) → Unrecorded recs t
  none_recorded none j q f =
      let less = at_less f.at in
      none j q (omega arith) less (ap (λ r. r.set) (at_same (at_get recs j q less) f.at) ∙ f.same)

  pub one_recorded : {i : ℕ} → i < length recs → HoldsAt Of recs i → IsRecorded recs t i
  one_recorded {i} less holds =
      let r = at_some recs i less in
      (r.0, record { at = r.1; same = ap (λ x. x.set) (at_same r.1 (at_get recs i r.0 less)) ∙ holds r.0 })

unfoldable pub told : (b : Bool) → (b ≡ true) ⊎ (b ≡ false)
told true = inl refl
told false = inr refl

module _ {V : Type 0} {tally : Ghosts V} (laws : Laws tally) where
  level : (u v : V) → tally.at_most u v ≡ true → tally.at_most v u ≡ true → u ≡ v
  level u v f g = laws.lawful.antisymmetric u v (from_true f) (from_true g)

  before_ahead : (r q : Record V) (i j : ℕ) → is_before tally r q ≡ true → Ahead tally r i q j
  before_ahead r q i j h = elim (told (tally.at_most q.promise r.promise)) [
    | inr f ↦ by_promise f
    | inl f ↦ elim (told (tally.at_most r.promise q.promise)) [
      | inr g ↦ impossible (cc)
      | inl g ↦ elim (told (tally.at_most q.spent r.spent)) [
        | inr k ↦ by_spent (level r.promise q.promise g f) k
        | inl k ↦ impossible (cc)
      ]
    ]
  ]

  not_before_ahead : (r q : Record V) (i j : ℕ) → j ≤ i → is_before tally r q ≡ false → Ahead tally q j r i
  not_before_ahead r q i j le h = elim (told (tally.at_most r.promise q.promise)) [
    | inr f ↦ by_promise f
    | inl f ↦ elim (told (tally.at_most q.promise r.promise)) [
      | inr g ↦ impossible (cc)
      | inl g ↦ elim (told (tally.at_most r.spent q.spent)) [
        | inr k ↦ by_spent (level q.promise r.promise g f) k
        | inl k ↦ elim (told (tally.at_most q.spent r.spent)) [
          | inr l ↦ impossible (cc)
          | inl l ↦ by_number (level q.promise r.promise g f) (level q.spent r.spent l k) le
        ]
      ]
    ]
  ]

-- the choice among some records, if one waits
abbrev pub Picked : {V : Type 0} → Ghosts V → List (Record V) → Option (Numbered V) → Type 0
Picked tally recs o = MatchOption o (NoneWaits recs) (IsChosen tally recs)

module _ {V : Type 0} {tally : Ghosts V} (laws : Laws tally) (recs : List (Record V)) (x : Numbered V) (last : x.number ≡ length recs) where
  abbrev r : Record V
  r = x.row

  abbrev more : List (Record V)
  more = recs ++ (r ∷ [])

  itself_ahead : {j : ℕ} {q : Record V} → j ≡ length recs → q ≡ r → Ahead tally r x.number q j
  itself_ahead e f = by_number (ap (λ y. y.promise) (sym f)) (ap (λ y. y.spent) (sym f)) (omega (arith, last))

  new_at : At more x.number r
  new_at = subst (λ n. At more n r) (sym last) (add_new recs r)

  pass_none : r.mark ≡ Shut → NoneWaits recs → NoneWaits more
  pass_none s none j q a w = elim (add_cases recs r a) [ new e f ↦ not_both s (ap (λ y. y.mark) (sym f) ∙ w) | old ne b ↦ none j q b w ]

  pass_one : {b : Numbered V} → r.mark ≡ Shut → IsChosen tally recs b → IsChosen tally more b
  pass_one s ch = record {
    at = add_old (r ∷ []) ch.at;
    waits = ch.waits;
    least = λ j q a w. elim (add_cases recs r a) [
      | new e f ↦ absurd (not_both s (ap (λ y. y.mark) (sym f) ∙ w))
      | old ne b ↦ ch.least j q b w
    ];
  }

  first_waits : r.mark ≡ Waiting → NoneWaits recs → IsChosen tally more x
  first_waits s none = record {
    at = new_at;
    waits = s;
    least = λ j q a w. elim (add_cases recs r a) [ new e f ↦ itself_ahead e f | old ne b ↦ absurd (none _ _ b w) ];
  }

  module _ {b : Numbered V} (ch : IsChosen tally recs b) where
    new_goes : r.mark ≡ Waiting → is_before tally r b.row ≡ true → IsChosen tally more x
    new_goes s h = record {
      at = new_at;
      waits = s;
      least = λ j q a w. elim (add_cases recs r a) [
        | new e f ↦ itself_ahead e f
        | old ne a' ↦ ahead_trans laws (before_ahead laws r b.row x.number b.number h) (ch.least _ _ a' w)
      ];
    }

    best_stays : is_before tally r b.row ≡ false → IsChosen tally more b
    best_stays h = record {
      at = add_old (r ∷ []) ch.at;
      waits = ch.waits;
      least = λ j q a w. elim (add_cases recs r a) [
        | new e f ↦ subst₂ (λ y n. Ahead tally b.row b.number y n) (sym f) (sym e)
            (not_before_ahead laws r b.row (length recs) b.number (let k = at_less ch.at in omega arith) h)
        | old ne a' ↦ ch.least _ _ a' w
      ];
    }

  by_mark : (m : Mark) → r.mark ≡ m → (o : Option (Numbered V)) → Picked tally recs o → Picked tally more (best_of tally m o x)
  by_mark Shut s None p = pass_none s p
  by_mark Shut s (Some b) p = pass_one s p
  by_mark Waiting s None p = first_waits s p
  by_mark Waiting s (Some b) p = elim (told (is_before tally r b.row)) [
    | inl f ↦ subst (λ d. Picked tally more (cond d (Some x) (Some b))) (sym f) (new_goes p s f)
    | inr f ↦ subst (λ d. Picked tally more (cond d (Some x) (Some b))) (sym f) (best_stays p f)
  ]

  one_more : (o : Option (Numbered V)) → Picked tally recs o → Picked tally more (better_of tally o x)
  one_more o p = by_mark r.mark refl o p

-- the choice among the first places of a table, one place more
pub picked_next : {V : Type 0} {tally : Ghosts V} → Laws tally → (table : List (Record V)) {i : ℕ} {row : Record V} → At table i row
    → (best : Option (Numbered V)) {after : Option (Numbered V)} → after ≡ better_of tally best (record { number = i; row = row })
    → Picked tally (take i table) best → Picked tally (take (i + 1) table) after
picked_next {tally = tally} laws table {i} {row} at best is p =
    subst₂ (Picked tally) (sym (take_next at)) (sym is)
    (one_more laws (take i table) (record { number = i; row = row }) (sym (length-take-le i table (let h = at_less at in omega arith))) best p)
