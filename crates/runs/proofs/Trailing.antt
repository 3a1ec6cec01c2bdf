-- A trail, one record at a time.
use Rattle.std.proofs.Common.{◌≡◌, ℕ, zero, suc, ◌+◌, ◌<◌, ◌≤◌, ◌⊎◌, List, [], ◌∷◌, ◌++◌, length, take, drop, set, Some, None, Option, sym, refl, ap, ◌∙◌, subst, inl, inr, arith}
use Rattle.std.proofs.lemmas.List.{length-set, drop-set-lt, drop-drop, take_more_set, append_assoc, append-nil, length-take-le, length-append, nil_from_length, take-append-drop}
use Rattle.std.specs.Iterator.{Yields}
use Rattle.std.specs.Iterator.Adapters.{take_steps}
use Rattle.std.specs.declared.iter.Take.{Take}
use native.Mathlib.Decide.{dec_lt}
use Rattle.tasks.specs.Places.{At}
use Rattle.tasks.proofs.Places.{at_same, at_less}
use Rattle.theory.specs.Runs.{Trail, root, up}
use Rattle.theory.specs.declared.record.Record.{Record}
use Rattle.runs.specs.Trails.{Steps}
use Rattle.runs.specs.declared.trails.Trail.{Trail as Way}

module _ {V : Type 0} {recs : List (Record V)} where
  pub trail_step : {at : ℕ} {rest : List ℕ} {r : Record V} → Trail recs at rest → (at ≡ zero → ⊥) → At recs at r
      → (more : List ℕ) × Trail recs r.parent more × (suc (length more) ≡ length rest) × (rest ≡ r.via ∷ more)
  trail_step root nz a = absurd (nz refl)
  trail_step {r = r} (up {r = q} {l = l} nz' b t) nz a =
      let same = at_same b a in (l, subst (λ x. Trail recs x.parent l) same t, refl, ap (λ x. x.via ∷ l) same)

  pub trail_zero : {at : ℕ} {rest : List ℕ} → Trail recs at rest → at ≡ zero → rest ≡ []
  trail_zero root e = refl
  trail_zero (up nz a t) e = absurd (nz e)

  pub trail_less : {at : ℕ} {rest : List ℕ} → Trail recs at rest → (at ≡ zero → ⊥) → at < length recs
  trail_less root nz = absurd (nz refl)
  trail_less (up nz' a t) nz = at_less a

-- what the next step says of the whole way
module _ {V : Type 0} {recs : List (Record V)} where
  pub way_done : {at : ℕ} {rest : List ℕ} → Trail recs at rest → (at ≡ zero) ⊎ (length recs ≤ at) → rest ≡ []
  way_done root s = refl
  way_done (up nz a t) (inl e) = absurd (nz e)
  way_done (up nz a t) (inr past) = absurd (let less = at_less a in omega arith)

  pub way_on : {at at' via : ℕ} {rest : List ℕ} → Trail recs at rest → Steps recs at (Some via) at'
      → (more : List ℕ) × Trail recs at' more × (suc (length more) ≡ length rest) × (rest ≡ via ∷ more)
  way_on t s =
      let next = trail_step t s.2 s.1 in
      (next.0, subst (λ i. Trail recs i next.0) (sym s.4) next.1, next.2, next.3 ∙ ap (λ k. k ∷ next.0) (sym s.3))

-- a way of so many moves at most, read to its end
abbrev pub Stepping : {V : Type 0} → Way V → Option ℕ → Way V → Type 0
Stepping before via after = (after.rows.now ≡ before.rows.now) × Steps before.rows.now before.at via after.at

pub all_steps : {V : Type 0} (xs : List ℕ) (s t u : Take (Way V)) → Yields (take_steps Stepping) s xs t → take_steps Stepping t None u
    → (l : List ℕ) → Trail s.iter.rows.now s.iter.at l → length l ≤ s.n → xs ≡ l
all_steps [] s t u here ends l way short = elim (dec_lt 0 s.n) [
  | yes some ↦ sym (way_done way (subst (λ x. 0 < x.n → Stepping x.iter None u.iter) (sym here) ends some).1)
  | no none ↦ sym (nil_from_length l (omega arith))
]
all_steps (via ∷ xs) s t u (mid, step, on) ends l way short =
    let next = way_on way step.0.1 in
    let rest = subst (λ r. Trail r mid.iter.at next.0) (sym step.0.0) next.1 in
    ap {B = List ℕ} (λ r. via ∷ r) (all_steps xs mid t u on ends next.0 rest (omega (arith, step.1, next.2))) ∙ sym next.3

-- the front of the list holds the trail so far, and its later places stay
pub record Copied {V : Type 0} (recs : List (Record V)) (from at : ℕ) (before list : List ℕ) (steps : ℕ) : Type 0 where
  pub within : steps ≤ length list
  pub stay : drop steps list ≡ drop steps before
  pub front : (whole : List ℕ) → Trail recs from whole → (rest : List ℕ) × Trail recs at rest × (take steps list ++ rest ≡ whole)

module _ {V : Type 0} {recs : List (Record V)} (from : ℕ) (before : List ℕ) where
  pub copied_none : Copied recs from from before before 0
  copied_none = record { within = omega arith; stay = refl; front = λ whole t. (whole, t, refl) }

  pub copied_more : {at at' steps via : ℕ} (list : List ℕ) → steps < length list → Steps recs at (Some via) at' → Copied recs from at before list steps
      → Copied recs from at' before (set list steps via) (steps + 1)
  copied_more {at} {at'} {steps} {via} list less step c = record {
    within = (let h = length-set list steps via in omega arith);
    stay = drop-set-lt (steps + 1) list steps via (omega arith) ∙ sym (drop-drop 1 steps list) ∙ ap (λ l. drop 1 l) c.stay
        ∙ drop-drop 1 steps before;
    front = λ whole t.
        let now = c.front whole t in
        let next = way_on now.1 step in (
          next.0,
          next.1,
          ap (λ l. l ++ next.0) (take_more_set list steps via less) ∙ append_assoc (take steps list) (via ∷ []) next.0
              ∙ ap (λ l. take steps list ++ l) (sym next.3) ∙ now.2,
        );
  }

  pub copied_all : {at steps : ℕ} (list : List ℕ) → Copied recs from at before list steps → (whole : List ℕ) → Trail recs from whole
      → ((rest : List ℕ) → Trail recs at rest → steps + length rest ≡ length whole → length rest ≡ 0) → list ≡ whole ++ drop (length whole) before
  copied_all {at} {steps} list c whole t last =
      let now = c.front whole t in
      let first = length-take-le steps list c.within in
      let sum : steps + length now.0 ≡ length whole = let h = length-append (take steps list) now.0 in let e = ap length now.2 in omega arith in
      let none = nil_from_length now.0 (last now.0 now.1 sum) in
      let whole_is : take steps list ≡ whole = sym (append-nil (take steps list)) ∙ ap (λ l. take steps list ++ l) (sym none) ∙ now.2 in
      let long : steps ≡ length whole = sym first ∙ ap length whole_is in
      sym (take-append-drop steps list) ∙ ap (λ l. l ++ drop steps list) whole_is ∙ ap (λ l. whole ++ l) (c.stay ∙ ap (λ n. drop n before) long)
