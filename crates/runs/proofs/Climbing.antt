-- A trail of bounded length can be looked for; so where one is known to exist, it can be had.
use Rattle.std.proofs.Common.{◌≡◌, ℕ, zero, suc, ◌≤◌, ◌⊎◌, List, [], ◌∷◌, length, sym, refl, subst, inl, inr, arith}
use mathlib.Core.Logic.{∥∥₁_elim}
use native.Mathlib.Decide.{ℕ_discrete, dec_lt}
use Rattle.theory.specs.Runs.{Trail, root, up}
use Rattle.theory.specs.declared.record.Record.{Record}
use Rattle.theory.proofs.Places.{at_some}
use Rattle.runs.specs.Trails.{Thread, top, up_to, Traced}
use Rattle.runs.proofs.Trailing.{trail_step, trail_less}

module _ {V : Type 0} (recs : List (Record V)) where
  -- a trail of at most n moves
  abbrev Short : ℕ → ℕ → Type 0
  Short n i = (l : List ℕ) × Trail recs i l × (length l ≤ n)

  climb : (n i : ℕ) → Short n i ⊎ (Short n i → ⊥)
  climb zero i = elim (ℕ_discrete i zero) [
    | yes e ↦ inl ([], subst (λ k. Trail recs k []) (sym e) root, omega arith)
    | no nz ↦ inr (λ s. nz (empty s.1 s.2))
  ]
    where
      empty : {i : ℕ} {l : List ℕ} → Trail recs i l → length l ≤ 0 → i ≡ zero
      empty root h = refl
      empty (up nz a t) h = absurd (omega arith)
  climb (suc n) i = elim (ℕ_discrete i zero) [
    | yes e ↦ inl ([], subst (λ k. Trail recs k []) (sym e) root, omega arith)
    | no nz ↦ elim (dec_lt i (length recs)) [
      | no h ↦ inr (λ s. let less = trail_less s.1 nz in omega (arith, h))
      | yes h ↦ (let r = at_some recs i h in elim (climb n r.0.parent) [
        | inl s ↦ inl (r.0.via ∷ s.0, up nz r.1 s.1, omega (arith, s.2))
        | inr none ↦ inr (λ s. let next = trail_step s.1 nz r.1 in none (next.0, next.1, omega (arith, next.2, s.2)))
      ])
    ]
  ]

  pub found : {i : ℕ} → ∥ Traced recs i ∥₁ → Traced recs i
  found {i} known = elim (climb (length recs) i) [
    | inl s ↦ record { moves = s.0; trail = s.1; short = s.2 }
    | inr none ↦ absurd (∥∥₁_elim known (λ x y. absurd x) (λ t. none (t.moves, t.trail, t.short)))
  ]

pub thread_trail : {V : Type 0} {recs : List (Record V)} {i : ℕ} {l : List ℕ} → Thread recs i l → Trail recs i l
thread_trail top = root
thread_trail (up_to nz a b s t) = up nz a (thread_trail t)
