-- What carrying out and regressing do to each fact. All that follows uses these laws alone.
use Rattle.std.proofs.Common.{◌≡◌, ℕ, not, ◌&&◌, ◌||◌, T, ◌⊎◌, sym, ap, ◌∙◌, subst, inl, inr, ⊎_elim}
use Rattle.facts.specs.Sets.{has, Within, Overlap}
use Rattle.facts.specs.declared.sets.FactSet.{FactSet}
use Rattle.facts.proofs.Members.{same_facts, union, has_union, without, has_without}
use Rattle.facts.proofs.Tests.{and_left, and_right, and_both, or_left, or_right, or_cases, not_true, not_of, true_or_not}
use Rattle.tasks.specs.Moves.{Carries, Regresses}
use Rattle.tasks.specs.declared.moves.Move.{Move}

-- the facts of s that b lacks, together with those of a
pub record Swaps (s b a t : FactSet) : Type 0 where
  pub result : (f : ℕ) → has t f ≡ ((has s f && not (has b f)) || has a f)

module _ {s b a t : FactSet} (w : Swaps s b a t) where
  pub swap_added : (f : ℕ) → T (has a f) → T (has t f)
  swap_added f h = subst T (sym (w.result f)) (or_right (has s f && not (has b f)) (has a f) h)

  pub swap_kept : (f : ℕ) → T (has s f) → (T (has b f) → ⊥) → T (has t f)
  swap_kept f h ne =
      subst T (sym (w.result f)) (or_left (has s f && not (has b f)) (has a f) (and_both (has s f) (not (has b f)) h (not_of (has b f) ne)))

  unfoldable pub swap_cases : (f : ℕ) → T (has t f) → T (has a f) ⊎ (T (has s f) × (T (has b f) → ⊥))
  swap_cases f h = ⊎_elim
      (λ k. inr (and_left (has s f) (not (has b f)) k, not_true (has b f) (and_right (has s f) (not (has b f)) k)))
      inl (or_cases (has s f && not (has b f)) (has a f) (subst T (w.result f) h))

-- there is such a set, and only one
pub swapped : (s b a : FactSet) → (t : FactSet) × Swaps s b a t
swapped s b a = (union (without s b) a, record { result = λ f. has_union (without s b) a f ∙ ap (λ x. x || has a f) (has_without s b f) })

pub swaps_same : {s b a t u : FactSet} → Swaps s b a t → Swaps s b a u → t ≡ u
swaps_same {t = t} {u = u} v w = same_facts t u (λ f. v.result f ∙ sym (w.result f))

pub carries_swaps : {m : Move} {s t : FactSet} → Carries m s t → Swaps s m.breaks m.makes t
carries_swaps c = record { result = c.result }

pub regresses_swaps : {m : Move} {s t : FactSet} → Regresses m s t → Swaps s m.makes m.needs t
regresses_swaps r = record { result = r.result }

pub carries_same : {m : Move} {s t u : FactSet} → Carries m s t → Carries m s u → t ≡ u
carries_same c d = swaps_same (carries_swaps c) (carries_swaps d)

pub regresses_same : {m : Move} {s t u : FactSet} → Regresses m s t → Regresses m s u → t ≡ u
regresses_same q r = swaps_same (regresses_swaps q) (regresses_swaps r)

-- a move that regresses s to t can be carried out wherever t stands, and then s stands
pub carried_on : {m : Move} {s t x : FactSet} → Regresses m s t → Within t x → (y : FactSet) × Carries m x y × Within s y
carried_on {m} {s} {t} {x} r w =
    let after = swapped x m.breaks m.makes in
    let swaps = after.1 in (
      after.0,
      record { ready = λ f h. w f (swap_added (regresses_swaps r) f h); result = swaps.result },
      λ f h. ⊎_elim (swap_added swaps f)
          (λ ne. swap_kept swaps f (w f (swap_kept (regresses_swaps r) f h ne)) (λ b. r.breaks (f, b, h)))
          (true_or_not (has m.makes f)),
    )

-- s stood before the move, or the move regresses it to a set that stood
pub data Before (m : Move) (s x : FactSet) : Type 0 where
  stood : Within s x → Before m s x
  regressed : {t : FactSet} → Regresses m s t → Within t x → Before m s x

-- if s stands after a move that makes nothing that it breaks, it stood before or can be regressed
pub before : {m : Move} {s x y : FactSet} → (Overlap m.makes m.breaks → ⊥) → Carries m x y → Within s y
    → Overlap m.makes s ⊎ (Overlap m.makes s → ⊥) → Before m s x
before {m} {s} {x} {y} apart c w (inl made) =
    let result = swapped s m.makes m.needs in
    regressed
    (record {
      makes = made;
      breaks = λ o. ⊎_elim (λ k. apart (o.0, k, o.1)) (λ k. k.1 o.1) (swap_cases (carries_swaps c) o.0 (w o.0 o.2));
      result = result.1.result;
    })
    (λ f h. ⊎_elim (c.ready f)
    (λ k. ⊎_elim (λ mk. absurd (k.1 mk)) (λ old. old.0) (swap_cases (carries_swaps c) f (w f k.0))) (swap_cases result.1 f h))
before {m} {s} {x} {y} apart c w (inr none) =
    stood (λ f h. ⊎_elim (λ k. absurd (none (f, k, h))) (λ k. k.0) (swap_cases (carries_swaps c) f (w f h)))
