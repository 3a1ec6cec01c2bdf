-- What can be told of sets and moves: whether one set lies within another, overlaps it or is it, and whether a move regresses a set.
-- Within is told from the words, so that worked examples can be computed; the rest is told from within.
use Rattle.std.proofs.Common.{◌≡◌, Bool, true, false, not, ◌||◌, T, eqb, ◌⊎◌, Decides, sym, refl, ap, ◌∙◌, subst, inl, inr}
use lib.Bits.{bit_and}
use Rattle.facts.specs.Sets.{has, Within, Overlap}
use Rattle.facts.specs.declared.sets.FactSet.{FactSet}
use Rattle.facts.proofs.Members.{same_facts, union, has_union, without, has_without, overlap_or_not}
use Rattle.facts.proofs.Tests.{and_right, and_both, not_true, not_of, not_true_false, same_tests}
use Rattle.facts.proofs.Words.{covers}
use Rattle.tasks.specs.Moves.{Regresses}
use Rattle.tasks.specs.declared.moves.Move.{Move}

unfoldable pub decided : {A : Type 0} (b : Bool) → Decides b A → A ⊎ (A → ⊥)
decided true d = inl (d.0 refl)
decided false d = inr (λ a. not_true_false (d.1 a))

unfoldable pub within_or_not : (s t : FactSet) → Within s t ⊎ (Within s t → ⊥)
within_or_not s t = decided (eqb (bit_and s.word t.word) s.word) (covers s.word t.word)

-- two sets overlap if the first does not lie within itself without the second
pub some_overlap : (s t : FactSet) → (Within s (without s t) → ⊥) → Overlap s t
some_overlap s t out = elim (overlap_or_not s t) [
  | inl o ↦ o
  | inr none ↦ absurd (out (λ f h. subst T (sym (has_without s t f)) (and_both (has s f) (not (has t f)) h (not_of (has t f) (λ k. none (f, h, k))))))
]

unfoldable pub overlaps_or_not : (s t : FactSet) → Overlap s t ⊎ (Overlap s t → ⊥)
overlaps_or_not s t = elim (within_or_not s (without s t)) [
  | inl w ↦ inr (λ o. not_true (has t o.0) (and_right (has s o.0) (not (has t o.0)) (subst T (has_without s t o.0) (w o.0 o.1))) o.2)
  | inr out ↦ inl (some_overlap s t out)
]

unfoldable pub same_or_not : (s t : FactSet) → (s ≡ t) ⊎ (s ≡ t → ⊥)
same_or_not s t = elim (within_or_not s t) [
  | inr out ↦ inr (λ e. out (λ f h. subst (λ x. T (has x f)) e h))
  | inl one ↦ elim (within_or_not t s) [
    | inr out ↦ inr (λ e. out (λ f h. subst (λ x. T (has x f)) (sym e) h))
    | inl other ↦ inl (same_facts s t (λ f. same_tests (one f) (other f)))
  ]
]

unfoldable pub regression : (m : Move) (s : FactSet) → ((t : FactSet) × Regresses m s t) ⊎ ((t : FactSet) → Regresses m s t → ⊥)
regression m s = elim (overlaps_or_not m.makes s) [
  | inr none ↦ inr (λ t r. none r.makes)
  | inl some ↦ elim (overlaps_or_not m.breaks s) [
    | inl broken ↦ inr (λ t r. r.breaks broken)
    | inr safe ↦ inl (
      union (without s m.makes) m.needs,
      record {
        makes = some;
        breaks = safe;
        result = λ f. has_union (without s m.makes) m.needs f ∙ ap (λ x. x || has m.needs f) (has_without s m.makes f);
      },
    )
  ]
]
