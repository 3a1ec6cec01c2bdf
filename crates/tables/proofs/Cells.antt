-- The places of a table in its list.
use Rattle.std.proofs.Common.{◌≡◌, ℕ, zero, suc, ◌+◌, ◌<◌, ◌≤◌, Bool, true, false, cond, ◌≢◌, ◌⊎◌, List, [], ◌∷◌, ◌++◌, length, get_or, set, replicate, None, sym, refl, ap, ◌∙◌, subst, inl, inr, ⊎_elim, arith}
use Rattle.std.proofs.lemmas.List.{get_or-set_same, get_or-set_other}
use Rattle.std.proofs.lemmas.Bool.{cases_eq, cond-true, cond-false, cases_Bool}
use Rattle.facts.proofs.Tests.{from_true, to_true}
use Rattle.costs.specs.Choices.{Smaller}
use Rattle.costs.specs.Estimates.{not_above}
use Rattle.costs.specs.Estimates.{Estimate}
use Rattle.costs.specs.declared.tally.Tally.{Ghosts}
use Rattle.tables.specs.Equation.{Setting}
use Rattle.tables.specs.Laid.{Numbered}
use Rattle.tables.specs.Nets.{Net, Present, read, place_of}
use Rattle.tables.specs.Settling.{Lowers, LowersAt}
use Rattle.tables.proofs.Falls.{lowers_at}
use Rattle.tables.proofs.Order.{LawsOf}
use Rattle.tables.proofs.Solutions.{present_or_not}

module _ {V K : Type 0} {b : Setting} (n : Net V b K) where
  module _ {X : Type 0} (out : X) (list : List X) (k : K) where
    pub inside : Present n k → read n out list k ≡ get_or list (n.number k) out
    unfolding read
    inside p = cond-true (n.present k) (get_or list (n.number k) out) out (to_true p)

    pub outside : (Present n k → ⊥) → read n out list k ≡ out
    unfolding read
    outside off = ⊎_elim (λ e. absurd (off (from_true e))) (λ e. cond-false (n.present k) (get_or list (n.number k) out) out e) (cases_Bool (n.present k))

  module _ (numbers : Numbered n) where
    -- a place that the table has is one of its numbers, and no other
    pub number_of : (k at : K) → Present n k → Present n at → n.number k ≡ n.number at → k ≡ at
    number_of k at p q e = sym (numbers.placed k p) ∙ ap n.place e ∙ numbers.placed at q

    pub place_or_not : (k at : K) → Present n at → (k ≡ at) ⊎ (k ≡ at → ⊥)
    place_or_not k at q = ⊎_elim
        (λ p. ⊎_elim (λ e. inl (number_of k at p q e)) (λ ne. inr (λ e. ne (ap n.number e))) (cases_eq (n.number k) (n.number at)))
        (λ off. inr (λ e. off (subst (λ x. Present n x) (sym e) q))) (present_or_not n k)

    -- a write at one place leaves the others
    pub others : {X : Type 0} (out x : X) (list : List X) (k at : K) → Present n at → (k ≡ at → ⊥) → read n out (set list (n.number at) x) k ≡ read n out list k
    others out x list k at q ne = ⊎_elim
        (λ p. let off : n.number k ≢ n.number at = λ e. ne (number_of k at p q e) in
        inside out (set list (n.number at) x) k p ∙ get_or-set_other list (n.number at) (n.number k) x out off ∙ sym (inside out list k p))
        (λ off. outside out (set list (n.number at) x) k off ∙ sym (outside out list k off)) (present_or_not n k)

    pub written : {X : Type 0} (out x : X) (list : List X) (at : K) → Present n at → n.count ≤ length list → read n out (set list (n.number at) x) at ≡ x
    written out x list at q fits = inside out (set list (n.number at) x) at q ∙ get_or-set_same list (n.number at) x out (omega (arith, numbers.below at q))

    -- one place is lowered
    pub lowered : {tally : Ghosts V} (laws : LawsOf tally) (table new : List (Estimate V)) (at : K) (offer : Estimate V) → Present n at → n.count ≤ length table
        → LowersAt tally (n.number at) offer table new → Lowers tally (λ k. Present n k × (k ≡ at)) offer (place_of n table) (place_of n new)
    lowered {tally} laws table new at offer q fits l =
        subst (λ t. Lowers tally (λ k. Present n k × (k ≡ at)) offer (place_of n table) (place_of n t)) (sym l.wrote)
        (lowers_at laws at l.to (q, refl) (λ k h. h.1) (λ k. place_or_not k at q)
        (written None l.to table at q fits) (λ k ne. others None l.to table k at q ne)
        (subst (λ x. Smaller (not_above tally.at_most) x offer l.to) (sym (inside None table at q)) l.smaller))

-- what stands behind a front does not change with it
pub same_past : {X : Type 0} (out : X) (new old rest : List X) → length new ≡ length old → (k : ℕ) → length old ≤ k → get_or (new ++ rest) k out ≡ get_or (old ++ rest) k out
same_past out [] [] rest e k l = refl
same_past out [] (y ∷ old) rest e k l = absurd (omega (arith, e))
same_past out (x ∷ new) [] rest e k l = absurd (omega (arith, e))
same_past out (x ∷ new) (y ∷ old) rest e zero l = absurd (omega arith)
same_past out (x ∷ new) (y ∷ old) rest e (suc k) l = same_past out new old rest (omega (arith, e)) k (omega arith)

-- how many places are open
abbrev pub undone : List Bool → ℕ
undone [] = 0
undone (x ∷ xs) = cond x 0 1 + undone xs

pub undone_less : (xs : List Bool) (u : ℕ) → u < length xs → get_or xs u false ≡ false → undone (set xs u true) < undone xs
undone_less [] u l e = absurd (omega arith)
undone_less (x ∷ xs) zero l e = rw e (omega arith)
undone_less (x ∷ xs) (suc u) l e = let h = undone_less xs u (omega arith) e in omega arith

pub none_done : (n k : ℕ) → get_or (replicate n false) k false ≡ false
none_done zero k = refl
none_done (suc n) zero = refl
none_done (suc n) (suc k) = none_done n k
