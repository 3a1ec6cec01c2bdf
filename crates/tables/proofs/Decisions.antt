-- Tests that decide.
use Rattle.std.proofs.Common.{◌≡◌, ℕ, zero, suc, ◌+◌, ◌<◌, Bool, true, false, ◌&&◌, ◌||◌, T, eqb, List, [], ◌∷◌, Some, Decides, sym, refl, subst, ⊎_elim, arith, eqb→eq}
use Rattle.std.specs.List.{list_all}
use Rattle.std.proofs.lemmas.Bool.{cases_eq, cases_Bool, false≢true}
use Rattle.facts.specs.Sets.{has, Within, Next}
use Rattle.facts.specs.declared.sets.FactSet.{FactSet}
use Rattle.facts.proofs.Tests.{from_true, to_true, not_both, same_tests, and_left, and_right, and_both}
use Rattle.tasks.specs.Places.{At, here, there}
use Rattle.tasks.specs.declared.moves.Move.{Move}
use Rattle.costs.specs.Estimates.{not_above}
use Rattle.costs.specs.Estimates.{Estimate}
use Rattle.costs.specs.declared.tally.Tally.{Ghosts}
use Rattle.bounds.specs.Sound.{NotAbove}
use Rattle.tables.specs.Nets.{every}
use Rattle.tables.specs.Reading.{Top}
use Rattle.tables.proofs.Order as order
use Rattle.tables.proofs.Order.{LawsOf}
use Rattle.tables.proofs.Subsets.{Gone, eqb_from, walked, over}
use Rattle.tables.proofs.Tops.{top_below}

pub decides_test : (b : Bool) → Decides b (T b)
decides_test b = ((λ e. from_true e), λ h. to_true h)

pub decides_like : {P Q : Type 0} {b : Bool} → (P → Q) → (Q → P) → Decides b P → Decides b Q
decides_like to from d = ((λ e. to (d.0 e)), λ q. d.1 (from q))

pub decides_same : {P : Type 0} (a b : Bool) → Decides a P → Decides b P → a ≡ b
decides_same a b d e = same_tests (λ h. from_true (e.1 (d.0 (to_true h)))) (λ h. from_true (d.1 (e.0 (to_true h))))

pub decides_and : {P Q : Type 0} (a b : Bool) → Decides a P → Decides b Q → Decides (a && b) (P × Q)
decides_and a b d e =
    ((λ h. let t = from_true h in (d.0 (to_true (and_left a b t)), e.0 (to_true (and_right a b t)))), λ h. to_true (and_both a b (from_true (d.1 h.0)) (from_true (e.1 h.1))))

pub decides_or_not : {P : Type 0} (a b : Bool) → Decides b P → Decides (a || b) ((T a → ⊥) → P)
decides_or_not {P} true b d = ((λ e no. absurd (no tt)), λ h. refl)
decides_or_not {P} false b d = ((λ e no. d.0 e), λ h. d.1 (h (λ x. x)))

pub decides_equal : (m n : ℕ) → Decides (eqb m n) (m ≡ n)
decides_equal m n = ((λ e. eqb→eq m n (from_true e)), λ e. to_true (eqb_from e))

module _ {P : ℕ → Type 0} (test : ℕ → Bool) (d : (k : ℕ) → Decides (test k) (P k)) where
  pub decides_every : (n : ℕ) → Decides (every n test) ((k : ℕ) → k < n → P k)
  unfolding every
  decides_every zero = ((λ e k l. absurd (omega arith)), λ h. refl)
  decides_every (suc n) = decides_like
      (λ w k l. ⊎_elim (λ e. subst P (sym e) w.1) (λ ne. w.0 k (omega arith)) (cases_eq k n))
      (λ h. ((λ k l. h k (omega arith)), h n (omega arith)))
      (decides_and (every n test) (test n) (decides_every n) (d n))

module _ {P : Move → Type 0} (test : Move → Bool) (d : (m : Move) → Decides (test m) (P m)) where
  pub decides_all : (moves : List Move) → Decides (list_all test moves) ((j : ℕ) (m : Move) → At moves j m → P m)
  decides_all [] = ((λ e j m at. elim at [ ]), λ h. refl)
  decides_all (n ∷ moves) = decides_like split (λ h. (h zero n here, λ j m at. h (suc j) m (there at)))
      (decides_and (test n) (list_all test moves) (d n) (decides_all moves))
    where
      split : P n × ((j : ℕ) (m : Move) → At moves j m → P m) → (j : ℕ) (m : Move) → At (n ∷ moves) j m → P m
      split w j m here = w.0
      split w j m (there at) = w.1 _ m at

-- a loop over the facts of a set that stops at the first that fails
module _ (P : ℕ → Type 0) (s all left : FactSet) where
  pub fails_at : (after : FactSet) (x : ℕ) → all ≡ s → Within left all → Next left (Some x) after → (P x → ⊥) → Decides false ((p : ℕ) → T (has s p) → P p)
  fails_at after x is within next fails = ((λ e. absurd (false≢true e)), λ h. absurd (fails (h x (subst (λ y. T (has y x)) is (within x next.0)))))

  pub holds_more : (after : FactSet) (x : ℕ) → Within left all → Next left (Some x) after → ((p : ℕ) → Gone all left p → P p) → P x
      → Within after all × ((p : ℕ) → Gone all after p → P p)
  holds_more after x within next old now = let step = walked within next in (
    step.within,
    λ p gone. ⊎_elim (old p) (λ e. subst P (sym e) now) (step.more p gone),
  )

  pub holds_all : all ≡ s → ((f : ℕ) → has left f ≡ false) → ((p : ℕ) → Gone all left p → P p) → Decides true ((p : ℕ) → T (has s p) → P p)
  holds_all is none old = ((λ e p h. old p ((over is none).whole p h)), λ h. refl)

-- the same of a prefix, one longer
pub every_more : (n : ℕ) (test : ℕ → Bool) → every n test ≡ true → test n ≡ true → every (n + 1) test ≡ true
every_more n test so_far now = (decides_every test (λ k. decides_test (test k)) (n + 1)).1 (λ k l. ⊎_elim
    (λ e. subst (λ x. T (test x)) (sym e) (from_true now)) (λ ne. (decides_every test (λ i. decides_test (test i)) n).0 so_far k (omega arith)) (cases_eq k n))

pub every_fails : (n k : ℕ) (test : ℕ → Bool) → k < n → test k ≡ false → every n test ≡ false
every_fails n k test l e = ⊎_elim (λ h. absurd (not_both ((decides_every test (λ i. decides_test (test i)) n).0 h k l) e)) (λ h. h) (cases_Bool (every n test))

-- a highest place is at most a limit if all are
pub top_tells : {V K : Type 0} {tally : Ghosts V} (laws : LawsOf tally) {P : K → Type 0} {val : K → Estimate V} (e limit : Estimate V) → Top tally P val e
    → Decides (not_above tally.at_most e limit) ((k : K) → P k → NotAbove tally (val k) limit)
top_tells laws {val = val} e limit top = ((λ h k p. order.transitive laws (val k) e limit (top.upper k p) (from_true h)), λ all. to_true (top_below laws limit top all))
