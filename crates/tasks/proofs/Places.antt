-- Which element stands at which place of a list.
use Rattle.std.proofs.Common.{◌≡◌, ℕ, zero, suc, ◌<◌, List, [], ◌∷◌, length, Some, None, Option, get_or, MatchOption, Bor, sym, refl, subst, arith}
use Rattle.std.specs.Option.{option_copied}
use Rattle.std.specs.Slice.{IsItemAt}
use Rattle.tasks.specs.Places.{At, here, there}

module _ {A : Type 0} where
  pub at_same : {l : List A} {i : ℕ} {x y : A} → At l i x → At l i y → x ≡ y
  at_same here here = refl
  at_same (there p) (there q) = at_same p q

  pub at_less : {l : List A} {i : ℕ} {x : A} → At l i x → i < length l
  at_less here = omega arith
  at_less (there p) = let h = at_less p in omega arith

  -- what `get_or` reads inside a list stands there, whatever its default
  pub at_get : (l : List A) (i : ℕ) (d : A) → i < length l → At l i (get_or l i d)
  at_get [] i d h = absurd (omega arith)
  at_get (x ∷ l) zero d h = here
  at_get (x ∷ l) (suc i) d h = there (at_get l i d (omega arith))

  -- what a list lends at a place stands there
  pub at_lent : (l : List A) (i : ℕ) (r : Option (Bor A)) → IsItemAt l i r → MatchOption (option_copied r) ((x : A) → At l i x → ⊥) (At l i)
  at_lent l i None lent = λ x at. omega (arith, at_less at, lent.3)
  at_lent l i (Some x) lent = subst (At l i) (sym lent.1) (at_get l i x.now lent.3.0)
