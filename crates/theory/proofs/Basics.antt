-- Small facts on marks and estimates.
use Rattle.std.proofs.Common.{◌≡◌, ℕ, ◌⊎◌, sym, refl, ◌∙◌, inl, inr, arith, None, Some}
use Rattle.costs.specs.Estimates.{Estimate}
use Rattle.theory.specs.declared.record.Mark.{Mark}
use Rattle.theory.specs.declared.record.Mark.TheVariants.{Waiting, Shut}

-- where the equations at hand cannot all hold: `impossible (cc)`
pub impossible : {A : Type 0} → ◌≡◌ {A = ℕ} 0 1 → A
impossible e = absurd (omega arith)

pub not_both : {m : Mark} → m ≡ Shut → m ≡ Waiting → ⊥
not_both p q = let z : ◌≡◌ {A = Mark} Shut Waiting = sym p ∙ q in impossible (cc)

unfoldable pub which : (m : Mark) → (m ≡ Shut) ⊎ (m ≡ Waiting)
which Shut = inl refl
which Waiting = inr refl

pub value_same : {V : Type 0} {x y : V} → Some x ≡ Some y → x ≡ y
value_same e = cc

pub never_value : {V : Type 0} {e : V} → None ≡ Some e → ⊥
never_value h = impossible (cc)

unfoldable pub hoped_or_not : {V : Type 0} (o : Estimate V) → (o ≡ None) ⊎ ((e : V) × (o ≡ Some e))
hoped_or_not None = inl refl
hoped_or_not (Some e) = inr (e, refl)
