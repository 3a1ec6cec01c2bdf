-- Tests that came out true or false.
use Rattle.std.proofs.Common.{◌≡◌, Bool, true, false, not, ◌&&◌, ◌||◌, T, ◌⊎◌, sym, refl, subst, inl, inr}

pub from_true : {b : Bool} → b ≡ true → T b
from_true e = subst T (sym e) tt

pub to_true : {b : Bool} → T b → b ≡ true
to_true {b = true} h = refl
to_true {b = false} h = absurd h

pub to_false : {b : Bool} → (T b → ⊥) → b ≡ false
to_false {b = true} h = absurd (h tt)
to_false {b = false} h = refl

pub not_both : {b : Bool} → T b → b ≡ false → ⊥
not_both h e = subst T e h

pub not_true_false : false ≡ true → ⊥
not_true_false e = from_true e

-- two tests that imply each other are the same
pub same_tests : {a b : Bool} → (T a → T b) → (T b → T a) → a ≡ b
same_tests {a = true} {b = true} h k = refl
same_tests {a = true} {b = false} h k = absurd (h tt)
same_tests {a = false} {b = true} h k = absurd (k tt)
same_tests {a = false} {b = false} h k = refl

pub and_left : (a b : Bool) → T (a && b) → T a
and_left true b h = tt
and_left false b h = absurd h

pub and_right : (a b : Bool) → T (a && b) → T b
and_right true b h = h
and_right false b h = absurd h

pub and_both : (a b : Bool) → T a → T b → T (a && b)
and_both true b h k = k
and_both false b h k = absurd h

pub or_left : (a b : Bool) → T a → T (a || b)
or_left true b h = tt
or_left false b h = absurd h

pub or_right : (a b : Bool) → T b → T (a || b)
or_right true b h = tt
or_right false b h = h

unfoldable pub or_cases : (a b : Bool) → T (a || b) → T a ⊎ T b
or_cases true b h = inl tt
or_cases false b h = inr h

pub not_true : (b : Bool) → T (not b) → T b → ⊥
not_true true h k = h
not_true false h k = k

pub not_of : (b : Bool) → (T b → ⊥) → T (not b)
not_of true h = h tt
not_of false h = tt

unfoldable pub true_or_not : (b : Bool) → T b ⊎ (T b → ⊥)
true_or_not true = inl tt
true_or_not false = inr (λ h. h)
