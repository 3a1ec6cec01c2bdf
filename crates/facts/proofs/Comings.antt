-- The facts of a set as they come, one after another in rising order.
use Rattle.std.proofs.Common.{◌≡◌, ℕ, ◌<◌, ◌≤◌, Bool, true, false, not, ◌&&◌, T, eqb, ◌⊎◌, List, [], ◌∷◌, ◌++◌, sym, refl, ap, subst, inl, inr, ⊎_elim, arith}
use Rattle.std.proofs.lemmas.Bool.Decides.{Decides-eqb}
use Rattle.facts.specs.Sets.{has, Among, Rises, Lists}
use Rattle.facts.specs.declared.sets.FactSet.{FactSet}
use Rattle.facts.proofs.Tests.{from_true, to_true, not_both, and_left, and_right, and_both, not_true}

-- the facts xs have come of the set s, and those of `left` are still to come
pub record Split (s : FactSet) (xs : List ℕ) (left : FactSet) : Type 0 where
  pub rising : Rises xs
  pub came : (f : ℕ) → Among f xs → T (has s f)
  pub to_come : (f : ℕ) → T (has left f) → T (has s f)
  pub all : (f : ℕ) → T (has s f) → Among f xs ⊎ T (has left f)
  pub below : (x f : ℕ) → Among x xs → T (has left f) → x < f

pub split_none : (s : FactSet) → Split s [] s
split_none s = record { rising = tt; came = λ f a. absurd a; to_come = λ f h. h; all = λ f h. inr h; below = λ x f a h. absurd a }

among_more : (f : ℕ) (xs : List ℕ) (x : ℕ) → Among f (xs ++ (x ∷ [])) → Among f xs ⊎ (f ≡ x)
among_more f [] x (inl e) = inr e
among_more f [] x (inr h) = absurd h
among_more f (y ∷ xs) x (inl e) = inl (inl e)
among_more f (y ∷ xs) x (inr h) = ⊎_elim (λ a. inl (inr a)) inr (among_more f xs x h)

among_front : (f : ℕ) (xs : List ℕ) (x : ℕ) → Among f xs → Among f (xs ++ (x ∷ []))
among_front f [] x a = absurd a
among_front f (y ∷ xs) x (inl e) = inl e
among_front f (y ∷ xs) x (inr a) = inr (among_front f xs x a)

among_last : (xs : List ℕ) (x : ℕ) → Among x (xs ++ (x ∷ []))
among_last [] x = inl refl
among_last (y ∷ xs) x = inr (among_last xs x)

rises_more : (xs : List ℕ) (x : ℕ) → Rises xs → ((y : ℕ) → Among y xs → y < x) → Rises (xs ++ (x ∷ []))
rises_more [] x r h = ((λ f a. absurd a), tt)
rises_more (y ∷ xs) x r h = (
  (λ f a. ⊎_elim (r.0 f) (λ e. subst (λ z. y < z) (sym e) (h y (inl refl))) (among_more f xs x a)),
  rises_more xs x r.1 (λ z a. h z (inr a)),
)

equal_or_other : (f x : ℕ) → (f ≡ x) ⊎ (T (not (eqb f x)))
equal_or_other f x = by (eqb f x) refl
  where
    by : (b : Bool) → eqb f x ≡ b → (f ≡ x) ⊎ (T (not (eqb f x)))
    by true e = inl ((Decides-eqb f x).0 e)
    by false e = inr (from_true (ap not e))

-- the lowest of those to come, and then the others
pub split_more : (s left later : FactSet) (xs : List ℕ) (x : ℕ) → Split s xs left → T (has left x) → ((f : ℕ) → T (has left f) → x ≤ f)
    → ((f : ℕ) → has later f ≡ (has left f && not (eqb f x))) → Split s (xs ++ (x ∷ [])) later
split_more s left later xs x sp here least rest = record {
  rising = rises_more xs x sp.rising (λ y a. sp.below y x a here);
  came = λ f a. ⊎_elim (sp.came f) (λ e. subst (λ z. T (has s z)) (sym e) (sp.to_come x here)) (among_more f xs x a);
  to_come = λ f h. sp.to_come f (still f h);
  all = λ f h. ⊎_elim (λ a. inl (among_front f xs x a))
      (λ l. ⊎_elim (λ e. inl (subst (λ z. Among z (xs ++ (x ∷ []))) (sym e) (among_last xs x)))
      (λ ne. inr (subst T (sym (rest f)) (and_both (has left f) (not (eqb f x)) l ne))) (equal_or_other f x)) (sp.all f h);
  below = λ y f a h. ⊎_elim (λ b. sp.below y f b (still f h)) (λ e. let up = least f (still f h) in let ne = other f h in omega (arith, e)) (among_more y xs x a);
}
  where
    still : (f : ℕ) → T (has later f) → T (has left f)
    still f h = and_left (has left f) (not (eqb f x)) (subst T (rest f) h)

    other : (f : ℕ) → T (has later f) → f ≡ x → ⊥
    other f h e = not_true (eqb f x) (and_right (has left f) (not (eqb f x)) (subst T (rest f) h)) (from_true ((Decides-eqb f x).1 e))

pub split_all : (s left : FactSet) (xs : List ℕ) → Split s xs left → ((f : ℕ) → has left f ≡ false) → Lists s xs
split_all s left xs sp none = record {
  rising = sp.rising;
  members = λ f. (
    (λ e. ⊎_elim (λ a. a) (λ l. absurd (not_both l (none f))) (sp.all f (from_true e))),
    (λ a. to_true (sp.came f a)),
  );
}
