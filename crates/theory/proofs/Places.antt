-- Places of a list after a write and after an addition at the end.
use Rattle.std.proofs.Common.{◌≡◌, ℕ, zero, suc, ◌<◌, List, [], ◌∷◌, ◌++◌, length, set as put, refl, ap, arith}
use Rattle.tasks.specs.Places.{At, here, there}

module _ {A : Type 0} where
  unfoldable pub at_some : (l : List A) (i : ℕ) → i < length l → (x : A) × At l i x
  at_some [] i h = absurd (omega arith)
  at_some (x ∷ xs) zero h = (x, here)
  at_some (x ∷ xs) (suc i) h = let found = at_some xs i (omega arith) in (found.0, there found.1)

  pub put_here : {l : List A} {i : ℕ} {x : A} (y : A) → At l i x → At (put l i y) i y
  put_here y here = here
  put_here y (there p) = there (put_here y p)

  pub put_there : (j : ℕ) (y : A) {l : List A} {i : ℕ} {x : A} → At l i x → (i ≡ j → ⊥) → At (put l j y) i x
  put_there zero y here ne = absurd (ne refl)
  put_there (suc j) y here ne = here
  put_there zero y (there p) ne = there p
  put_there (suc j) y (there p) ne = there (put_there j y p (λ e. ne (ap suc e)))

  -- what stands at place i after y was written at place j
  pub data Put (l : List A) (j : ℕ) (y : A) (i : ℕ) (x : A) : Type 0 where
    new : i ≡ j → x ≡ y → Put l j y i x
    old : (i ≡ j → ⊥) → At l i x → Put l j y i x

  pub put_cases : (l : List A) (j : ℕ) (y : A) {i : ℕ} {x : A} → At (put l j y) i x → Put l j y i x
  put_cases [] j y p = elim p [ ]
  put_cases (a ∷ l) zero y here = new refl refl
  put_cases (a ∷ l) zero y (there p) = old (λ e. omega arith) (there p)
  put_cases (a ∷ l) (suc j) y here = old (λ e. omega arith) here
  put_cases (a ∷ l) (suc j) y (there p) = deeper (put_cases l j y p)
    where
      deeper : {i : ℕ} {x : A} → Put l j y i x → Put (a ∷ l) (suc j) y (suc i) x
      deeper (new e f) = new (ap suc e) f
      deeper (old ne q) = old (λ e. ne (omega arith)) (there q)

  pub add_old : {l : List A} {i : ℕ} {x : A} (more : List A) → At l i x → At (l ++ more) i x
  add_old more here = here
  add_old more (there p) = there (add_old more p)

  pub add_new : (l : List A) (y : A) → At (l ++ (y ∷ [])) (length l) y
  add_new [] y = here
  add_new (x ∷ l) y = there (add_new l y)

  -- an addition is a write just past the last place
  pub add_cases : (l : List A) (y : A) {i : ℕ} {x : A} → At (l ++ (y ∷ [])) i x → Put l (length l) y i x
  add_cases [] y here = new refl refl
  add_cases [] y (there p) = elim p [ ]
  add_cases (a ∷ l) y here = old (λ e. omega arith) here
  add_cases (a ∷ l) y (there p) = deeper (add_cases l y p)
    where
      deeper : {i : ℕ} {x : A} → Put l (length l) y i x → Put (a ∷ l) (length (a ∷ l)) y (suc i) x
      deeper (new e f) = new (ap suc e) f
      deeper (old ne q) = old (λ e. ne (omega arith)) (there q)

  pub put_swap : (l : List A) (i j : ℕ) (x y : A) → (i ≡ j → ⊥) → put (put l i x) j y ≡ put (put l j y) i x
  put_swap [] i j x y ne = refl
  put_swap (a ∷ l) zero zero x y ne = absurd (ne refl)
  put_swap (a ∷ l) zero (suc j) x y ne = refl
  put_swap (a ∷ l) (suc i) zero x y ne = refl
  put_swap (a ∷ l) (suc i) (suc j) x y ne = ap {B = List A} (λ t. a ∷ t) (put_swap l i j x y (λ e. ne (ap suc e)))

  pub put_add : {l : List A} {i : ℕ} {x : A} (y : A) (more : List A) → At l i x → put (l ++ more) i y ≡ put l i y ++ more
  put_add y more here = refl
  put_add {l = a ∷ l} y more (there p) = ap {B = List A} (λ t. a ∷ t) (put_add y more p)
