-- The records, read and written through the whole table.
use Rattle.std.proofs.Common.{◌≡◌, ℕ, zero, suc, ◌+◌, ◌<◌, List, [], ◌∷◌, ◌++◌, length, get_or, take, set as put, sym, refl, ap, ◌∙◌, subst, add-one, arith}
use Rattle.std.proofs.lemmas.List.{length-take-le}
use Rattle.tasks.specs.Places.{At, here, there}
use Rattle.records.specs.Tables.{recs_of}
use Rattle.records.specs.declared.table.Records.{Records}

module _ {A : Type 0} where
  pub at_read : (l : List A) (i : ℕ) (x : A) → i < length l → x ≡ get_or l i x → At l i x
  at_read [] i x h e = absurd (omega arith)
  at_read (a ∷ l) zero x h e = subst (λ y. At (a ∷ l) zero y) (sym e) here
  at_read (a ∷ l) (suc i) x h e = there (at_read l i x (omega arith) e)

  pub put_take : (n : ℕ) (l : List A) (i : ℕ) (x : A) → i < n → take n (put l i x) ≡ put (take n l) i x
  put_take zero l i x h = absurd (omega arith)
  put_take (suc n) [] i x h = refl
  put_take (suc n) (a ∷ l) zero x h = refl
  put_take (suc n) (a ∷ l) (suc i) x h = ap {B = List A} (λ t. a ∷ t) (put_take n l i x (omega arith))

  pub put_same : {l : List A} {i : ℕ} {x : A} → At l i x → put l i x ≡ l
  put_same here = refl
  put_same (there {y = y} a) = ap {B = List A} (λ t. y ∷ t) (put_same a)

  take_suc : {l : List A} {i : ℕ} {x : A} → At l i x → take (suc i) l ≡ take i l ++ (x ∷ [])
  take_suc here = refl
  take_suc (there {y = y} a) = ap {B = List A} (λ t. y ∷ t) (take_suc a)

  -- one place more
  pub take_next : {l : List A} {i : ℕ} {x : A} → At l i x → take (i + 1) l ≡ take i l ++ (x ∷ [])
  take_next {l} {i} a = ap (λ n. take n l) (add-one i) ∙ take_suc a

pub recs_length : {V : Type 0} (r : Records V) → length (recs_of r) ≡ r.count
recs_length r = length-take-le r.count r.table.now (omega (arith, r.counted, r.fits))
