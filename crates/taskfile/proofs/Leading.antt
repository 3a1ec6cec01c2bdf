-- What a list begins with, from its first elements one by one.
use Rattle.std.proofs.Common.{◌≡◌, ℕ, suc, ◌≤◌, List, [], ◌∷◌, ◌++◌, length, drop, refl, arith}
use Rattle.std.proofs.lemmas.Slice.Eq.{HasBytesAt}

shift : (k : ℕ) (p : List ℕ) (x : ℕ) (l : List ℕ) → HasBytesAt (x ∷ l) (suc k) p → HasBytesAt l k p
shift k [] x l s = tt
shift k (a ∷ p) x l s = (s.0, shift (suc k) p x l s.1)

pub begins : (p l : List ℕ) → length p ≤ length l → HasBytesAt l 0 p → l ≡ p ++ drop (length p) l
begins [] l h s = refl
begins (a ∷ p) [] h s = absurd (omega arith)
begins (a ∷ p) (x ∷ l) h s =
    let tail : l ≡ p ++ drop (length p) l = begins p l (omega arith) (shift 0 p x l s.1) in
    (λ i. s.0 i ∷ tail i)
