-- A list before and after the first element that is b.
use Rattle.std.proofs.Common.{◌≡◌, ℕ, suc, List, [], ◌∷◌, ◌++◌, length, get_or, refl, ap, ◌∙◌, arith}
use Rattle.std.proofs.lemmas.List.{get_or_at, length-append}
use Rattle.taskfile.specs.Cuts.{Lacks}

-- b stands in what is joined by it
pub no_cut : (b : ℕ) (src : List ℕ) → Lacks b src → (l rest : List ℕ) → src ≡ l ++ b ∷ rest → ⊥
no_cut b src none l rest e =
    let len = ap length e ∙ length-append l (b ∷ rest) in
    none (length l) (omega arith) (ap (λ s. get_or s (length l) 0) e ∙ get_or_at l b rest 0 (length l) refl)

tail_lacks : (b x : ℕ) (l : List ℕ) → Lacks b (x ∷ l) → Lacks b l
tail_lacks b x l none k lt e = none (suc k) (omega arith) e

-- a list has one cut
pub same_cut : (b : ℕ) (l m p q : List ℕ) → Lacks b l → Lacks b m → l ++ b ∷ p ≡ m ++ b ∷ q → (l ≡ m) × (p ≡ q)
same_cut b [] [] p q f g e = (refl, cc)
same_cut b [] (y ∷ m) p q f g e = let z : y ≡ b = cc in absurd (g 0 (omega arith) z)
same_cut b (x ∷ l) [] p q f g e = let z : x ≡ b = cc in absurd (f 0 (omega arith) z)
same_cut b (x ∷ l) (y ∷ m) p q f g e =
    let z : x ≡ y = cc in
    let t : l ++ b ∷ p ≡ m ++ b ∷ q = cc in
    let r = same_cut b l m p q (tail_lacks b x l f) (tail_lacks b y m g) t in
    let u : l ≡ m = r.0 in
    (cc, r.1)
