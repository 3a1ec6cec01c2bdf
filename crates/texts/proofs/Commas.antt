-- Items shown with commas between them are their numbers joined by commas.
use Rattle.std.proofs.Common.{◌≡◌, ℕ, List, [], ◌∷◌, ◌++◌, map, decimal, refl, ap, append-nil}
use Rattle.std.specs.List.{flat_map}
use Rattle.itertools.specs.Consumer.{joined as shown}
use Rattle.taskfile.specs.Entries.{commas, joined}

commas_shown : {A : Type 0} (v : A → ℕ) (n : ℕ) (xs : List A) → decimal n ++ flat_map (λ y. 44 ∷ decimal (v y)) xs ≡ commas n (map v xs)
commas_shown v n [] = append-nil (decimal n)
commas_shown v n (x ∷ xs) = ap (λ l. decimal n ++ (44 ∷ l)) (commas_shown v (v x) xs)

pub joined_shown : {A : Type 0} (v : A → ℕ) (xs : List A) → shown (λ x. decimal (v x)) (44 ∷ []) xs ≡ joined (map v xs)
joined_shown v [] = refl
joined_shown v (x ∷ xs) = commas_shown v (v x) xs
