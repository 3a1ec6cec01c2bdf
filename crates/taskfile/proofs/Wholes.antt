-- A line ends at its first newline, so that it can be cut in one way only.
use Rattle.std.proofs.Common.{◌≡◌, ℕ, zero, suc, ◌<◌, true, not, eqb, List, [], ◌∷◌, ◌++◌, length, get_or, decimal, sym, refl, ap, ◌∙◌, append_assoc, arith, eq-eqb}
use borrow.Author.Tests.{clash}
use Rattle.std.proofs.lemmas.List.{length-append, append_cancel_left}
use Rattle.std.proofs.lemmas.List.Sums.{AllPass-from_list_all}
use Rattle.std.specs.List.{AllByRecursion, list_all}
use Rattle.taskfile.specs.declared.keys.Key.{Key}
use Rattle.taskfile.specs.declared.keys.Key.TheVariants.{Facts, Moves, Start, Goal, Group, Price, Needs, Makes, Breaks}
use Rattle.taskfile.specs.Cuts.{Lacks}
use Rattle.taskfile.specs.Entries.{Entry, number, members, commas, joined, value_of, line_of, Short, Formed}
use Rattle.taskfile.specs.Keys.{lead}
use Rattle.taskfile.proofs.Cutting.{no_cut, same_cut}
use Rattle.taskfile.proofs.Decimals.{looks, same_numeral}
use Rattle.taskfile.proofs.Listings.{numeral, decimal_lacks}

absent_lacks : (b : ℕ) (l : List ℕ) → list_all (λ x. not (eqb x b)) l ≡ true → Lacks b l
absent_lacks b l t k lt e = clash (sym (ap not (eq-eqb (get_or l k 0) b e)) ∙ AllPass-from_list_all (λ x. not (eqb x b)) l t k 0 lt)

pub lead_lacks : (k : Key) → Lacks 10 (lead k)
lead_lacks Facts = absent_lacks 10 (lead Facts) refl
lead_lacks Moves = absent_lacks 10 (lead Moves) refl
lead_lacks Start = absent_lacks 10 (lead Start) refl
lead_lacks Goal = absent_lacks 10 (lead Goal) refl
lead_lacks Group = absent_lacks 10 (lead Group) refl
lead_lacks Price = absent_lacks 10 (lead Price) refl
lead_lacks Needs = absent_lacks 10 (lead Needs) refl
lead_lacks Makes = absent_lacks 10 (lead Makes) refl
lead_lacks Breaks = absent_lacks 10 (lead Breaks) refl

lacks_cons : (b x : ℕ) (l : List ℕ) → (x ≡ b → ⊥) → Lacks b l → Lacks b (x ∷ l)
lacks_cons b x l h f zero lt e = h e
lacks_cons b x l h f (suc k) lt e = f k (omega arith) e

lacks_append : (b : ℕ) (l m : List ℕ) → Lacks b l → Lacks b m → Lacks b (l ++ m)
lacks_append b [] m f g = g
lacks_append b (x ∷ l) m f g =
    lacks_cons b x (l ++ m) (f 0 (omega arith)) (lacks_append b l m (λ k lt. f (suc k) (omega arith)) g)

-- neither a number nor a set has a newline in it
decimal_whole : (n : ℕ) → Short n → Lacks 10 (decimal n)
decimal_whole n h k lt e = let d = (looks (decimal n) n (numeral n h)).digit k lt in omega arith

commas_whole : (n : ℕ) (ns : List ℕ) → AllByRecursion Short (n ∷ ns) → Lacks 10 (commas n ns)
commas_whole n [] s = decimal_whole n s.0
commas_whole n (m ∷ ns) s =
    lacks_append 10 (decimal n) (44 ∷ commas m ns) (decimal_whole n s.0) (lacks_cons 10 44 (commas m ns) (λ e. omega arith) (commas_whole m ns s.1))

pub value_whole : (k : Key) (e : Entry) → Formed k e → Lacks 10 (value_of e)
value_whole k (number n) f = decimal_whole n f.1
value_whole k (members []) f = λ i lt e. omega arith
value_whole k (members (n ∷ ns)) f = commas_whole n ns f.2

pub line_then : (k : Key) (e : Entry) (more : List ℕ) → line_of k e ++ more ≡ lead k ++ (value_of e ++ 10 ∷ more)
line_then k e more = append_assoc (lead k) (value_of e ++ 10 ∷ []) more ∙ ap (λ t. lead k ++ t) (append_assoc (value_of e) (10 ∷ []) more)

-- the line with the value v says e: then v is the value of e
pub same_line : (k : Key) (e : Entry) → Formed k e → (v : List ℕ) → Lacks 10 v → (r m : List ℕ) → lead k ++ (v ++ 10 ∷ r) ≡ line_of k e ++ m → (v ≡ value_of e) × (r ≡ m)
same_line k e f v whole r m h =
    same_cut 10 v (value_of e) r m whole (value_whole k e f) (append_cancel_left (lead k) _ _ (h ∙ line_then k e m))

-- a text writes one set at most
same_commas : (n m : ℕ) (ns ms : List ℕ) → AllByRecursion Short (n ∷ ns) → AllByRecursion Short (m ∷ ms) → commas n ns ≡ commas m ms → n ∷ ns ≡ m ∷ ms
same_commas n m [] [] s t e =
    ap (λ x. x ∷ []) (same_numeral (decimal n) n m (numeral n s.0) (record { short = t.0; digits = e }))
same_commas n m [] (y ∷ ms) s t e = absurd (no_cut 44 (decimal n) (decimal_lacks n s.0) (decimal m) (commas y ms) e)
same_commas n m (x ∷ ns) [] s t e = absurd (no_cut 44 (decimal m) (decimal_lacks m t.0) (decimal n) (commas x ns) (sym e))
same_commas n m (x ∷ ns) (y ∷ ms) s t e =
    let c = same_cut 44 (decimal n) (decimal m) (commas x ns) (commas y ms) (decimal_lacks n s.0) (decimal_lacks m t.0) e in
    let first = same_numeral (decimal n) n m (numeral n s.0) (record { short = t.0; digits = c.0 }) in
    let others = same_commas x y ns ms s.1 t.1 c.1 in
    (λ i. first i ∷ others i)

commas_some : (n : ℕ) (ns : List ℕ) → Short n → 0 < length (commas n ns)
commas_some n [] h = (looks (decimal n) n (numeral n h)).some
commas_some n (m ∷ ns) h = let l = length-append (decimal n) (44 ∷ commas m ns) in omega arith

same_joined : (ns ms : List ℕ) → AllByRecursion Short ns → AllByRecursion Short ms → joined ns ≡ joined ms → ns ≡ ms
same_joined [] [] s t e = refl
same_joined [] (m ∷ ms) s t e = let h = commas_some m ms t.0 in let l = ap length e in absurd (omega arith)
same_joined (n ∷ ns) [] s t e = let h = commas_some n ns s.0 in let l = ap length e in absurd (omega arith)
same_joined (n ∷ ns) (m ∷ ms) s t e = same_commas n m ns ms s t e

same_value : (k : Key) (e d : Entry) → Formed k e → Formed k d → value_of e ≡ value_of d → e ≡ d
same_value k (number n) (number m) f g h = ap number (same_numeral (decimal n) n m (numeral n f.1) (record { short = g.1; digits = h }))
same_value k (number n) (members ms) f g h = absurd (clash (sym g.0 ∙ f.0))
same_value k (members ns) (number m) f g h = absurd (clash (sym f.0 ∙ g.0))
same_value k (members ns) (members ms) f g h = ap members (same_joined ns ms f.2 g.2 h)

-- bytes begin with one line at most
pub same_entry : (k : Key) (e d : Entry) (m r : List ℕ) → Formed k e → Formed k d → line_of k e ++ m ≡ line_of k d ++ r → (e ≡ d) × (m ≡ r)
same_entry k e d m r f g h =
    let s = same_line k d g (value_of e) (value_whole k e f) m r (sym (line_then k e m) ∙ h) in
    (same_value k e d f g s.0, s.1)
