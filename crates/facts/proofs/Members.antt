-- Sets by their facts: equality, sets made of sets, and the list of a set's facts.
use Rattle.std.proofs.Common.{◌≡◌, ℕ, zero, suc, ◌/◌, ◌%◌, ◌≤◌, not, ◌&&◌, ◌||◌, T, eqb, ◌⊎◌, List, [], ◌∷◌, map, length, sym, refl, ap, ◌∙◌, subst, inl, inr, ⊎_elim, arith}
use lib.Bits.{bit_and, bit_or, bit_xor}
use lib.Count.{ones, ones_step}
use Rattle.facts.specs.Words.{bit}
use Rattle.facts.specs.Sets.{has, Overlap, Among, Rises, Lists}
use Rattle.facts.specs.declared.sets.FactSet.{FactSet}
use Rattle.facts.proofs.Tests.{from_true, to_true, not_both}
use Rattle.facts.proofs.Words.{bit_none, bit_half, bit_low, bit_of_or, bit_of_less, same_bits, parity, any_shared}

pub same_facts : (s t : FactSet) → ((f : ℕ) → has s f ≡ has t f) → s ≡ t
same_facts s t e = let words = same_bits s.word t.word e in λ i. record { word = words i }

-- for any two sets there is one with the facts of either, and one with those that the other lacks
unfoldable pub union : FactSet → FactSet → FactSet
union s t = record { word = bit_or s.word t.word }

pub has_union : (s t : FactSet) (f : ℕ) → has (union s t) f ≡ (has s f || has t f)
unfolding union
has_union s t f = bit_of_or s.word t.word f

unfoldable pub without : FactSet → FactSet → FactSet
without s t = record { word = bit_xor s.word (bit_and s.word t.word) }

pub has_without : (s t : FactSet) (f : ℕ) → has (without s t) f ≡ (has s f && not (has t f))
unfolding without
has_without s t f = bit_of_less s.word t.word f

-- whether two sets overlap can be told: every fact is at most the word
pub overlap_or_not : (s t : FactSet) → Overlap s t ⊎ (Overlap s t → ⊥)
overlap_or_not s t = any_shared s.word t.word

-- the list of a word's bits: that of its half, each one higher, and 0 in front if the word is odd
among_map : (f : ℕ) (xs : List ℕ) → Among f xs → Among (suc f) (map suc xs)
among_map f [] h = elim h [ ]
among_map f (x ∷ xs) (inl e) = inl (ap suc e)
among_map f (x ∷ xs) (inr h) = inr (among_map f xs h)

among_back : (f : ℕ) (xs : List ℕ) → Among f (map suc xs) → (g : ℕ) × (f ≡ suc g) × Among g xs
among_back f [] h = elim h [ ]
among_back f (x ∷ xs) (inl e) = (x, e, inl refl)
among_back f (x ∷ xs) (inr h) = let deeper = among_back f xs h in (deeper.0, deeper.1, inr deeper.2)

rises_map : (xs : List ℕ) → Rises xs → Rises (map suc xs)
rises_map [] h = tt
rises_map (x ∷ xs) h = (
  (λ f a. let back = among_back f xs a in let low = h.0 back.0 back.2 in omega (arith, back.1)),
  rises_map xs h.1,
)

length_map : (xs : List ℕ) → length (map suc xs) ≡ length xs
length_map [] = refl
length_map (x ∷ xs) = ap suc (length_map xs)

record Listing (w : ℕ) : Type 0 where
  facts : List ℕ
  rising : Rises facts
  sound : (f : ℕ) → Among f facts → T (bit w f)
  whole : (f : ℕ) → T (bit w f) → Among f facts
  counted : ones w ≡ length facts

even_listing : (w : ℕ) → w % 2 ≡ 0 → Listing (w / 2) → Listing w
even_listing w e l = record {
  facts = map suc l.facts;
  rising = rises_map l.facts l.rising;
  sound = λ f a. let back = among_back f l.facts a in
      subst (λ x. T (bit w x)) (sym back.1) (subst T (bit_half w back.0) (l.sound back.0 back.2));
  whole = whole;
  counted = omega (arith, ones_step w, l.counted, length_map l.facts);
}
  where
    whole : (f : ℕ) → T (bit w f) → Among f (map suc l.facts)
    whole zero h = absurd (not_both h (bit_low w ∙ ap (λ d. eqb d 1) e))
    whole (suc f) h = among_map f l.facts (l.whole f (subst T (sym (bit_half w f)) h))

odd_listing : (w : ℕ) → w % 2 ≡ 1 → Listing (w / 2) → Listing w
odd_listing w e l = record {
  facts = 0 ∷ map suc l.facts;
  rising = ((λ f a. let back = among_back f l.facts a in omega (arith, back.1)), rises_map l.facts l.rising);
  sound = λ f a. ⊎_elim (λ z. subst (λ x. T (bit w x)) (sym z) (from_true (bit_low w ∙ ap (λ d. eqb d 1) e)))
      (λ h. let back = among_back f l.facts h in
      subst (λ x. T (bit w x)) (sym back.1) (subst T (bit_half w back.0) (l.sound back.0 back.2))) a;
  whole = whole;
  counted = omega (arith, ones_step w, l.counted, length_map l.facts);
}
  where
    whole : (f : ℕ) → T (bit w f) → Among f (0 ∷ map suc l.facts)
    whole zero h = inl refl
    whole (suc f) h = inr (among_map f l.facts (l.whole f (subst T (sym (bit_half w f)) h)))

ones_zero : ones 0 ≡ 0
unfolding ones
ones_zero = refl

listing : (n w : ℕ) → w ≤ n → Listing w
listing zero w h = record {
  facts = [];
  rising = tt;
  sound = λ f a. absurd a;
  whole = λ f b. let e : w ≡ 0 = omega arith in absurd (not_both (subst (λ x. T (bit x f)) e b) (bit_none f));
  counted = let e : w ≡ 0 = omega arith in ap ones e ∙ ones_zero;
}
listing (suc n) w h = let rest = listing n (w / 2) (omega arith) in ⊎_elim (λ e. even_listing w e rest) (λ e. odd_listing w e rest) (parity w)

pub counted : (s : FactSet) → (facts : List ℕ) × Lists s facts × (ones s.word ≡ length facts)
counted s = let l = listing s.word s.word (omega arith) in (
  l.facts,
  record { rising = l.rising; members = λ f. ((λ e. l.whole f (from_true e)), (λ a. to_true (l.sound f a))) },
  l.counted,
)
