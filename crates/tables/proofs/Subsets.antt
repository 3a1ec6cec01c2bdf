-- Sets of one and of two facts, and the facts of a set taken one after another.
use Rattle.std.proofs.Common.{◌≡◌, ℕ, zero, suc, ◌^◌, ◌<◌, ◌≤◌, Bool, true, false, not, ◌||◌, T, eqb, ◌⊎◌, List, [], ◌∷◌, length, Some, sym, refl, ap, ◌∙◌, subst, inl, inr, ⊎_elim, pow-suc, arith, eqb→eq}
use Rattle.std.proofs.lemmas.Bool.{cases_lt, cases_Bool}
use Rattle.std.proofs.lemmas.Bool.Decides.{nat_tests}
use Rattle.facts.specs.Sets.{has, Within, Among, Next}
use Rattle.facts.specs.declared.sets.FactSet.{FactSet}
use Rattle.facts.proofs.Members.{same_facts, union, has_union}
use Rattle.facts.proofs.Tests.{from_true, not_both, same_tests, and_left, and_right, and_both, or_left, or_right, or_cases, not_of, not_true}
use Rattle.facts.proofs.Words.{bit_none, bit_power, bit_inside}
use Rattle.tables.specs.Equation.{Few}
use Rattle.tables.specs.Reading.{Only, Two, Both, past}

pub eqb_same : (f : ℕ) → T (eqb f f)
eqb_same f = from_true (grind (arith, nat_tests))

pub eqb_is : (f p : ℕ) → T (eqb f p) → f ≡ p
eqb_is f p h = eqb→eq f p h

pub eqb_from : {f p : ℕ} → f ≡ p → T (eqb f p)
eqb_from {f} e = subst (λ x. T (eqb f x)) e (eqb_same f)

below_power : (f : ℕ) → f < 2 ^ f
below_power zero = omega arith
below_power (suc f) = rw pow-suc (omega (arith, below_power f))

pub has_past : (s : FactSet) (f : ℕ) → T (has s f) → f < past s
has_past s f h = ⊎_elim (λ l. l) (λ l. absurd (omega (arith, bit_inside s.word f f (omega (arith, below_power f)) h))) (cases_lt f (past s))

-- the set with no fact
pub none : FactSet
none = record { word = 0 }

pub has_none : (f : ℕ) → T (has none f) → ⊥
unfolding none
has_none f h = not_both h (bit_none f)

-- the set of one fact
pub own : ℕ → FactSet
own p = record { word = 2 ^ p }

pub own_only : (p : ℕ) → Only (own p) p
unfolding own
own_only p = record { has_one = λ f. bit_power p f }

pub only_same : (p : ℕ) (s u : FactSet) → Only s p → Only u p → s ≡ u
only_same p s u a b = same_facts s u (λ f. a.has_one f ∙ sym (b.has_one f))

module _ {p : ℕ} {s : FactSet} (o : Only s p) where
  pub only_has : T (has s p)
  only_has = subst T (sym (o.has_one p)) (eqb_same p)

  pub only_is : (f : ℕ) → T (has s f) → f ≡ p
  only_is f h = eqb_is f p (subst T (o.has_one f) h)

  pub only_all : (P : ℕ → Type 0) → P p → (f : ℕ) → T (has s f) → P f
  only_all P x f h = subst P (sym (only_is f h)) x

-- the set of two facts
pub own_two : Two → FactSet
own_two k = union (own k.0) (own k.1)

pub own_both : (k : Two) → Both (own_two k) k
unfolding own_two
own_both k = record {
  has_two = λ f. has_union (own k.0) (own k.1) f ∙ ap (λ x. x || has (own k.1) f) ((own_only k.0).has_one f) ∙ ap (λ x. eqb f k.0 || x) ((own_only k.1).has_one f);
}

pub both_same : (k : Two) (s u : FactSet) → Both s k → Both u k → s ≡ u
both_same k s u a b = same_facts s u (λ f. a.has_two f ∙ sym (b.has_two f))

or_comm : (a b : Bool) → (a || b) ≡ (b || a)
or_comm true true = refl
or_comm true false = refl
or_comm false true = refl
or_comm false false = refl

pub both_turned : {s : FactSet} (p q : ℕ) → Both s (p, q) → Both s (q, p)
both_turned p q b = record { has_two = λ f. b.has_two f ∙ or_comm (eqb f p) (eqb f q) }

module _ {k : Two} {s : FactSet} (b : Both s k) where
  pub both_first : T (has s k.0)
  both_first = subst T (sym (b.has_two k.0)) (or_left (eqb k.0 k.0) (eqb k.0 k.1) (eqb_same k.0))

  pub both_second : T (has s k.1)
  both_second = subst T (sym (b.has_two k.1)) (or_right (eqb k.1 k.0) (eqb k.1 k.1) (eqb_same k.1))

  pub both_is : (f : ℕ) → T (has s f) → (f ≡ k.0) ⊎ (f ≡ k.1)
  both_is f h = ⊎_elim (λ x. inl (eqb_is f k.0 x)) (λ x. inr (eqb_is f k.1 x)) (or_cases (eqb f k.0) (eqb f k.1) (subst T (b.has_two f) h))

  pub both_all : (P : ℕ → Type 0) → P k.0 → P k.1 → (f : ℕ) → T (has s f) → P f
  both_all P x y f h = ⊎_elim (λ e. subst P (sym e) x) (λ e. subst P (sym e) y) (both_is f h)

-- the two facts of a set that has no others
is_both : (s : FactSet) (p q : ℕ) → T (has s p) → T (has s q) → ((f : ℕ) → T (has s f) → (f ≡ p) ⊎ (f ≡ q)) → Both s (p, q)
is_both s p q a b rest = record {
  has_two = λ f. same_tests
      (λ h. ⊎_elim (λ e. or_left (eqb f p) (eqb f q) (eqb_from e)) (λ e. or_right (eqb f p) (eqb f q) (eqb_from e)) (rest f h))
      (λ h. ⊎_elim (λ e. subst (λ x. T (has s x)) (sym (eqb_is f p e)) a) (λ e. subst (λ x. T (has s x)) (sym (eqb_is f q e)) b) (or_cases (eqb f p) (eqb f q) h));
}

is_only : (s : FactSet) (p : ℕ) → T (has s p) → ((f : ℕ) → T (has s f) → f ≡ p) → Only s p
is_only s p a rest = record {
  has_one = λ f. same_tests (λ h. eqb_from (rest f h)) (λ e. subst (λ x. T (has s x)) (sym (eqb_is f p e)) a);
}

-- few facts, and some that the start lacks
pub one_of_few : (s start : FactSet) → Few 1 s → (Within s start → ⊥) → (p : ℕ) × Only s p
one_of_few s start few out = from_list few.listed few.short few.whole
  where
    from_list : (l : List ℕ) → length l ≤ 1 → ((f : ℕ) → T (has s f) → Among f l) → (p : ℕ) × Only s p
    from_list [] short whole = absurd (out (λ f h. absurd (whole f h)))
    from_list (p ∷ []) short whole =
        let alone : (f : ℕ) → T (has s f) → f ≡ p = λ f h. ⊎_elim (λ e. e) (λ x. absurd x) (whole f h) in
        ⊎_elim (λ h. (p, is_only s p (from_true h) alone))
        (λ h. absurd (out (λ f here. absurd (not_both (subst (λ x. T (has s x)) (alone f here) here) h)))) (cases_Bool (has s p))
    from_list (p ∷ (q ∷ l)) short whole = absurd (omega arith)

two_facts : (s start : FactSet) (p q : ℕ) → ((f : ℕ) → T (has s f) → (f ≡ p) ⊎ (f ≡ q)) → (Within s start → ⊥) → (k : Two) × Both s k
two_facts s start p q rest out =
    let lacks : (x : ℕ) → has s x ≡ false → (f : ℕ) → T (has s f) → f ≡ x → ⊥ = λ x e f h is. not_both (subst (λ y. T (has s y)) is h) e in
    ⊎_elim
    (λ a. ⊎_elim
    (λ b. ((p, q), is_both s p q (from_true a) (from_true b) rest))
    (λ b. ((p, p), is_both s p p (from_true a) (from_true a) (λ f h. ⊎_elim (λ e. inl e) (λ e. absurd (lacks q b f h e)) (rest f h))))
    (cases_Bool (has s q)))
    (λ a. ⊎_elim
    (λ b. ((q, q), is_both s q q (from_true b) (from_true b) (λ f h. ⊎_elim (λ e. absurd (lacks p a f h e)) (λ e. inr e) (rest f h))))
    (λ b. absurd (out (λ f h. absurd (⊎_elim (lacks p a f h) (lacks q b f h) (rest f h)))))
    (cases_Bool (has s q)))
    (cases_Bool (has s p))

pub two_of_few : (s start : FactSet) → Few 2 s → (Within s start → ⊥) → (k : Two) × Both s k
two_of_few s start few out = from_list few.listed few.short few.whole
  where
    from_list : (l : List ℕ) → length l ≤ 2 → ((f : ℕ) → T (has s f) → Among f l) → (k : Two) × Both s k
    from_list [] short whole = absurd (out (λ f h. absurd (whole f h)))
    from_list (p ∷ []) short whole = two_facts s start p p (λ f h. ⊎_elim (λ e. inl e) (λ x. absurd x) (whole f h)) out
    from_list (p ∷ (q ∷ [])) short whole = two_facts s start p q (λ f h. ⊎_elim (λ e. inl e) (λ x. ⊎_elim (λ e. inr e) (λ y. absurd y) x) (whole f h)) out
    from_list (p ∷ (q ∷ (r ∷ l))) short whole = absurd (omega arith)

-- the facts of s that are no longer to come
abbrev pub Gone : FactSet → FactSet → ℕ → Type 0
Gone s left f = T (has s f) × (T (has left f) → ⊥)

-- what is gone after x has come, in a loop over a set
pub record Walked (s left after : FactSet) (x : ℕ) : Type 0 where
  pub within : Within after s
  pub more : (f : ℕ) → Gone s after f → Gone s left f ⊎ (f ≡ x)
  pub still : (f : ℕ) → Gone s left f → Gone s after f
  pub now : (f : ℕ) → f ≡ x → Gone s after f

pub walked : {s left after : FactSet} {x : ℕ} → Within left s → Next left (Some x) after → Walked s left after x
walked {s} {left} {after} {x} within next = record {
  within = λ f h. within f (and_left (has left f) (not (eqb f x)) (subst T (next.2 f) h));
  more = λ f gone. ⊎_elim
      (λ h. ⊎_elim (λ e. inr (eqb_is f x (from_true e)))
      (λ e. absurd (gone.1 (subst T (sym (next.2 f)) (and_both (has left f) (not (eqb f x)) (from_true h) (not_of (eqb f x) (λ t. not_both t e))))))
      (cases_Bool (eqb f x)))
      (λ h. inl (gone.0, λ t. not_both t h)) (cases_Bool (has left f));
  still = λ f gone. (gone.0, λ h. gone.1 (and_left (has left f) (not (eqb f x)) (subst T (next.2 f) h)));
  now = λ f e. subst (Gone s after) (sym e) (within x next.0, λ h. not_true (eqb x x) (and_right (has left x) (not (eqb x x)) (subst T (next.2 x) h)) (eqb_same x));
}

-- when nothing is to come, all are gone
pub record Over (s all left : FactSet) : Type 0 where
  pub only : (f : ℕ) → Gone all left f → T (has s f)
  pub whole : (f : ℕ) → T (has s f) → Gone all left f

pub over : {s all left : FactSet} → all ≡ s → ((f : ℕ) → has left f ≡ false) → Over s all left
over {s} {all} {left} is none = record {
  only = λ f gone. subst (λ x. T (has x f)) is gone.0;
  whole = λ f h. (subst (λ x. T (has x f)) (sym is) h, λ l. not_both l (none f));
}
