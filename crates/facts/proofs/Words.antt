-- What the operations on words do to each bit.
use Rattle.std.proofs.Common.{◌≡◌, ℕ, zero, suc, ◌+◌, ◌-◌, ◌/◌, ◌%◌, ◌^◌, ◌<◌, ◌≤◌, min, max, Bool, true, false, not, ◌&&◌, ◌||◌, T, eqb, ◌⊎◌, Decides, sym, refl, ap, ◌∙◌, subst, inl, inr, ⊎_elim, pow-suc, div-one, mul-div_cancel, one-add, arith}
use native.Mathlib.Nat.{div-eq_of_lt, zero-div, div_self, pow-le-pow_right}
use lib.Bits.{bit_and, bit_or, bit_xor, and_le_l, or_step, and_step, xor_add_and}
use lib.Count.{ones, ones_step, count_trailing_zeros, under}
use Rattle.std.proofs.lemmas.Nat.{pow_below, pow_pos, shr-shr, shr_le, or_shr, and_shr, xor_shr, pow-add}
use Rattle.std.proofs.lemmas.Bool.{cases_lt, cases_order}
use Rattle.std.proofs.lemmas.Bool.Decides.{nat_tests}
use Rattle.facts.specs.Words.{bit}
use Rattle.facts.proofs.Tests.{from_true, to_true, not_both, and_left, and_right, and_both}

-- a word below 2 ^ k has no bit from k on
pub bit_past : (w k f : ℕ) → w < 2 ^ k → k ≤ f → bit w f ≡ false
unfolding bit
bit_past w k f h l =
    let more : 2 ^ k ≤ 2 ^ f = pow-le-pow_right (omega arith) l in
    let small : w < 2 ^ f = omega arith in
    rw (div-eq_of_lt {n = w} {m = 2 ^ f} small) refl

pub bit_inside : (w k f : ℕ) → w < 2 ^ k → T (bit w f) → f < k
bit_inside w k f h here = ⊎_elim (λ l. l) (λ l. absurd (not_both here (bit_past w k f h l))) (cases_lt f k)

pub bit_none : (f : ℕ) → bit 0 f ≡ false
unfolding bit
bit_none f = rw zero-div refl

-- 2 ^ p has bit p, and no other
bit_own : (p : ℕ) → bit (2 ^ p) p ≡ true
unfolding bit
bit_own p = rw (div_self {n = 2 ^ p} (pow_pos p)) refl

lower_digit : (f d : ℕ) → bit (2 ^ (suc d + f)) f ≡ false
unfolding bit
lower_digit f d = rw (pow-add, mul-div_cancel (2 ^ suc d) {n = 2 ^ f} (pow_pos f), pow-suc) (grind (arith, nat_tests))

bit_other : (p f : ℕ) → (f ≡ p → ⊥) → bit (2 ^ p) f ≡ false
bit_other p f ne =
    ⊎_elim (λ e. absurd (ne e))
    (⊎_elim (λ l. let e : suc (p - f - 1) + f ≡ p = omega arith in subst (λ x. bit (2 ^ x) f ≡ false) e (lower_digit f (p - f - 1)))
    (λ l. bit_past (2 ^ p) f f (pow_below p f l) (omega arith)))
    (cases_order f p)

equal_or_not : (f p : ℕ) → ((f ≡ p) × (eqb f p ≡ true)) ⊎ ((f ≡ p → ⊥) × (eqb f p ≡ false))
equal_or_not f p = ⊎_elim (λ e. inl (e, grind (arith, nat_tests)))
    (⊎_elim (λ l. inr ((λ e. omega arith), grind (arith, nat_tests))) (λ l. inr ((λ e. omega arith), grind (arith, nat_tests)))) (cases_order f p)

pub bit_power : (p f : ℕ) → bit (2 ^ p) f ≡ eqb f p
bit_power p f = ⊎_elim (λ h. subst (λ x. bit (2 ^ p) x ≡ true) (sym h.0) (bit_own p) ∙ sym h.1)
    (λ h. bit_other p f h.0 ∙ sym h.1) (equal_or_not f p)

-- the bits of a half
pub bit_half : (w f : ℕ) → bit (w / 2) f ≡ bit w (suc f)
unfolding bit
bit_half w f = let e : w / 2 / 2 ^ f ≡ w / 2 ^ suc f = shr-shr w 1 f ∙ ap (λ x. w / 2 ^ x) (one-add f) in rw e refl

pub bit_low : (w : ℕ) → bit w 0 ≡ eqb (w % 2) 1
unfolding bit
bit_low w = simp div-one

odd : (v w : ℕ) → bit v 0 ≡ bit w 0 → v % 2 ≡ w % 2
odd v w e =
    let same : eqb (v % 2) 1 ≡ eqb (w % 2) 1 = sym (bit_low v) ∙ e ∙ bit_low w in
    let a : v % 2 < 2 = omega arith in
    let b : w % 2 < 2 = omega arith in
    grind (arith, nat_tests)

-- words with the same bits are equal
same_below : (n v w : ℕ) → v + w ≤ n → ((f : ℕ) → bit v f ≡ bit w f) → v ≡ w
same_below zero v w h e = omega arith
same_below (suc n) v w h e =
    let low = odd v w (e 0) in
    let high = same_below n (v / 2) (w / 2) (omega arith) (λ f. bit_half v f ∙ e (suc f) ∙ sym (bit_half w f)) in
    omega arith

pub same_bits : (v w : ℕ) → ((f : ℕ) → bit v f ≡ bit w f) → v ≡ w
same_bits v w e = same_below (v + w) v w (omega arith) e

-- or, and, xor
or_digit : (a b : ℕ) → a < 2 → b < 2 → eqb (max a b) 1 ≡ (eqb a 1 || eqb b 1)
or_digit a b p q = grind (arith, nat_tests)

and_digit : (a b : ℕ) → a < 2 → b < 2 → eqb (min a b) 1 ≡ (eqb a 1 && eqb b 1)
and_digit a b p q = grind (arith, nat_tests)

or_odd : (v w : ℕ) → eqb (bit_or v w % 2) 1 ≡ (eqb (v % 2) 1 || eqb (w % 2) 1)
or_odd v w =
    let e : bit_or v w % 2 ≡ max (v % 2) (w % 2) = omega (arith, or_step v w) in
    ap (λ z. eqb z 1) e ∙ or_digit (v % 2) (w % 2) (omega arith) (omega arith)

and_odd : (v w : ℕ) → eqb (bit_and v w % 2) 1 ≡ (eqb (v % 2) 1 && eqb (w % 2) 1)
and_odd v w =
    let e : bit_and v w % 2 ≡ min (v % 2) (w % 2) = omega (arith, and_step v w) in
    ap (λ z. eqb z 1) e ∙ and_digit (v % 2) (w % 2) (omega arith) (omega arith)

pub bit_of_or : (v w f : ℕ) → bit (bit_or v w) f ≡ (bit v f || bit w f)
unfolding bit
bit_of_or v w f = ap (λ z. eqb (z % 2) 1) (or_shr v w f) ∙ or_odd (v / 2 ^ f) (w / 2 ^ f)

pub bit_of_and : (v w f : ℕ) → bit (bit_and v w) f ≡ (bit v f && bit w f)
unfolding bit
bit_of_and v w f = ap (λ z. eqb (z % 2) 1) (and_shr v w f) ∙ and_odd (v / 2 ^ f) (w / 2 ^ f)

-- v less the bits that it shares with w
less_digit : (a b : ℕ) → a < 2 → b < 2 → eqb (a - b) 1 ≡ (eqb a 1 && not (eqb b 1))
less_digit a b p q = grind (arith, nat_tests)

less_odd : (v w : ℕ) → bit_xor v (bit_and v w) % 2 ≡ v % 2 - w % 2
less_odd v w = omega (arith, and_step v w, and_step v (bit_and v w), xor_add_and v (bit_and v w))

pub bit_of_less : (v w f : ℕ) → bit (bit_xor v (bit_and v w)) f ≡ (bit v f && not (bit w f))
unfolding bit
bit_of_less v w f =
    let x = v / 2 ^ f in
    let y = w / 2 ^ f in
    ap (λ z. eqb (z % 2) 1) (xor_shr v (bit_and v w) f ∙ ap (λ z. bit_xor x z) (and_shr v w f)) ∙ ap (λ z. eqb z 1) (less_odd x y)
    ∙ less_digit (x % 2) (y % 2) (omega arith) (omega arith)

-- the lowest bit
trailing_even : (k w : ℕ) → w % 2 ≡ 0 → count_trailing_zeros (suc k) w ≡ suc (count_trailing_zeros k (w / 2))
unfolding count_trailing_zeros
trailing_even k w e = ap (λ d. under d (count_trailing_zeros k (w / 2))) e

trailing_odd : (k w : ℕ) → w % 2 ≡ 1 → count_trailing_zeros (suc k) w ≡ 0
unfolding count_trailing_zeros
trailing_odd k w e = ap (λ d. under d (count_trailing_zeros k (w / 2))) e

pub parity : (w : ℕ) → (w % 2 ≡ 0) ⊎ (w % 2 ≡ 1)
parity w = ⊎_elim (λ l. inl (omega arith)) (λ l. inr (omega arith)) (cases_lt (w % 2) 1)

pub lowest_set : (k w : ℕ) → 0 < w → w < 2 ^ k → T (bit w (count_trailing_zeros k w))
lowest_set zero w p q = absurd (omega arith)
lowest_set (suc k) w p q = ⊎_elim
    (λ e. let h = lowest_set k (w / 2) (omega arith) (omega (arith, pow-suc 2 k)) in
    subst (λ x. T (bit w x)) (sym (trailing_even k w e)) (subst T (bit_half w (count_trailing_zeros k (w / 2))) h))
    (λ e. subst (λ x. T (bit w x)) (sym (trailing_odd k w e)) (from_true (bit_low w ∙ ap (λ z. eqb z 1) e)))
    (parity w)

pub lowest_least : (k w f : ℕ) → T (bit w f) → f < k → count_trailing_zeros k w ≤ f
lowest_least zero w f h l = absurd (omega arith)
lowest_least (suc k) w zero h l = ⊎_elim
    (λ e. absurd (not_both h (bit_low w ∙ ap (λ z. eqb z 1) e)))
    (λ e. omega (arith, trailing_odd k w e)) (parity w)
lowest_least (suc k) w (suc f) h l = ⊎_elim
    (λ e. omega (arith, trailing_even k w e, lowest_least k (w / 2) f (subst T (sym (bit_half w f)) h) (omega arith)))
    (λ e. omega (arith, trailing_odd k w e)) (parity w)

-- a word with one bit less has one bit less to count
not_zero_suc : (f : ℕ) → eqb (suc f) 0 ≡ false
not_zero_suc f = grind (arith, nat_tests)

zero_not_suc : (p : ℕ) → eqb 0 (suc p) ≡ false
zero_not_suc p = grind (arith, nat_tests)

suc_same : (f p : ℕ) → eqb (suc f) (suc p) ≡ eqb f p
suc_same f p = grind (arith, nat_tests)

and_true : (a : Bool) → (a && true) ≡ a
and_true true = refl
and_true false = refl

and_false : (a : Bool) → (a && false) ≡ false
and_false true = refl
and_false false = refl

pub one_fewer : (p v w : ℕ) → T (bit w p) → ((f : ℕ) → bit v f ≡ (bit w f && not (eqb f p))) → suc (ones v) ≡ ones w
one_fewer zero v w h e =
    let high : v / 2 ≡ w / 2 = same_bits (v / 2) (w / 2)
    (λ f. bit_half v f ∙ e (suc f) ∙ ap (λ b. bit w (suc f) && not b) (not_zero_suc f) ∙ and_true (bit w (suc f)) ∙ sym (bit_half w f)) in
    let set : eqb (w % 2) 1 ≡ true = sym (bit_low w) ∙ to_true h in
    let clear : eqb (v % 2) 1 ≡ false = sym (bit_low v) ∙ e 0 ∙ and_false (bit w 0) in
    let a : v % 2 ≡ 0 = let s : v % 2 < 2 = omega arith in grind (arith, nat_tests) in
    let b : w % 2 ≡ 1 = grind (arith, nat_tests) in
    omega (arith, ones_step v, ones_step w, ap ones high)
one_fewer (suc p) v w h e =
    let low : v % 2 ≡ w % 2 = odd v w (e 0 ∙ ap (λ b. bit w 0 && not b) (zero_not_suc p) ∙ and_true (bit w 0)) in
    let rest = one_fewer p (v / 2) (w / 2) (subst T (sym (bit_half w p)) h)
    (λ f. bit_half v f ∙ e (suc f) ∙ ap (λ b. bit w (suc f) && not b) (suc_same f p) ∙ ap (λ b. b && not (eqb f p)) (sym (bit_half w f))) in
    omega (arith, ones_step v, ones_step w)

-- tests of whole words
second : (a b : Bool) → (a && b) ≡ a → T a → T b
second true b e h = from_true e
second false b e h = absurd h

absorbs : (a b : Bool) → (T a → T b) → (a && b) ≡ a
absorbs true b h = to_true (h tt)
absorbs false b h = refl

nonzero : (w f : ℕ) → T (bit w f) → T (not (eqb w 0))
nonzero w f h = ⊎_elim (λ e. absurd (not_both (subst (λ x. T (bit x f)) e.0 h) (bit_none f)))
    (λ e. from_true (ap not e.1)) (equal_or_not w 0)

pub covers : (v w : ℕ) → Decides (eqb (bit_and v w) v) ((f : ℕ) → T (bit v f) → T (bit w f))
covers v w = (
  (λ e f h. let same : bit_and v w ≡ v = grind (arith, nat_tests) in
      let both : (bit v f && bit w f) ≡ bit v f = sym (bit_of_and v w f) ∙ ap (λ z. bit z f) same in
      second (bit v f) (bit w f) both h),
  (λ h. let same : bit_and v w ≡ v = same_bits (bit_and v w) v (λ f. bit_of_and v w f ∙ absorbs (bit v f) (bit w f) (h f)) in grind (arith, nat_tests)),
)

pub shares : (v w : ℕ) → v < 2 ^ 64 → Decides (not (eqb (bit_and v w) 0)) ((f : ℕ) × T (bit v f) × T (bit w f))
shares v w fits = (
  (λ e. let some : 0 < bit_and v w = grind (arith, nat_tests) in
      let low = count_trailing_zeros 64 (bit_and v w) in
      let here : T (bit v low && bit w low) = subst T (bit_of_and v w low) (lowest_set 64 (bit_and v w) some (omega (arith, and_le_l v w))) in
      (low, and_left (bit v low) (bit w low) here, and_right (bit v low) (bit w low) here)),
  (λ h. let here : T (bit (bit_and v w) h.0) = subst T (sym (bit_of_and v w h.0)) (and_both (bit v h.0) (bit w h.0) h.1 h.2) in
      to_true (nonzero (bit_and v w) h.0 here)),
)

-- the bits from k on are those of the shifted word
shifted : (w k f : ℕ) → bit (w / 2 ^ k) f ≡ bit w (k + f)
unfolding bit
shifted w k f = ap (λ z. eqb (z % 2) 1) (shr-shr w k f)

pub some_from : (w k : ℕ) → w < 2 ^ 64 → Decides (not (eqb (w / 2 ^ k) 0)) ((f : ℕ) × T (bit w f) × (k ≤ f))
some_from w k fits = (
  (λ e. let some : 0 < w / 2 ^ k = grind (arith, nat_tests) in
      let low = count_trailing_zeros 64 (w / 2 ^ k) in
      (k + low, subst T (shifted w k low) (lowest_set 64 (w / 2 ^ k) some (omega (arith, shr_le w k))), omega arith)),
  (λ h. let place : k + (h.0 - k) ≡ h.0 = omega (arith, h.2) in
      to_true (nonzero (w / 2 ^ k) (h.0 - k) (subst T (sym (shifted w k (h.0 - k))) (subst (λ x. T (bit w x)) (sym place) h.1)))),
)

-- a word that is not 0 has a bit, at any width
some_bit : (n w : ℕ) → w ≤ n → 0 < w → (f : ℕ) × T (bit w f)
some_bit zero w h p = absurd (omega arith)
some_bit (suc n) w h p = ⊎_elim
    (λ e. let half = some_bit n (w / 2) (omega arith) (omega arith) in (suc half.0, subst T (bit_half w half.0) half.1))
    (λ e. (0, from_true (bit_low w ∙ ap (λ d. eqb d 1) e))) (parity w)

pub any_shared : (v w : ℕ) → ((f : ℕ) × T (bit v f) × T (bit w f)) ⊎ (((f : ℕ) × T (bit v f) × T (bit w f)) → ⊥)
any_shared v w = ⊎_elim
    (λ l. inr (λ h. let none : bit_and v w ≡ 0 = omega arith in
    not_both (subst T (sym (bit_of_and v w h.0)) (and_both (bit v h.0) (bit w h.0) h.1 h.2)) (ap (λ z. bit z h.0) none ∙ bit_none h.0)))
    (λ l. let found = some_bit (bit_and v w) (bit_and v w) (omega arith) (omega arith) in
    let here : T (bit v found.0 && bit w found.0) = subst T (bit_of_and v w found.0) found.1 in
    inl (found.0, and_left (bit v found.0) (bit w found.0) here, and_right (bit v found.0) (bit w found.0) here))
    (cases_lt (bit_and v w) 1)
