-- Canonical decimals of at most five digits.
use Rattle.std.proofs.Common.{◌≡◌, ℕ, ◌+◌, ◌-◌, ◌*◌, ◌<◌, ◌≤◌, List, length, get_or, take, decimal, sym, ap, ◌∙◌, subst, ⊎_elim, arith}
use Rattle.std.specs.Str.Parse.{AllDigits, digits_value as value}
use Rattle.std.specs.Int.{IsInRange}
use Rattle.std.proofs.lemmas.Fmt.{decimal-digits_value, decimal_digit, decimal_nonempty, length-decimal-le, first_decimal, digits_decimal, decimal_injective}
use Rattle.std.proofs.lemmas.Int.Digits.{digits_more, digits_value_more}
use Rattle.std.proofs.lemmas.List.{take_all, length-take}
use Rattle.std.proofs.lemmas.Str.Parse.{IsNumeralModel, numerals_by_value, tells_digits, digits_value_short, digit_at}
use Rattle.std.proofs.lemmas.Str.{digit_value_digit}
use Rattle.std.proofs.str.Laws.{order}
use Rattle.taskfile.specs.Values.{Numeral}

own : IsNumeralModel (AllDigits 10) (value 10)
own = numerals_by_value (AllDigits 10) tells_digits

-- the front of v of length i is digits, and n is their value
pub record Sofar (v : List ℕ) (i n : ℕ) : Type 0 where
  pub digits : AllDigits 10 (take i v)
  pub value : n ≡ value 10 (take i v)

pub sofar_more : (v : List ℕ) (i n m : ℕ) → Sofar v i n → i < length v → IsInRange 48 57 (get_or v i 0) → m ≡ n * 10 + (get_or v i 0 - 48) → Sofar v (i + 1) m
sofar_more v i n m s h d e =
    let one = digit_value_digit (get_or v i 0) d in
    let more = digits_value_more 10 v i h in
    record {
      digits = digits_more 10 v i h s.digits (omega arith);
      value = omega (arith, s.value, more);
    }

short_front : (v : List ℕ) (i : ℕ) → i ≤ 4 → length (take i v) ≤ 4
short_front v i h = omega (arith, length-take i v)

pub sofar_small : (v : List ℕ) (i n : ℕ) → Sofar v i n → i ≤ 4 → n < 10000
sofar_small v i n s h = omega (arith, s.value, digits_value_short own (take i v) 4 s.digits (short_front v i h))

pub is_numeral : (v : List ℕ) (i n : ℕ) → Sofar v i n → length v ≤ i → 0 < length v → length v ≤ 5 → (get_or v 0 0 ≡ 48 → length v ≡ 1) → Numeral v n
is_numeral v i n s end some short lead =
    let d = subst (AllDigits 10) (take_all i v end) s.digits in
    let e : n ≡ value 10 v = s.value ∙ ap (value 10) (take_all i v end) in
    let lt = digits_value_short own v 5 d short in
    record {
      short = omega arith;
      digits = sym (ap decimal e ∙ decimal-digits_value own v d some lead (omega arith));
    }

-- what a numeral looks like
pub record Looks (v : List ℕ) : Type 0 where
  pub some : 0 < length v
  pub short : length v ≤ 5
  pub lead : get_or v 0 0 ≡ 48 → length v ≡ 1
  pub digit : (i : ℕ) → i < length v → IsInRange 48 57 (get_or v i 0)

written_looks : (n : ℕ) → n < 100000 → Looks (decimal n)
written_looks n h = record {
  some = decimal_nonempty n (omega arith);
  short = length-decimal-le 5 n (omega arith) (omega arith) (omega arith);
  lead = λ e. ⊎_elim
      (λ (p : 0 < n). let f = first_decimal n p (omega arith) in absurd (omega arith))
      (λ (p : n ≤ 0). ap length (decimal_digit n (omega arith)))
      (order 0 n);
  digit = λ i lt. digit_at (decimal n) i (digits_decimal own n (omega arith)) lt;
}

pub looks : (v : List ℕ) (n : ℕ) → Numeral v n → Looks v
looks v n m = subst Looks (sym m.digits) (written_looks n m.short)

-- a text writes one number at most
pub same_numeral : (v : List ℕ) (m n : ℕ) → Numeral v m → Numeral v n → m ≡ n
same_numeral v m n p q =
    let a = p.short in
    let b = q.short in
    decimal_injective m n (omega arith) (omega arith) (sym p.digits ∙ q.digits)
