-- The places of a table: to which sets they belong, and what is read from them and tested of them.
use Rattle.std.specs.Prelude.{◌≡◌, ℕ, zero, suc, ◌+◌, ◌*◌, ◌/◌, ◌%◌, Bool, true, not, cond, ◌&&◌, ◌||◌, T, List, ◌==◌, nat_lt, slice_index_or, None}
use Rattle.facts.specs.Sets.{has}
use Rattle.facts.specs.declared.sets.FactSet.{FactSet}
use Rattle.tasks.specs.declared.moves.Move.{Move}
use Rattle.costs.specs.Estimates.{not_above}
use Rattle.costs.specs.Estimates.{Estimate}
use Rattle.costs.specs.declared.tally.Tally.{Ghosts}
use Rattle.bounds.specs.Sound.{NotAbove}
use Rattle.tables.specs.Equation.{Setting, offer_of}
use Rattle.tables.specs.Reading.{Only, Two, Both, highest, highest_two, estimate_by_singles, estimate_by_pairs, past}

-- the places K of a table
pub record Net (V : Type 0) (b : Setting) (K : Type 0) : Type 1 where
  -- how many facts the set of a place has at most
  pub size : ℕ
  -- how many places the table has, the number of a place, and the place of a number
  pub count : ℕ
  pub number : K → ℕ
  pub place : ℕ → K
  -- whether the table has the place
  pub present : K → Bool
  -- the place belongs to this set
  pub Names : K → FactSet → Type 0
  -- whether its set is a part of the other
  pub inside : FactSet → K → Bool
  -- the estimate of a set, from those of the places
  pub est : (K → Estimate V) → FactSet → Estimate V
  -- what more is asked of the places
  pub Further : (K → Estimate V) → Type 0
  -- the rules of one move, and what more is asked, as tests
  pub keeps_move : (K → Estimate V) → Move → Bool
  pub keeps_further : (K → Estimate V) → Bool

abbrev pub Present : {V K : Type 0} {b : Setting} → Net V b K → K → Type 0
Present n k = T (n.present k)

abbrev pub In : {V K : Type 0} {b : Setting} → Net V b K → FactSet → K → Type 0
In n s k = T (n.inside s k)

-- what a list has at the place; `out` at a missing one
unfoldable pub read : {V K X : Type 0} {b : Setting} → Net V b K → X → List X → K → X
read n out list k = cond (n.present k) (slice_index_or list (n.number k) out) out

-- a missing place counts as never
abbrev pub place_of : {V K : Type 0} {b : Setting} → Net V b K → List (Estimate V) → K → Estimate V
place_of n table = read n None table

-- the estimate of a set by a table
abbrev pub estimate_by : {V K : Type 0} {b : Setting} → Net V b K → List (Estimate V) → FactSet → Estimate V
estimate_by n table s = n.est (place_of n table) s

unfoldable pub every : ℕ → (ℕ → Bool) → Bool
every zero test = true
every (suc n) test = every n test && test n

-- the facts that a move makes and does not break
abbrev pub heads : Move → ℕ → Bool
heads m p = has m.makes p && not (has m.breaks p)

-- the facts that a move needs for one that it makes together with r
abbrev pub besides : Move → ℕ → ℕ → Bool
besides m r f = (f == r && not (has m.makes f)) || has m.needs f

-- place p belongs to fact p
abbrev pub singles : {V : Type 0} (tally : Ghosts V) (b : Setting) → Net V b ℕ
singles tally b = record {
  size = 1;
  count = b.facts;
  number = λ p. p;
  place = λ i. i;
  present = λ p. nat_lt p b.facts;
  Names = λ p s. Only s p;
  inside = has;
  est = estimate_by_singles tally;
  Further = λ val. Unit {0};
  keeps_move = λ val m. not_above tally.at_most (highest tally (heads m) val (past m.makes)) (offer_of tally b m (estimate_by_singles tally val m.needs));
  keeps_further = λ val. true;
}

-- a single is at most each pair with it, and a pair is the same either way round
pub record PairsAgree {V : Type 0} (tally : Ghosts V) (val : Two → Estimate V) : Type 0 where
  pub single : (p q : ℕ) → NotAbove tally (val (p, p)) (val (p, q))
  pub turned : (p q : ℕ) → val (p, q) ≡ val (q, p)

-- the estimate of what a move needs for a fact that it makes together with r
abbrev pub besides_estimate : {V : Type 0} → Ghosts V → (Two → Estimate V) → Move → ℕ → Estimate V
besides_estimate tally val m r = highest_two tally (besides m r) val (suc r + past m.needs)

-- the heads of a move beside r are at most what it offers for them
abbrev pub UnderOffer : {V : Type 0} → Ghosts V → Setting → (Two → Estimate V) → Move → ℕ → Type 0
UnderOffer tally b val m r = (p : ℕ) → T (heads m p) → NotAbove tally (val (p, r)) (offer_of tally b m (besides_estimate tally val m r))

-- the heads of a move beside r, a fact that it neither makes nor breaks
abbrev pub keeps_beside : {V : Type 0} → Ghosts V → Setting → (Two → Estimate V) → Move → ℕ → Bool
keeps_beside tally b val m r =
    (has m.breaks r || has m.makes r) || not_above tally.at_most (highest tally (heads m) (λ p. val (p, r)) (past m.makes)) (offer_of tally b m (besides_estimate tally val m r))

-- the same of one pair, as a test
abbrev pub agrees_at : {V : Type 0} → Ghosts V → (Two → Estimate V) → ℕ → ℕ → Bool
agrees_at tally val p q = not_above tally.at_most (val (p, p)) (val (p, q)) && not_above tally.at_most (val (p, q)) (val (q, p))

-- place p × F + q belongs to p and q
abbrev pub pairs : {V : Type 0} (tally : Ghosts V) (b : Setting) → Net V b Two
pairs tally b = record {
  size = 2;
  count = b.facts * b.facts;
  number = λ k. k.0 * b.facts + k.1;
  place = λ i. (i / b.facts, i % b.facts);
  present = λ k. nat_lt k.0 b.facts && nat_lt k.1 b.facts;
  Names = λ k s. Both s k;
  inside = λ s k. has s k.0 && has s k.1;
  est = estimate_by_pairs tally;
  Further = PairsAgree tally;
  keeps_move = λ val m.
      not_above tally.at_most (highest_two tally (heads m) val (past m.makes)) (offer_of tally b m (estimate_by_pairs tally val m.needs))
      && every b.facts (keeps_beside tally b val m);
  keeps_further = λ val. every b.facts (λ p. every b.facts (agrees_at tally val p));
}
