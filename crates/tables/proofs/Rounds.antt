-- The rounds in which the places of a table are settled, whatever its layout.
use Rattle.std.proofs.Common.{◌≡◌, ℕ, ◌<◌, ◌≤◌, Bool, true, false, T, ◌⊎◌, List, ◌++◌, length, get_or, set, replicate, Some, None, Option, sym, refl, ap, ◌∙◌, subst, inl, inr, ⊎_elim, arith}
use Rattle.std.proofs.Math.ListN.{get_or-append}
use Rattle.std.proofs.lemmas.Bool.{cases_Bool, cond-true, cond-false}
use Rattle.facts.proofs.Tests.{from_true, to_true, not_both}
use Rattle.tasks.proofs.Places.{at_less}
use Rattle.costs.specs.Estimates.{Estimate}
use Rattle.costs.specs.declared.tally.Tally.{Ghosts}
use Rattle.bounds.specs.Sound.{NotAbove}
use Rattle.tables.specs.Equation.{Setting}
use Rattle.tables.specs.Laid.{Laid, Known}
use Rattle.tables.specs.Nets.{Net, Present, read, place_of}
use Rattle.tables.specs.Rules.{Rules}
use Rattle.tables.specs.Settling.{Start, Sure, unreached, begun, Settling, Turned, Before, Begun, Cheapest, touches}
use Rattle.tables.specs.Worked.{WorkedOut}
use Rattle.tables.proofs.Cells.{inside, outside, place_or_not, others, written, none_done}
use Rattle.tables.proofs.Engine.{round_first, round_begins, round_ends, ends}
use Rattle.tables.proofs.Order as order
use Rattle.tables.proofs.Order.{LawsOf}
use Rattle.tables.proofs.Solutions.{present_or_not, nil_start, closed_all, greatest}

module _ {V K : Type 0} {tally : Ghosts V} {b : Setting} (n : Net V b K) (laws : LawsOf tally) (laid : Laid tally n) where
  abbrev value : List (Estimate V) → K → Estimate V
  value table = place_of n table

  -- the places that are settled
  abbrev pub Done : List Bool → K → Bool
  Done done = read n false done

  -- all moves are taken, after one place is settled or none
  abbrev pub Round : Option K → List (Estimate V) → List (Estimate V) → Type 0
  Round settled old new = Turned tally n (λ t. touches (n.inside t) settled) (Before 0) (Before (length b.moves)) (value old) (value new)

  module _ (table : List (Estimate V)) (wrote : Begun tally n table) where
    wrote_at : (k : K) → Present n k → (e : Estimate V) → ((n.inside b.start k ≡ true) × (e ≡ Some tally.nil)) ⊎ ((n.inside b.start k ≡ false) × (e ≡ None)) → value table k ≡ e
    wrote_at k p e which =
        let start : K → Bool = λ i. n.inside b.start i in
        inside n None table k p ∙ wrote (n.number k) (laid.numbers.below k p)
        ∙ ⊎_elim (λ w. cond-true _ _ _ (ap start (laid.numbers.placed k p) ∙ w.0) ∙ sym w.1) (λ w. cond-false _ _ _ (ap start (laid.numbers.placed k p) ∙ w.0) ∙ sym w.1) which

    -- nil in the start, never elsewhere
    begin_cases : (k : K) → Start n k ⊎ (value table k ≡ None)
    begin_cases k = ⊎_elim
        (λ p. ⊎_elim (λ e. inl (p, from_true e)) (λ e. inr (wrote_at k p None (inr (e, refl)))) (cases_Bool (n.inside b.start k)))
        (λ out. inr (outside n None table k out)) (present_or_not n k)

    nil_at : (k : K) → Start n k → value table k ≡ Some tally.nil
    nil_at k w = wrote_at k w.0 (Some tally.nil) (inl (to_true w.1, refl))

    sure_first : Sure tally n (value table)
    sure_first = record {
      above = λ h u k. ⊎_elim
          (λ w. subst (λ x. NotAbove tally (h k) x) (sym (nil_at k w)) (u.begun k w))
          (λ e. subst (λ x. NotAbove tally (h k) x) (sym e) (order.top laws (h k))) (begin_cases k);
      backed = λ y. ⊎_elim (λ w. begun w) (λ e. unreached e) (begin_cases y);
      begun = nil_at;
      absent = λ k out. outside n None table k out;
    }

    none_settled : (many : ℕ) (k : K) → Done (replicate many false) k ≡ false
    none_settled many k = ⊎_elim (λ p. inside n false (replicate many false) k p ∙ none_done many (n.number k)) (λ out. outside n false (replicate many false) k out) (present_or_not n k)

    -- the first round, in which no place is settled
    pub first_round : (many : ℕ) (new : List (Estimate V)) → Round None table new → Settling tally n (value new) (Done (replicate many false))
    first_round many new r =
        let done = Done (replicate many false) in
        round_ends n laws laid.tops (λ t. touches (n.inside t) None) done (Some tally.nil) (Before (length b.moves)) (value new) (λ j m y t st. at_less st.at)
        (r.runs done (Some tally.nil)
        (round_first n laws laid.tops (λ t. touches (n.inside t) None) done (Before 0) (value table) sure_first (λ t. tt) (none_settled many) (λ j y l. omega arith)))

  -- a round, in which the place of number u is settled
  module _ (old new : List (Estimate V)) (done : List Bool) (u : ℕ) (whole : length old ≡ n.count) (enough : n.count ≤ length done) (picked : Cheapest tally done old u) where
    in_table : u < n.count
    in_table = omega (arith, picked.inside, whole)

    abbrev here : K
    here = n.place u

    here_present : Present n here
    here_present = laid.numbers.present u in_table

    is_u : n.number here ≡ u
    is_u = laid.numbers.numbered u in_table

    least_at : (v : K) → Done done v ≡ false → NotAbove tally (value old here) (value old v)
    least_at v d =
        ⊎_elim
        (λ p. subst (λ x. NotAbove tally x (value old v)) (sym (inside n None old here here_present ∙ ap (λ i. get_or old i None) is_u))
        (subst (λ x. NotAbove tally (get_or old u None) x) (sym (inside n None old v p))
        (picked.least (n.number v) (omega (arith, laid.numbers.below v p, whole)) (sym (inside n false done v p) ∙ d))))
        (λ out. subst (λ x. NotAbove tally (value old here) x) (sym (outside n None old v out)) (order.top laws (value old here)))
        (present_or_not n v)

    set_here : set done u true ≡ set done (n.number here) true
    set_here = ap (λ i. set done i true) (sym is_u)

    marked : Done (set done u true) here ≡ true
    marked = ap (λ d. Done d here) set_here ∙ written n laid.numbers false true done here here_present enough

    unmarked : (k : K) → (k ≡ here → ⊥) → Done (set done u true) k ≡ Done done k
    unmarked k ne = ap (λ d. Done d k) set_here ∙ others n laid.numbers false true done k here here_present ne

    pub next_round : Settling tally n (value old) (Done done) → Round (Some here) old new → Settling tally n (value new) (Done (set done u true))
    next_round s r =
        let more : K → Bool = Done (set done u true) in
        round_ends n laws laid.tops (λ t. n.inside t here) more (value old here) (Before (length b.moves)) (value new) (λ j m y t st. at_less st.at)
        (r.runs more (value old here) (round_begins n laws laid.tops (λ t. n.inside t here) (Done done) more (Before 0) (value old) here s
        (inside n false done here here_present ∙ ap (λ i. get_or done i false) is_u ∙ picked.undone) least_at (from_true marked)
        (λ k h. ⊎_elim (λ e. inl e) (λ ne. inr (subst T (unmarked k ne) h)) (place_or_not n laid.numbers k here here_present))
        (λ k h. ⊎_elim (λ e. absurd (not_both (from_true (ap more e ∙ marked)) h)) (λ ne. sym (unmarked k ne) ∙ h) (place_or_not n laid.numbers k here here_present))
        (λ t f. f) (λ t i. i) (λ j y l. omega arith)))

  -- when no open place has a value
  pub last_round : (table : List (Estimate V)) (done : List Bool) → length table ≡ n.count → Settling tally n (value table) (Done done)
      → ((v : ℕ) → v < length table → get_or done v false ≡ false → get_or table v None ≡ None) → Known b → WorkedOut tally n table
  last_round table done whole s out known =
      let never : (k : K) → Done done k ≡ false → value table k ≡ None =
      λ k d. ⊎_elim (λ p. inside n None table k p ∙ out (n.number k) (omega (arith, laid.numbers.below k p, whole)) (sym (inside n false done k p) ∙ d)) (λ off. outside n None table k off) (present_or_not n k) in
      let closed = ends n laws laid.tops (value table) (Done done) s never in
      let further = laid.further known (value table) s.sure closed in
      let own_is = laid.own (value table) further in
      record {
        est = n.est (value table);
        greatest = greatest n laws laid.tops laid.shape known (value table) s.sure closed own_is;
        holds = λ k s p names. sym (own_is k s names ∙ inside n None table k p);
        rules = record {
          start = nil_start n laws laid.tops laid.shape known (value table) s.sure closed;
          moves = closed_all n laws laid.tops laid.shape known (value table) s.sure closed;
          further = further;
        };
        reads = λ s. refl;
      }

  -- a table with more places after those of the layout
  pub longer : (table rest : List (Estimate V)) → length table ≡ n.count → WorkedOut tally n table → WorkedOut tally n (table ++ rest)
  longer table rest whole t =
      let at : (k : K) → Present n k → get_or (table ++ rest) (n.number k) None ≡ get_or table (n.number k) None =
      λ k p. get_or-append table rest None (n.number k) (omega (arith, laid.numbers.below k p, whole)) in
      let same_at : (k : K) → value (table ++ rest) k ≡ value table k = λ k. ⊎_elim
      (λ p. inside n None (table ++ rest) k p ∙ at k p ∙ sym (inside n None table k p))
      (λ off. outside n None (table ++ rest) k off ∙ sym (outside n None table k off)) (present_or_not n k) in
      let same : value (table ++ rest) ≡ value table = λ i k. same_at k i in
      record {
        est = t.est;
        greatest = t.greatest;
        holds = λ k s p names. at k p ∙ t.holds k s p names;
        rules = subst (Rules tally n) (sym same) t.rules;
        reads = λ s. ap (λ val. n.est val s) same ∙ t.reads s;
      }
