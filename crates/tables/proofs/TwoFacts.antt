-- Pairs of facts as the places of a table.
use Rattle.std.proofs.Common.{◌≡◌, ◌↔◌, IsTrue, ℕ, suc, ◌+◌, ◌*◌, ◌/◌, ◌%◌, ◌<◌, ◌≤◌, Bool, true, false, not, ◌&&◌, ◌||◌, T, eqb, ltb, ◌⊎◌, [], ◌∷◌, Some, None, Option, Decides, sym, refl, ap, ◌∙◌, subst, inl, inr, ⊎_elim, arith}
use Rattle.std.proofs.lemmas.Nat.{div-add-mod', div_below, mod_below, div-mul-add, mod-mul-add, mul-add-lt, mul-le}
use Rattle.std.proofs.lemmas.Bool.{cases_Bool, cases_eq, cases_lt}
use Rattle.facts.specs.Sets.{has}
use Rattle.facts.specs.declared.sets.FactSet.{FactSet}
use Rattle.facts.proofs.Members.{same_facts}
use Rattle.facts.proofs.Tests.{from_true, not_both, and_left, and_right, and_both, or_left, or_right, or_cases, not_of, not_true, same_tests}
use Rattle.tasks.specs.Moves.{Regresses}
use Rattle.tasks.specs.Places.{At}
use Rattle.tasks.specs.declared.moves.Move.{Move}
use Rattle.tasks.proofs.Places.{at_same}
use Rattle.tasks.proofs.Bearing.{regresses_swaps, regresses_same, swap_added, swap_kept, swapped}
use Rattle.costs.specs.Estimates.{Estimate}
use Rattle.costs.specs.declared.tally.Tally.{Ghosts}
use Rattle.bounds.specs.Sound.{NotAbove}
use Rattle.tables.specs.Equation.{Setting, offer_of}
use Rattle.tables.specs.Laid.{Shape, Numbered, Tops, Known, Closed, Laid}
use Rattle.tables.specs.Nets.{pairs, Present, heads, besides, besides_estimate, UnderOffer, PairsAgree, keeps_beside}
use Rattle.tables.specs.Reading.{Two, Both, Top, highest_two, estimate_by_pairs, past}
use Rattle.tables.specs.Rules.{Rules, keeps}
use Rattle.tables.specs.Settling.{Step, via, Backed, unreached, begun, stepped, Sure, Relaxing, Turned, Before, Lowers, touches, both, Beside}
use Rattle.tables.proofs.Decisions.{decides_test, decides_like, decides_and, decides_or_not, decides_every, top_tells}
use Rattle.tables.proofs.Engine.{moved_by, relaxed, seen_more, est_same, via_above, via_mono_est, via_never}
use Rattle.tables.proofs.Falls.{lowers_keeps}
use Rattle.tables.proofs.Keeping.{keeps_tells}
use Rattle.tables.proofs.OneFact.{head_parts, head_from, heads_top, below, from_below}
use Rattle.tables.proofs.Order as order
use Rattle.tables.proofs.Order.{LawsOf}
use Rattle.tables.proofs.Solutions.{est_grows, nil_start, closed_all}
use Rattle.tables.proofs.Subsets.{own, own_only, own_two, own_both, both_same, both_first, both_second, both_is, both_all, both_turned, two_of_few, eqb_is, eqb_from, has_past}
use Rattle.tables.proofs.Tops.{pairs_top, two_top, top_like, top_sole}

pub same_two : (k : Two) (p q : ℕ) → k.0 ≡ p → k.1 ≡ q → k ≡ (p, q)
same_two k p q a b = λ i. (a i, b i)

-- inside the table or not
two_cases : (facts : ℕ) (k : Two) → ((k.0 < facts) × (k.1 < facts)) ⊎ ((facts ≤ k.0) ⊎ (facts ≤ k.1))
two_cases facts k = ⊎_elim (λ a. ⊎_elim (λ b. inl (a, b)) (λ b. inr (inr b)) (cases_lt k.1 facts)) (λ a. inr (inl a)) (cases_lt k.0 facts)

pub in_table : (facts : ℕ) (k : Two) → T (ltb k.0 facts && ltb k.1 facts) → (k.0 < facts) × (k.1 < facts)
in_table facts k p = (below facts k.0 (and_left (ltb k.0 facts) (ltb k.1 facts) p), below facts k.1 (and_right (ltb k.0 facts) (ltb k.1 facts) p))

pub from_table : (facts : ℕ) (k : Two) → k.0 < facts → k.1 < facts → T (ltb k.0 facts && ltb k.1 facts)
from_table facts k l m = and_both (ltb k.0 facts) (ltb k.1 facts) (from_below facts k.0 l) (from_below facts k.1 m)

not_present : (facts : ℕ) (k : Two) → (T (ltb k.0 facts && ltb k.1 facts) → ⊥) → (facts ≤ k.0) ⊎ (facts ≤ k.1)
not_present facts k out = ⊎_elim (λ i. absurd (out (from_table facts k i.0 i.1))) (λ o. o) (two_cases facts k)

some_of : (f n : ℕ) → n < f * f → 0 < f
some_of f n l = ⊎_elim (λ h. h) (λ h. let none : f ≡ 0 = omega arith in absurd (omega (arith, subst (λ x. n < x * x) none l))) (cases_lt 0 f)

-- both facts of a place are in the set
pub in_both : (t : FactSet) (k : Two) → T (has t k.0) → T (has t k.1) → T (has t k.0 && has t k.1)
in_both t k x y = and_both (has t k.0) (has t k.1) x y

pub both_left : (t : FactSet) (k : Two) → T (has t k.0 && has t k.1) → T (has t k.0)
both_left t k i = and_left (has t k.0) (has t k.1) i

pub both_right : (t : FactSet) (k : Two) → T (has t k.0 && has t k.1) → T (has t k.1)
both_right t k i = and_right (has t k.0) (has t k.1) i

not_so : (x : Bool) → (T x → ⊥) → x ≡ false
not_so true h = absurd (h tt)
not_so false h = refl

-- the facts beside r that a move needs
unfoldable pub besides_cases : (m : Move) (r f : ℕ) → T (besides m r f) → ((f ≡ r) × (T (has m.makes f) → ⊥)) ⊎ T (has m.needs f)
besides_cases m r f h = ⊎_elim
    (λ a. inl (eqb_is f r (and_left (eqb f r) (not (has m.makes f)) a), not_true (has m.makes f) (and_right (eqb f r) (not (has m.makes f)) a)))
    (λ n. inr n) (or_cases (eqb f r && not (has m.makes f)) (has m.needs f) h)

pub besides_own : (m : Move) (r f : ℕ) → has m.makes r ≡ false → f ≡ r → T (besides m r f)
besides_own m r f unmade e = or_left (eqb f r && not (has m.makes f)) (has m.needs f)
    (and_both (eqb f r) (not (has m.makes f)) (eqb_from e) (not_of (has m.makes f) (λ t. not_both (subst (λ x. T (has m.makes x)) e t) unmade)))

pub besides_needs : (m : Move) (r f : ℕ) → T (has m.needs f) → T (besides m r f)
besides_needs m r f n = or_right (eqb f r && not (has m.makes f)) (has m.needs f) n

-- a fact that is not needed is beside r only as r itself
pub besides_only : (m : Move) (r x : ℕ) → has m.needs x ≡ false → ((r ≡ x) × (T (has m.makes r) → ⊥)) ↔ T (besides m r x)
besides_only m r x unneeded = (
  (λ w. besides_own m r x (not_so (has m.makes r) w.1) (sym w.0)),
  λ h. ⊎_elim (λ a. (sym a.0, subst (λ y. T (has m.makes y) → ⊥) a.0 a.1)) (λ n. absurd (not_both n unneeded)) (besides_cases m r x h),
)

besides_past : (m : Move) (r f : ℕ) → T (besides m r f) → f < suc r + past m.needs
besides_past m r f h = ⊎_elim (λ a. omega (arith, a.0)) (λ n. omega (arith, has_past m.needs f n)) (besides_cases m r f h)

pub besides_top : {V : Type 0} {tally : Ghosts V} (laws : LawsOf tally) (val : Two → Estimate V) (m : Move) (r : ℕ)
    → Top tally (λ k. T (besides m r k.0) × T (besides m r k.1)) val (besides_estimate tally val m r)
besides_top laws val m r = two_top laws (besides m r) val (suc r + past m.needs) (besides_past m r)

-- and their set
pub target : Move → ℕ → FactSet
target m r = (swapped (own r) m.makes m.needs).0

pub has_target : (m : Move) (r f : ℕ) → has (target m r) f ≡ besides m r f
unfolding target
has_target m r f = (swapped (own r) m.makes m.needs).1.result f ∙ ap (λ x. (x && not (has m.makes f)) || has m.needs f) ((own_only r).has_one f)

pub touches_target : (settled : Option Two) (m : Move) (r : ℕ) → touches (both (has (target m r))) settled ≡ touches (both (besides m r)) settled
touches_target None m r = refl
touches_target (Some k) m r = ap (λ x. x && has (target m r) k.1) (has_target m r k.0) ∙ ap (λ x. besides m r k.0 && x) (has_target m r k.1)

pub target_estimate : {V : Type 0} {tally : Ghosts V} (laws : LawsOf tally) (val : Two → Estimate V) (m : Move) (r : ℕ) → estimate_by_pairs tally val (target m r) ≡ besides_estimate tally val m r
target_estimate laws val m r = top_sole laws
    (top_like laws (λ k h. (subst T (has_target m r k.0) h.0, subst T (has_target m r k.1) h.1)) (λ k h. (subst T (sym (has_target m r k.0)) h.0, subst T (sym (has_target m r k.1)) h.1))
    (pairs_top laws val (target m r))) (besides_top laws val m r)

-- beside a fact that it makes, a move needs its needs
pub target_made : (m : Move) (p : ℕ) → T (has m.makes p) → target m p ≡ m.needs
target_made m p made = same_facts (target m p) m.needs (λ f. has_target m p f ∙ same_tests
    (λ h. ⊎_elim (λ a. absurd (a.1 (subst (λ x. T (has m.makes x)) (sym a.0) made))) (λ n. n) (besides_cases m p f h)) (besides_needs m p f))

-- the steps of the moves before i, and those of move i with a fact that is taken beside one that it makes
abbrev pub With : ℕ → Move → (ℕ → Type 0) → ℕ → Two → Type 0
With i m Taken j k = (j < i) ⊎ ((j ≡ i) × ((T (heads m k.0) × Taken k.1) ⊎ (T (heads m k.1) × Taken k.0)))

-- a move regresses a fact that it makes, with one that it does not break, to the target
pub pair_regresses : (m : Move) (s : FactSet) (p r : ℕ) → Both s (p, r) → T (heads m p) → (T (has m.breaks r) → ⊥) → Regresses m s (target m r)
pair_regresses m s p r both head whole = let parts = head_parts m p head in record {
  makes = (p, parts.0, both_first both);
  breaks = λ o. both_all both (λ x. T (has m.breaks x) → ⊥) parts.1 whole o.0 o.2 o.1;
  result = λ f. has_target m r f ∙ same_tests
      (λ h. ⊎_elim
      (λ a. or_left (has s f && not (has m.makes f)) (has m.needs f) (and_both (has s f) (not (has m.makes f)) (subst (λ x. T (has s x)) (sym a.0) (both_second both)) (not_of (has m.makes f) a.1)))
      (λ n. or_right (has s f && not (has m.makes f)) (has m.needs f) n) (besides_cases m r f h))
      (λ h. ⊎_elim
      (λ a. let unmade = not_true (has m.makes f) (and_right (has s f) (not (has m.makes f)) a) in
      ⊎_elim (λ e. absurd (unmade (subst (λ x. T (has m.makes x)) (sym e) parts.0)))
      (λ e. or_left (eqb f r && not (has m.makes f)) (has m.needs f) (and_both (eqb f r) (not (has m.makes f)) (eqb_from e) (not_of (has m.makes f) unmade)))
      (both_is both f (and_left (has s f) (not (has m.makes f)) a)))
      (λ n. besides_needs m r f n) (or_cases (has s f && not (has m.makes f)) (has m.needs f) h));
}

-- which of the two it makes
pub head_of : (m : Move) (s t : FactSet) (k : Two) → Both s k → Regresses m s t → T (heads m k.0) ⊎ T (heads m k.1)
head_of m s t k both g = ⊎_elim
    (λ e. inl (head_from m k.0 (subst (λ x. T (has m.makes x)) e g.makes.1) (λ b. g.breaks (k.0, b, both_first both))))
    (λ e. inr (head_from m k.1 (subst (λ x. T (has m.makes x)) e g.makes.1) (λ b. g.breaks (k.1, b, both_second both))))
    (both_is both g.makes.0 g.makes.2)

module _ {V : Type 0} {tally : Ghosts V} (laws : LawsOf tally) (b : Setting) where
  pub pairs_shape : Shape (pairs tally b)
  pairs_shape = record {
    few_of = λ k s o. record { listed = k.0 ∷ (k.1 ∷ []); short = omega arith; whole = λ f h. ⊎_elim (λ e. inl e) (λ e. inr (inl e)) (both_is o f h) };
    of_few = λ s f out. two_of_few s b.start f out;
    set_of = λ k. (own_two k, own_both k);
    same_set = λ k s u x y. both_same k s u x y;
    in_within = λ t k s o i. both_all o (λ x. T (has t x)) (both_left t k i) (both_right t k i);
    within_in = λ t k s o w. in_both t k (w k.0 (both_first o)) (w k.1 (both_second o));
    past_fact = λ k s o out. ⊎_elim (λ l. (k.0, both_first o, l)) (λ l. (k.1, both_second o, l)) (not_present b.facts k out);
    past_place = λ t x h l. ((x, x), in_both t (x, x) h h, λ i. omega (arith, (in_table b.facts (x, x) i).0));
  }

  pub pairs_numbered : Numbered (pairs tally b)
  pairs_numbered = record {
    below = λ k p. let i = in_table b.facts k p in mul-add-lt k.0 b.facts k.1 b.facts i.0 i.1;
    placed = λ k p. same_two _ k.0 k.1 (div-mul-add k.0 b.facts k.1 (in_table b.facts k p).1) (mod-mul-add k.0 b.facts k.1 (in_table b.facts k p).1);
    present = λ i l. let some = some_of b.facts i l in from_table b.facts (i / b.facts, i % b.facts) (div_below i b.facts b.facts some l) (mod_below i b.facts some);
    numbered = λ i l. div-add-mod' i b.facts;
    few = λ l. mul-le b.facts b.facts 64 64 l l;
  }

  pub pairs_tops : Tops tally (pairs tally b)
  pairs_tops val t = top_like laws (λ k h. in_both t k h.0 h.1) (λ k h. (both_left t k h, both_right t k h)) (pairs_top laws val t)

  -- the estimate of the needs stays, since no offer is below it
  pub needs_kept : (m : Move) (r : ℕ) (Head : Two → Type 0) (val new : Two → Estimate V) (offer : Estimate V) → offer ≡ via tally (pairs tally b) m val (target m r) → Lowers tally Head offer val new
      → estimate_by_pairs tally new m.needs ≡ estimate_by_pairs tally val m.needs
  needs_kept m r Head val new offer is low = est_same (pairs tally b) laws pairs_tops val new m.needs (λ k i. lowers_keeps laws low k
      (order.transitive laws (val k) (estimate_by_pairs tally val (target m r)) offer
      ((pairs_top laws val (target m r)).upper k (subst T (sym (has_target m r k.0)) (besides_needs m r k.0 (both_left m.needs k i)), subst T (sym (has_target m r k.1)) (besides_needs m r k.1 (both_right m.needs k i))))
      (subst (λ x. NotAbove tally (estimate_by_pairs tally val (target m r)) x) (sym is) (via_above (pairs tally b) laws pairs_tops m val (target m r)))))

  -- one move of a round
  module _ (settled : Option Two) (i : ℕ) (m : Move) (at : At b.moves i m) where
    abbrev fresh : FactSet → Bool
    fresh t = touches (both (has t)) settled

    own_step : (j : ℕ) (n : Move) (y : Two) (t : FactSet) → j ≡ i → (st : Step (pairs tally b) j n y t) → (n ≡ m) × Regresses m st.set t
    own_step j n y t e st =
        let is : n ≡ m = at_same (subst (λ x. At b.moves x n) e st.at) at in
        (is, subst (λ x. Regresses x st.set t) is st.regresses)

    first_target : (s t : FactSet) (p r : ℕ) → Both s (p, r) → Regresses m s t → T (heads m p) → t ≡ target m r
    first_target s t p r both g head = regresses_same g (pair_regresses m s p r both head (λ x. g.breaks (r, x, both_second both)))

    second_target : (s t : FactSet) (p r : ℕ) → Both s (r, p) → Regresses m s t → T (heads m p) → t ≡ target m r
    second_target s t p r both g head = first_target s t p r (both_turned r p both) g head

    none_with : (val : Two → Estimate V) (done : Two → Bool) (floor : Estimate V) (Taken : ℕ → Type 0) → ((x : ℕ) → Taken x → ⊥)
        → Relaxing tally (pairs tally b) fresh done floor (Before i) val → Relaxing tally (pairs tally b) fresh done floor (With i m Taken) val
    none_with val done floor Taken out r = seen_more (pairs tally b) laws pairs_tops fresh val done floor (Before i) (With i m Taken)
        (λ j n y t st f w. inl (⊎_elim (λ l. l) (λ x. absurd (⊎_elim (λ a. out y.1 a.1) (λ a. out y.0 a.1) x.1)) w)) r

    pub with_first : (val : Two → Estimate V) (Taken : ℕ → Type 0) → ((x : ℕ) → Taken x → ⊥) → Turned tally (pairs tally b) fresh (Before i) (With i m Taken) val val
    with_first val Taken out = record { runs = λ done floor r. none_with val done floor Taken out r }

    -- once every fact that is concerned is taken, all steps of the move are
    pub with_last : (val : Two → Estimate V) (Taken : ℕ → Type 0) → ((x : ℕ) → x < b.facts → (T (has m.breaks x) → ⊥) → T (touches (both (besides m x)) settled) → Taken x)
        → Turned tally (pairs tally b) fresh (With i m Taken) (Before (i + 1)) val val
    with_last val Taken all = record {
      runs = λ done floor r. seen_more (pairs tally b) laws pairs_tops fresh val done floor (With i m Taken) (Before (i + 1))
          (λ j n y t st f l. inl (⊎_elim
          (λ e. let w = own_step j n y t e st in
          let g = w.1 in
          let named = st.names in
          let touched : (x : ℕ) → t ≡ target m x → T (touches (both (besides m x)) settled) = λ x is. subst T (touches_target settled m x) (subst (λ u. T (fresh u)) is f) in
          inr (
            e,
            ⊎_elim
                (λ h. inl (h, all y.1 (in_table b.facts y st.present).1 (λ x. g.breaks (y.1, x, both_second named)) (touched y.1 (first_target st.set t y.0 y.1 named g h))))
                (λ h. inr (h, all y.0 (in_table b.facts y st.present).0 (λ x. g.breaks (y.0, x, both_first named)) (touched y.0 (second_target st.set t y.1 y.0 named g h))))
                (head_of m st.set t y named g),
          ))
          (λ ne. inl (omega arith)) (cases_eq j i))) r;
    }

    -- a fact that the move breaks is beside none that it makes
    pub with_broken : (val : Two → Estimate V) (Taken More : ℕ → Type 0) (r : ℕ) → T (has m.breaks r) → ((x : ℕ) → More x → Taken x ⊎ (x ≡ r))
        → Turned tally (pairs tally b) fresh (With i m Taken) (With i m More) val val
    with_broken val Taken More r broken split = record {
      runs = λ done floor now. seen_more (pairs tally b) laws pairs_tops fresh val done floor (With i m Taken) (With i m More)
          (λ j n y t st f w. inl (⊎_elim (λ l. inl l)
          (λ x. let g = (own_step j n y t x.0 st).1 in
          let stays : (z : ℕ) → T (has st.set z) → (z ≡ r → ⊥) = λ z h e. g.breaks (z, subst (λ q. T (has m.breaks q)) (sym e) broken, h) in
          inr (
            x.0,
            ⊎_elim
                (λ a. inl (a.0, ⊎_elim (λ old. old) (λ e. absurd (stays y.1 (both_second st.names) e)) (split y.1 a.1)))
                (λ a. inr (a.0, ⊎_elim (λ old. old) (λ e. absurd (stays y.0 (both_first st.names) e)) (split y.0 a.1))) x.1,
          )) w)) now;
    }

    -- a move that makes nothing, or breaks all that it makes, has no step
    pub with_headless : (val : Two → Estimate V) → ((f : ℕ) → T (heads m f) → ⊥) → Turned tally (pairs tally b) fresh (Before i) (Before (i + 1)) val val
    with_headless val none = record {
      runs = λ done floor r. seen_more (pairs tally b) laws pairs_tops fresh val done floor (Before i) (Before (i + 1))
          (λ j n y t st f l. inl (⊎_elim
          (λ e. absurd (⊎_elim (none y.0) (none y.1) (head_of m st.set t y st.names (own_step j n y t e st).1)))
          (λ ne. omega arith) (cases_eq j i))) r;
    }

    -- a move whose needs are never offers nothing
    pub with_never : (val : Two → Estimate V) → estimate_by_pairs tally val m.needs ≡ None → Turned tally (pairs tally b) fresh (Before i) (Before (i + 1)) val val
    with_never val never = record {
      runs = λ done floor r. seen_more (pairs tally b) laws pairs_tops fresh val done floor (Before i) (Before (i + 1))
          (λ j n y t st f l. ⊎_elim
          (λ e. let w = own_step j n y t e st in
          let est = estimate_by_pairs tally val t in
          let up : NotAbove tally None est = subst (λ x. NotAbove tally x est) never (est_grows (pairs tally b) laws pairs_tops pairs_shape val m.needs t (swap_added (regresses_swaps w.1))) in
          inr (via_never (pairs tally b) laws pairs_tops n val t (val y) (order.antisymmetric laws est None (order.top laws est) up)))
          (λ ne. inl (omega arith)) (cases_eq j i)) r;
    }

    module _ (r : ℕ) (whole : T (has m.breaks r) → ⊥) (touched : T (touches (both (besides m r)) settled)) (made : FactSet)
        (heads_is : (f : ℕ) → has made f ≡ heads m f)
        (val new : Two → Estimate V) (offer : Estimate V) (is : offer ≡ via tally (pairs tally b) m val (target m r)) (low : Lowers tally (Beside (pairs tally b) made r) offer val new) where
      step_of : (k : Two) → Beside (pairs tally b) made r k → Step (pairs tally b) i m k (target m r)
      step_of k h = record {
        present = h.0;
        at = at;
        set = own_two k;
        names = own_both k;
        regresses = ⊎_elim
            (λ w. pair_regresses m (own_two k) k.0 r (subst (λ x. Both (own_two k) (k.0, x)) w.0 (own_both k)) (subst T (heads_is k.0) w.1) whole)
            (λ w. pair_regresses m (own_two k) k.1 r (both_turned r k.1 (subst (λ x. Both (own_two k) (x, k.1)) w.0 (own_both k))) (subst T (heads_is k.1) w.1) whole) h.1;
      }

      offered : (j : ℕ) (n : Move) (y : Two) (t : FactSet) → n ≡ m → t ≡ target m r → Beside (pairs tally b) made r y → NotAbove tally (new y) (via tally (pairs tally b) n val t)
      offered j n y t same to head =
          subst (λ x. NotAbove tally (new y) (offer_of tally b x (estimate_by_pairs tally val t))) (sym same)
          (subst (λ x. NotAbove tally (new y) (offer_of tally b m (estimate_by_pairs tally val x))) (sym to)
          (subst (λ x. NotAbove tally (new y) x) is (low.under y head)))

      pub with_lowers : (Taken More : ℕ → Type 0) → ((x : ℕ) → More x → Taken x ⊎ (x ≡ r)) → Turned tally (pairs tally b) fresh (With i m Taken) (With i m More) val new
      with_lowers Taken More split = record {
        runs = λ done floor now. relaxed (pairs tally b) laws pairs_tops fresh val new
            (moved_by (pairs tally b) laws pairs_tops fresh val new (Beside (pairs tally b) made r) i m (target m r) offer low step_of (subst T (sym (touches_target settled m r)) touched) is)
            done floor (With i m Taken) now (With i m More)
            (λ j n y t st f w. ⊎_elim (λ l. inl (inl l))
            (λ x. let o = own_step j n y t x.0 st in
            ⊎_elim
            (λ a. ⊎_elim (λ old. inl (inr (x.0, inl (a.0, old))))
            (λ e. inr (offered j n y t o.0 (first_target st.set t y.0 r (subst (λ z. Both st.set (y.0, z)) e st.names) o.1 a.0) (st.present, inl (e, subst T (sym (heads_is y.0)) a.0))))
            (split y.1 a.1))
            (λ a. ⊎_elim (λ old. inl (inr (x.0, inr (a.0, old))))
            (λ e. inr (offered j n y t o.0 (second_target st.set t y.1 r (subst (λ z. Both st.set (z, y.1)) e st.names) o.1 a.0) (st.present, inr (e, subst T (sym (heads_is y.1)) a.0))))
            (split y.0 a.1))
            x.1) w);
      }

  -- what holds of a settled table
  module _ (known : Known b) (val : Two → Estimate V) (sure : Sure tally (pairs tally b) val)
      (closed : Closed tally (pairs tally b) val) where
    abbrev Le : Estimate V → Estimate V → Type 0
    Le e f = NotAbove tally e f

    nil_at : (k : Two) → T (has b.start k.0) → T (has b.start k.1) → val k ≡ Some tally.nil
    nil_at k x y = nil_start (pairs tally b) laws pairs_tops pairs_shape known val sure closed k (in_both b.start k x y)

    every_step : (j : ℕ) (m : Move) (k : Two) (s t : FactSet) → At b.moves j m → Both s k → Regresses m s t → Le (val k) (via tally (pairs tally b) m val t)
    every_step = closed_all (pairs tally b) laws pairs_tops pairs_shape known val sure closed

    single_at : (p q : ℕ) → Backed tally (pairs tally b) val (p, q) → Le (val (p, p)) (val (p, q))
    single_at p q (unreached e) = subst (λ x. Le (val (p, p)) x) (sym e) (order.top laws (val (p, p)))
    single_at p q (begun i) = subst (λ x. Le x (val (p, q))) (sym (nil_at (p, p) (both_left b.start (p, q) i.1) (both_left b.start (p, q) i.1))) (order.least laws (val (p, q)))
    single_at p q (stepped j m t st l) =
        let via_t = via tally (pairs tally b) m val t in
        let g = st.regresses in
        order.transitive laws (val (p, p)) via_t (val (p, q))
        (⊎_elim
        (λ made. let head : T (heads m p) = head_from m p (from_true made) (λ x. g.breaks (p, x, both_first st.names)) in
        order.transitive laws (val (p, p)) (via tally (pairs tally b) m val (target m p)) via_t
        (every_step j m (p, p) (own_two (p, p)) (target m p) st.at (own_both (p, p)) (pair_regresses m (own_two (p, p)) p p (own_both (p, p)) head (head_parts m p head).1))
        (via_mono_est (pairs tally b) laws pairs_tops m (estimate_by_pairs tally val (target m p)) (estimate_by_pairs tally val t)
        (est_grows (pairs tally b) laws pairs_tops pairs_shape val (target m p) t (λ f h. ⊎_elim
        (λ a. absurd (a.1 (subst (λ x. T (has m.makes x)) (sym a.0) (head_parts m p head).0)))
        (λ n. swap_added (regresses_swaps g) f n) (besides_cases m p f (subst T (has_target m p f) h))))))
        (λ unmade. let here = swap_kept (regresses_swaps g) p (both_first st.names) (λ x. not_both x unmade) in
        order.transitive laws (val (p, p)) (estimate_by_pairs tally val t) via_t ((pairs_top laws val t).upper (p, p) (here, here)) (via_above (pairs tally b) laws pairs_tops m val t))
        (cases_Bool (has m.makes p)))
        l

    turned_at : (p q : ℕ) → Backed tally (pairs tally b) val (q, p) → Le (val (p, q)) (val (q, p))
    turned_at p q (unreached e) = subst (λ x. Le (val (p, q)) x) (sym e) (order.top laws (val (p, q)))
    turned_at p q (begun i) = subst (λ x. Le x (val (q, p))) (sym (nil_at (p, q) (both_right b.start (q, p) i.1) (both_left b.start (q, p) i.1))) (order.least laws (val (q, p)))
    turned_at p q (stepped j m t st l) =
        order.transitive laws (val (p, q)) (via tally (pairs tally b) m val t) (val (q, p)) (every_step j m (p, q) st.set t st.at (both_turned q p st.names) st.regresses) l

    pub pairs_agree : PairsAgree tally val
    pairs_agree = record {
      single = λ p q. single_at p q (sure.backed (p, q));
      turned = λ p q. order.antisymmetric laws (val (p, q)) (val (q, p)) (turned_at p q (sure.backed (q, p))) (turned_at q p (sure.backed (p, q)));
    }

  -- by the rules, the estimate of two facts is their place
  module _ (val : Two → Estimate V) (agree : PairsAgree tally val) where
    among : (k : Two) (x y : ℕ) → (x ≡ k.0) ⊎ (x ≡ k.1) → (y ≡ k.0) ⊎ (y ≡ k.1) → NotAbove tally (val (x, y)) (val k)
    among k x y (inl e) (inl f) = subst (λ z. NotAbove tally (val z) (val k)) (sym (same_two (x, y) k.0 k.0 e f)) (agree.single k.0 k.1)
    among k x y (inl e) (inr f) = order.same laws (ap val (same_two (x, y) k.0 k.1 e f))
    among k x y (inr e) (inl f) = order.same laws (ap val (same_two (x, y) k.1 k.0 e f) ∙ agree.turned k.1 k.0)
    among k x y (inr e) (inr f) = subst (λ z. NotAbove tally (val z) (val k)) (sym (same_two (x, y) k.1 k.1 e f))
        (subst (λ z. NotAbove tally (val (k.1, k.1)) z) (agree.turned k.1 k.0) (agree.single k.1 k.0))

    pub pair_own : (k : Two) (s : FactSet) → Both s k → estimate_by_pairs tally val s ≡ val k
    pair_own k s both = order.antisymmetric laws (estimate_by_pairs tally val s) (val k)
        (⊎_elim (λ e. subst (λ x. NotAbove tally x (val k)) (sym e) (order.least laws (val k)))
        (λ w. subst (λ x. NotAbove tally x (val k)) (sym w.2) (among k w.0.0 w.0.1 (both_is both w.0.0 w.1.0) (both_is both w.0.1 w.1.1)))
        (pairs_top laws val s).reached)
        ((pairs_top laws val s).upper k (both_first both, both_second both))

module _ {V : Type 0} {tally : Ghosts V} (laws : LawsOf tally) (b : Setting) where
  -- the rules as they are tested
  module _ (val : Two → Estimate V) where
    abbrev offer : Move → Estimate V → Estimate V
    offer m e = offer_of tally b m e

    -- two heads, and a head beside a fact that the move neither makes nor breaks
    abbrev PairTested : Move → Type 0
    PairTested m = (k : Two) → T (heads m k.0) × T (heads m k.1) → NotAbove tally (val k) (offer m (estimate_by_pairs tally val m.needs))

    abbrev BesideTested : Move → ℕ → Type 0
    BesideTested m r = (T (has m.breaks r || has m.makes r) → ⊥) → UnderOffer tally b val m r

    abbrev MoveTested : Move → Type 0
    MoveTested m = PairTested m × ((r : ℕ) → r < b.facts → BesideTested m r)

    -- the same as it is read
    abbrev pub BesideEach : Move → Type 0
    BesideEach m = (r : ℕ) → r < b.facts → (T (has m.breaks r) → ⊥) → UnderOffer tally b val m r

    abbrev pub AloneTested : Move → Type 0
    AloneTested m = (p : ℕ) → T (heads m p) → NotAbove tally (val (p, p)) (offer m (estimate_by_pairs tally val m.needs))

    abbrev RowsTested : Type 0
    RowsTested = (p : ℕ) → p < b.facts → (q : ℕ) → q < b.facts → NotAbove tally (val (p, p)) (val (p, q)) × NotAbove tally (val (p, q)) (val (q, p))

    pub beside_tells : (m : Move) (r : ℕ) → Decides (keeps_beside tally b val m r) (BesideTested m r)
    beside_tells m r = decides_or_not (has m.breaks r || has m.makes r) _ (top_tells laws _ _ (heads_top laws b (λ p. val (p, r)) m))

    two_heads_top : (m : Move) → Top tally (λ k. T (heads m k.0) × T (heads m k.1)) val (highest_two tally (heads m) val (past m.makes))
    two_heads_top m = two_top laws (heads m) val (past m.makes) (λ p h. has_past m.makes p (head_parts m p h).0)

    move_tells : (m : Move) → Decides ((pairs tally b).keeps_move val m) (MoveTested m)
    move_tells m = decides_and _ _ (top_tells laws _ _ (two_heads_top m)) (decides_every (keeps_beside tally b val m) (beside_tells m) b.facts)

    rows_tell : Decides ((pairs tally b).keeps_further val) RowsTested
    rows_tell = decides_every _ (λ p. decides_every _ (λ q. decides_and _ _ (decides_test _) (decides_test _)) b.facts) b.facts

    -- a place that the table has not is never
    module _ (out : (k : Two) → (Present (pairs tally b) k → ⊥) → val k ≡ None) where
      off : (k : Two) → (b.facts ≤ k.0) ⊎ (b.facts ≤ k.1) → val k ≡ None
      off k o = out k (λ p. let i = in_table b.facts k p in ⊎_elim (λ l. omega (arith, i.0)) (λ l. omega (arith, i.1)) o)

      turned_from : RowsTested → (p q : ℕ) → val (p, q) ≡ val (q, p)
      turned_from rows p q = ⊎_elim
          (λ i. order.antisymmetric laws (val (p, q)) (val (q, p)) (rows p i.0 q i.1).1 (rows q i.1 p i.0).1)
          (λ o. off (p, q) o ∙ sym (off (q, p) (⊎_elim (λ x. inr x) (λ x. inl x) o))) (two_cases b.facts (p, q))

      single_from : RowsTested → (p q : ℕ) → NotAbove tally (val (p, p)) (val (p, q))
      single_from rows p q = ⊎_elim (λ i. (rows p i.0 q i.1).0) (λ o. subst (λ x. NotAbove tally (val (p, p)) x) (sym (off (p, q) o)) (order.top laws (val (p, p)))) (two_cases b.facts (p, q))

      agree_from : RowsTested → PairsAgree tally val
      agree_from rows = record { single = single_from rows; turned = turned_from rows }

      -- beside each fact of the table that the move does not break, its heads; and each head alone, since one past the table is not among these facts
      pub read_tells : (m : Move) → Decides ((pairs tally b).keeps_move val m) (BesideEach m × AloneTested m)
      read_tells m = decides_like to from (move_tells m)
        where
          made_estimate : (r : ℕ) → T (has m.makes r) → besides_estimate tally val m r ≡ estimate_by_pairs tally val m.needs
          made_estimate r made = sym (target_estimate laws val m r) ∙ ap (estimate_by_pairs tally val) (target_made m r made)

          to : MoveTested m → BesideEach m × AloneTested m
          to tested = (
            (λ r l whole p head. ⊎_elim
                (λ made. let other = from_true made in subst (λ e. NotAbove tally (val (p, r)) (offer m e)) (sym (made_estimate r other)) (tested.0 (p, r) (head, head_from m r other whole)))
                (λ unmade. tested.1 r l (λ o. ⊎_elim whole (λ x. not_both x unmade) (or_cases (has m.breaks r) (has m.makes r) o)) p head)
                (cases_Bool (has m.makes r))),
            λ p head. tested.0 (p, p) (head, head),
          )

          from : BesideEach m × AloneTested m → MoveTested m
          from w = (
            (λ k h. let parts = head_parts m k.1 h.1 in ⊎_elim
                (λ l. subst (λ e. NotAbove tally (val k) (offer m e)) (made_estimate k.1 parts.0) (w.0 k.1 l parts.1 k.0 h.0))
                (λ l. subst (λ x. NotAbove tally x (offer m (estimate_by_pairs tally val m.needs))) (off (k.1, k.1) (inl l) ∙ sym (off k (inr l))) (w.1 k.1 h.1))
                (cases_lt k.1 b.facts)),
            λ r l free p head. w.0 r l (λ x. free (or_left (has m.breaks r) (has m.makes r) x)) p head,
          )

      -- a head beside r: another head, or a fact that stays, or one past the table
      first_from : (m : Move) (s t : FactSet) (p r : ℕ) → MoveTested m → Both s (p, r) → Regresses m s t → T (heads m p)
          → NotAbove tally (val (p, r)) (via tally (pairs tally b) m val t)
      first_from m s t p r tested both g head =
          let whole : T (has m.breaks r) → ⊥ = λ x. g.breaks (r, x, both_second both) in
          let to : t ≡ target m r = regresses_same g (pair_regresses m s p r both head whole) in
          let Allowed : FactSet → Type 0 = λ x. NotAbove tally (val (p, r)) (offer m (estimate_by_pairs tally val x)) in
          ⊎_elim
          (λ made. let other = from_true made in subst Allowed (sym (to ∙ target_made m r other)) (tested.0 (p, r) (head, head_from m r other whole)))
          (λ unmade. ⊎_elim
          (λ l. subst (λ x. NotAbove tally (val (p, r)) (offer m x)) (sym (ap (estimate_by_pairs tally val) to ∙ target_estimate laws val m r))
          (tested.1 r l (λ o. ⊎_elim whole (λ x. not_both x unmade) (or_cases (has m.breaks r) (has m.makes r) o)) p head))
          (λ l. let stays = swap_kept (regresses_swaps g) r (both_second both) (λ x. not_both x unmade) in
          let never : estimate_by_pairs tally val t ≡ None = order.antisymmetric laws (estimate_by_pairs tally val t) None (order.top laws (estimate_by_pairs tally val t))
          (subst (λ x. NotAbove tally x (estimate_by_pairs tally val t)) (off (r, r) (inl l)) ((pairs_top laws val t).upper (r, r) (stays, stays))) in
          via_never (pairs tally b) laws (pairs_tops laws b) m val t (val (p, r)) never)
          (cases_lt r b.facts))
          (cases_Bool (has m.makes r))

      rules_from : ((k : Two) → T (both (has b.start) k) → NotAbove tally (val k) (Some tally.nil)) → ((j : ℕ) (m : Move) → At b.moves j m → MoveTested m) → RowsTested → Rules tally (pairs tally b) val
      rules_from start moves rows = let agree = agree_from rows in record {
        start = λ k i. order.antisymmetric laws (val k) (Some tally.nil) (start k i) (order.least laws (val k));
        moves = λ j m k s t at names g. ⊎_elim
            (λ head. first_from m s t k.0 k.1 (moves j m at) names g head)
            (λ head. subst (λ x. NotAbove tally x (via tally (pairs tally b) m val t)) (agree.turned k.1 k.0) (first_from m s t k.1 k.0 (moves j m at) (both_turned k.0 k.1 names) g head))
            (head_of m s t k names g);
        further = agree;
      }

    module _ (rules : Rules tally (pairs tally b) val) where
      to_target : (j : ℕ) (m : Move) → At b.moves j m → (p r : ℕ) → T (heads m p) → (T (has m.breaks r) → ⊥) → NotAbove tally (val (p, r)) (offer m (estimate_by_pairs tally val (target m r)))
      to_target j m at p r head whole = let names = own_both (p, r) in rules.moves j m (p, r) (own_two (p, r)) (target m r) at names (pair_regresses m (own_two (p, r)) p r names head whole)

      move_from : (j : ℕ) (m : Move) → At b.moves j m → MoveTested m
      move_from j m at = (
        (λ k h. let parts = head_parts m k.1 h.1 in
            subst (λ x. NotAbove tally (val k) (offer m (estimate_by_pairs tally val x))) (target_made m k.1 parts.0) (to_target j m at k.0 k.1 h.0 parts.1)),
        λ r l unmade p head. subst (λ x. NotAbove tally (val (p, r)) (offer m x)) (target_estimate laws val m r) (to_target j m at p r head (λ x. unmade (or_left (has m.breaks r) (has m.makes r) x))),
      )

      rows_from : RowsTested
      rows_from p l q k = (rules.further.single p q, order.same laws (rules.further.turned p q))

    pub pairs_tell : ((k : Two) → (Present (pairs tally b) k → ⊥) → val k ≡ None) → IsTrue (keeps tally (pairs tally b) val) ↔ Rules tally (pairs tally b) val
    pairs_tell out = decides_like (λ w. rules_from out w.0 w.1.0 w.1.1)
        (λ rules. ((λ k i. order.same laws (rules.start k i)), (move_from rules, rows_from rules)))
        (keeps_tells (pairs tally b) laws (pairs_tops laws b) val move_tells rows_tell)

  pub pairs_laid : Laid tally (pairs tally b)
  pairs_laid = record {
    shape = pairs_shape laws b;
    numbers = pairs_numbered laws b;
    tops = pairs_tops laws b;
    further = λ known val sure closed. pairs_agree laws b known val sure closed;
    own = λ val agree. pair_own laws b val agree;
    tells = pairs_tell;
  }
