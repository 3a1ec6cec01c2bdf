-- Single facts as the places of a table.
use Rattle.std.proofs.Common.{◌≡◌, ◌↔◌, IsTrue, ℕ, ◌+◌, ◌<◌, ◌≤◌, Bool, true, false, not, ◌&&◌, ◌||◌, T, ltb, ◌⊎◌, [], ◌∷◌, Option, sym, refl, subst, inl, inr, ⊎_elim, arith, Some}
use Rattle.std.proofs.lemmas.Bool.{cases_eq, cases_lt, lt-ltb, ltb-true}
use Rattle.facts.specs.Sets.{has}
use Rattle.facts.specs.declared.sets.FactSet.{FactSet}
use Rattle.facts.proofs.Members.{same_facts}
use Rattle.facts.proofs.Tests.{from_true, to_true, not_both, and_left, and_right, and_both, not_of, not_true, same_tests}
use Rattle.tasks.specs.Moves.{Regresses}
use Rattle.tasks.specs.Places.{At}
use Rattle.tasks.specs.declared.moves.Move.{Move}
use Rattle.tasks.proofs.Places.{at_same}
use Rattle.tasks.proofs.Bearing.{regresses_swaps, swap_added, swap_cases}
use Rattle.costs.specs.Estimates.{Estimate}
use Rattle.costs.specs.declared.tally.Tally.{Ghosts}
use Rattle.bounds.specs.Sound.{NotAbove}
use Rattle.tables.specs.Equation.{Setting, offer_of}
use Rattle.tables.specs.Laid.{Shape, Numbered, Tops, Laid}
use Rattle.tables.specs.Nets.{singles, Present, heads}
use Rattle.tables.specs.Reading.{Only, Top, highest, estimate_by_singles, past}
use Rattle.tables.specs.Rules.{Rules, keeps}
use Rattle.tables.specs.Settling.{Step, via, Turned, Before, Lowers, touches}
use Rattle.tables.proofs.Decisions.{decides_like, decides_test, top_tells}
use Rattle.tables.proofs.Engine.{moved_by, relaxed, seen_more}
use Rattle.tables.proofs.Keeping.{keeps_tells}
use Rattle.tables.proofs.Order as order
use Rattle.tables.proofs.Order.{LawsOf}
use Rattle.tables.proofs.Subsets.{own, own_only, only_same, only_has, only_is, only_all, one_of_few, has_past}
use Rattle.tables.proofs.Tops.{singles_top, top_highest, top_one, top_sole}

-- a fact that the move makes and does not break
pub head_parts : (m : Move) (p : ℕ) → T (heads m p) → T (has m.makes p) × (T (has m.breaks p) → ⊥)
head_parts m p h = (and_left (has m.makes p) (not (has m.breaks p)) h, not_true (has m.breaks p) (and_right (has m.makes p) (not (has m.breaks p)) h))

pub head_from : (m : Move) (p : ℕ) → T (has m.makes p) → (T (has m.breaks p) → ⊥) → T (heads m p)
head_from m p made whole = and_both (has m.makes p) (not (has m.breaks p)) made (not_of (has m.breaks p) whole)

-- a move regresses a single fact that it makes and does not break to what it needs
pub single_needs : (m : Move) (s t : FactSet) (p : ℕ) → Only s p → Regresses m s t → T (heads m p) × (t ≡ m.needs)
single_needs m s t p o r =
    let made : T (has m.makes p) = subst (λ x. T (has m.makes x)) (only_is o r.makes.0 r.makes.2) r.makes.1 in (
      head_from m p made (λ b. r.breaks (p, b, only_has o)),
      same_facts t m.needs (λ f. same_tests
          (λ h. ⊎_elim (λ n. n) (λ k. absurd (k.1 (subst (λ x. T (has m.makes x)) (sym (only_is o f k.0)) made))) (swap_cases (regresses_swaps r) f h))
          (swap_added (regresses_swaps r) f)),
    )

fallen : (a b c : Bool) → (T a → T b) → c ≡ ((a && not b) || c)
fallen true true c h = refl
fallen true false c h = absurd (h tt)
fallen false b c h = refl

pub single_regresses : (m : Move) (s : FactSet) (p : ℕ) → Only s p → T (heads m p) → Regresses m s m.needs
single_regresses m s p o head = record {
  makes = (p, (head_parts m p head).0, only_has o);
  breaks = λ b. (head_parts m p head).1 (subst (λ x. T (has m.breaks x)) (only_is o b.0 b.2) b.1);
  result = λ f. fallen (has s f) (has m.makes f) (has m.needs f) (only_all o (λ x. T (has m.makes x)) (head_parts m p head).0 f);
}

-- in a table for so many facts, or past it
pub below_or_past : (facts k : ℕ) → (T (ltb k facts) → ⊥) → facts ≤ k
below_or_past facts k out = ⊎_elim (λ l. absurd (out (from_true (lt-ltb k facts l)))) (λ l. l) (cases_lt k facts)

pub below : (facts k : ℕ) → T (ltb k facts) → k < facts
below facts k p = ltb-true k facts (to_true p)

pub from_below : (facts k : ℕ) → k < facts → T (ltb k facts)
from_below facts k l = from_true (lt-ltb k facts l)

module _ {V : Type 0} {tally : Ghosts V} (laws : LawsOf tally) (b : Setting) where
  pub singles_shape : Shape (singles tally b)
  singles_shape = record {
    few_of = λ k s o. record { listed = k ∷ []; short = omega arith; whole = λ f h. inl (only_is o f h) };
    of_few = λ s f out. one_of_few s b.start f out;
    set_of = λ k. (own k, own_only k);
    same_set = λ k s u x y. only_same k s u x y;
    in_within = λ t k s o i. only_all o (λ x. T (has t x)) i;
    within_in = λ t k s o w. w k (only_has o);
    past_fact = λ k s o out. (k, only_has o, below_or_past b.facts k out);
    past_place = λ t x h l. (x, h, λ p. omega (arith, below b.facts x p));
  }

  pub singles_numbered : Numbered (singles tally b)
  singles_numbered = record {
    below = λ k p. below b.facts k p;
    placed = λ k p. refl;
    present = λ i l. from_below b.facts i l;
    numbered = λ i l. refl;
    few = λ l. omega arith;
  }

  pub singles_tops : Tops tally (singles tally b)
  singles_tops val t = singles_top laws val t

  pub single_own : (val : ℕ → Estimate V) (k : ℕ) (s : FactSet) → Only s k → estimate_by_singles tally val s ≡ val k
  single_own val k s o = top_sole laws (singles_top laws val s) (top_one laws k (only_has o) (λ l h. only_is o l h) refl)

  pub heads_top : (val : ℕ → Estimate V) (m : Move) → Top tally (λ p. T (heads m p)) val (highest tally (heads m) val (past m.makes))
  heads_top val m = top_highest laws (heads m) val (past m.makes) (λ p h. has_past m.makes p (and_left (has m.makes p) (not (has m.breaks p)) h))

  module _ (val : ℕ → Estimate V) where
    abbrev MoveTested : Move → Type 0
    MoveTested m = (p : ℕ) → T (heads m p) → NotAbove tally (val p) (offer_of tally b m (estimate_by_singles tally val m.needs))

    rules_from : ((p : ℕ) → T (has b.start p) → NotAbove tally (val p) (Some tally.nil)) → ((j : ℕ) (m : Move) → At b.moves j m → MoveTested m) → Rules tally (singles tally b) val
    rules_from start moves = record {
      start = λ p h. order.antisymmetric laws (val p) (Some tally.nil) (start p h) (order.least laws (val p));
      moves = λ j m p s t at only r. let w = single_needs m s t p only r in
          subst (λ u. NotAbove tally (val p) (offer_of tally b m (estimate_by_singles tally val u))) (sym w.1) (moves j m at p w.0);
      further = tt;
    }

    singles_tell : IsTrue (keeps tally (singles tally b) val) ↔ Rules tally (singles tally b) val
    singles_tell = decides_like (λ w. rules_from w.0 w.1.0)
        (λ rules. ((λ p h. order.same laws (rules.start p h)), ((λ j m at p head. rules.moves j m p (own p) m.needs at (own_only p) (single_regresses m (own p) p (own_only p) head)), tt)))
        (keeps_tells (singles tally b) laws singles_tops val (λ m. top_tells laws _ _ (heads_top val m)) (decides_test true))

  pub singles_laid : Laid tally (singles tally b)
  singles_laid = record {
    shape = singles_shape;
    numbers = singles_numbered;
    tops = singles_tops;
    further = λ known val sure closed. tt;
    own = λ val f. single_own val;
    tells = λ val out. singles_tell val;
  }

  -- one move of a round
  module _ (settled : Option ℕ) (i : ℕ) (m : Move) (at : At b.moves i m) where
    abbrev fresh : FactSet → Bool
    fresh t = touches (has t) settled

    -- its own steps lead to what it needs
    own_step : {P : Type 0} (j : ℕ) (n : Move) (y : ℕ) (t : FactSet) → Step (singles tally b) j n y t → Before (i + 1) j y
        → (n ≡ m → T (heads m y) → t ≡ m.needs → P) → Before i j y ⊎ P
    own_step j n y t st l f = ⊎_elim
        (λ e. let is : n ≡ m = at_same (subst (λ x. At b.moves x n) e st.at) at in
        let w = single_needs m st.set t y st.names (subst (λ x. Regresses x st.set t) is st.regresses) in
        inr (f is w.0 w.1))
        (λ ne. inl (omega arith)) (cases_eq j i)

    pub single_passes : (val : ℕ → Estimate V) → touches (has m.needs) settled ≡ false → Turned tally (singles tally b) fresh (Before i) (Before (i + 1)) val val
    single_passes val out = record {
      runs = λ done floor r. seen_more (singles tally b) laws singles_tops fresh val done floor (Before i) (Before (i + 1))
          (λ j n y t st f l. own_step j n y t st l (λ is head to. absurd (not_both (subst (λ x. T (fresh x)) to f) out))) r;
    }

    module _ (val new : ℕ → Estimate V) (made : FactSet) (offer : Estimate V) (touched : touches (has m.needs) settled ≡ true)
        (heads_is : (f : ℕ) → has made f ≡ heads m f)
        (is : offer ≡ via tally (singles tally b) m val m.needs)
        (low : Lowers tally (λ k. Present (singles tally b) k × T (has made k)) offer val new) where
      step_of : (k : ℕ) → Present (singles tally b) k × T (has made k) → Step (singles tally b) i m k m.needs
      step_of k h =
          record {
            present = h.0;
            at = at;
            set = own k;
            names = own_only k;
            regresses = single_regresses m (own k) k (own_only k) (subst T (heads_is k) h.1);
          }

      pub single_lowers : Turned tally (singles tally b) fresh (Before i) (Before (i + 1)) val new
      single_lowers = record {
        runs = λ done floor r. relaxed (singles tally b) laws singles_tops fresh val new
            (moved_by (singles tally b) laws singles_tops fresh val new (λ k. Present (singles tally b) k × T (has made k)) i m m.needs offer low step_of (from_true touched) is)
            done floor (Before i) r (Before (i + 1))
            (λ j n y t st f l. own_step j n y t st l (λ same head to.
            subst (λ x. NotAbove tally (new y) (offer_of tally b x (estimate_by_singles tally val t))) (sym same)
            (subst (λ x. NotAbove tally (new y) (offer_of tally b m (estimate_by_singles tally val x))) (sym to)
            (subst (λ x. NotAbove tally (new y) x) is (low.under y (st.present, subst T (sym (heads_is y)) head))))));
      }
