-- The estimates of the greatest solution, computed.
use Rattle.std.proofs.Common.{◌≡◌, ℕ, ◌^◌, Bool, true, ◌||◌, eqb, ap, ◌∙◌}
use Rattle.facts.specs.Words.{bit}
use Rattle.facts.specs.declared.sets.FactSet.{FactSet}
use Rattle.facts.proofs.Members.{union, has_union}
use Rattle.facts.proofs.Words.{bit_power}
use Rattle.tasks.specs.Tasks.{start_of, moves_of}
use Rattle.tasks.specs.declared.moves.Move.{Move}
use Rattle.tasks.specs.declared.task.Task.{Task}
use Rattle.costs.specs.Estimates.{not_above}
use Rattle.costs.specs.Estimates.{Estimate}
use Rattle.costs.specs.declared.tally.Tally.{Ghosts}
use Rattle.bounds.specs.Sound.{NotAbove, Sound}
use Rattle.tables.specs.Equation.{Setting, Greatest}
use Rattle.tables.specs.Reading.{Two, highest, estimate_by_singles, estimate_by_pairs, share_at}
use Rattle.tables.specs.Laid.{Known}
use Rattle.tables.specs.Nets.{singles, pairs, every}
use Rattle.tables.specs.Settling.{Step, via}
use Rattle.tables.proofs.Decisions.{decides_test, decides_every}
use Rattle.tables.proofs.OneFact.{below, singles_shape, singles_tops, single_own}
use Rattle.tables.proofs.Order.{LawsOf}
use Rattle.tables.proofs.Solutions.{nil_start, closed_all, greatest}
use Rattle.tables.proofs.Soundness.{sound}
use Rattle.tables.proofs.TwoFacts.{in_table, pairs_shape, pairs_tops, pairs_agree, pair_own}
use Rattle.theory.specs.Tasks.{set_of}
use Rattle.worked.proofs.Rounds.{Layout, round, round_sure, allowed, all_allowed}

module _ {V : Type 0} {tally : Ghosts V} (laws : LawsOf tally) (b : Setting) where
  unfoldable pub by_singles : Layout tally (singles tally b)
  by_singles = record {
    laws = laws;
    tops = singles_tops laws b;
    shape = singles_shape laws b;
    set_at = λ p. set_of (2 ^ p);
    named = λ p. record { has_one = λ f. bit_power p f };
  }

  -- whether round i leaves no place above what the moves allow it
  unfoldable pub singles_rest : ℕ → Bool
  unfolding by_singles round allowed every highest bit
  singles_rest i = every b.facts (λ p. not_above tally.at_most (round by_singles i p) (allowed by_singles (round by_singles i) p b.moves))

  -- the estimate of a set by round i
  unfoldable pub singles_at : ℕ → FactSet → Estimate V
  unfolding by_singles round highest bit
  singles_at i s = estimate_by_singles tally (round by_singles i) s

  pub singles_greatest : Known b → (i : ℕ) → singles_rest i ≡ true → Greatest tally b 1 (singles_at i)
  unfolding every singles_rest singles_at
  singles_greatest known i low =
      let val = round by_singles i in
      greatest (singles tally b) laws (singles_tops laws b) (singles_shape laws b) known val (round_sure by_singles i)
      (all_allowed by_singles val (λ k l. (decides_every (λ p. not_above tally.at_most (val p) (allowed by_singles val p b.moves))
      (λ p. decides_test (not_above tally.at_most (val p) (allowed by_singles val p b.moves))) b.facts).0 low k (below b.facts k l)))
      (single_own laws b val)

  unfoldable pub by_pairs : Layout tally (pairs tally b)
  by_pairs = record {
    laws = laws;
    tops = pairs_tops laws b;
    shape = pairs_shape laws b;
    set_at = λ k. union (set_of (2 ^ k.0)) (set_of (2 ^ k.1));
    named = λ k. record {
      has_two = λ f. has_union (set_of (2 ^ k.0)) (set_of (2 ^ k.1)) f ∙ ap (λ x. x || bit (2 ^ k.1) f) (bit_power k.0 f) ∙ ap (λ x. eqb f k.0 || x) (bit_power k.1 f);
    };
  }

  unfoldable pub pairs_rest : ℕ → Bool
  unfolding by_pairs round allowed every highest bit
  pairs_rest i =
      every b.facts (λ p. every b.facts (λ q. not_above tally.at_most (round by_pairs i (p, q)) (allowed by_pairs (round by_pairs i) (p, q) b.moves)))

  unfoldable pub pairs_at : ℕ → FactSet → Estimate V
  unfolding by_pairs round highest bit
  pairs_at i s = estimate_by_pairs tally (round by_pairs i) s

  pairs_closed : (i : ℕ) → pairs_rest i ≡ true → (j : ℕ) (m : Move) (k : Two) (t : FactSet) → Step (pairs tally b) j m k t
      → NotAbove tally (round by_pairs i k) (via tally (pairs tally b) m (round by_pairs i) t)
  unfolding by_pairs every pairs_rest
  pairs_closed i low =
      let test : Two → Bool = λ k. not_above tally.at_most (round by_pairs i k) (allowed by_pairs (round by_pairs i) k b.moves) in
      all_allowed by_pairs (round by_pairs i) (λ k l.
      (decides_every (λ p. every b.facts (λ q. test (p, q))) (λ p. decides_every (λ q. test (p, q)) (λ q. decides_test (test (p, q))) b.facts) b.facts).0 low
      k.0 (in_table b.facts k l).0 k.1 (in_table b.facts k l).1)

  pub pairs_greatest : Known b → (i : ℕ) → pairs_rest i ≡ true → Greatest tally b 2 (pairs_at i)
  unfolding pairs_at
  pairs_greatest known i low =
      let val = round by_pairs i in
      let closed = pairs_closed i low in
      let agree = pairs_agree laws b known val (round_sure by_pairs i) closed in
      greatest (pairs tally b) laws (pairs_tops laws b) (pairs_shape laws b) known val (round_sure by_pairs i) closed
      (pair_own laws b val agree)

  -- and so a bound
  pub pairs_sound : Known b → (i : ℕ) → pairs_rest i ≡ true → (t : Task) → b.start ≡ start_of t → b.moves ≡ moves_of t
      → Sound tally t (pairs_at i) (share_at tally b.groups b.moves)
  unfolding pairs_at
  pairs_sound known i low t start moves =
      let val = round by_pairs i in
      let closed = pairs_closed i low in
      sound (pairs tally b) laws (pairs_tops laws b) (pairs_shape laws b) val
      (nil_start (pairs tally b) laws (pairs_tops laws b) (pairs_shape laws b) known val (round_sure by_pairs i) closed)
      (closed_all (pairs tally b) laws (pairs_tops laws b) (pairs_shape laws b) known val (round_sure by_pairs i) closed) t start moves
