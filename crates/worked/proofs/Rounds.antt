-- The places of a table lowered round by round, which is computed; where a round lowers none, they are the greatest solution.
use Rattle.std.proofs.Common.{◌≡◌, ℕ, zero, suc, Bool, cond, ◌&&◌, ◌⊎◌, List, [], ◌∷◌, Decides, sym, refl, ◌∙◌, subst, inl, inr, ⊎_elim, None, Some}
use Rattle.std.proofs.lemmas.Bool.{cases_Bool, cond-true, cond-false, cond_both}
use Rattle.facts.specs.declared.sets.FactSet.{FactSet}
use Rattle.facts.proofs.Members.{union, without}
use Rattle.tasks.specs.Moves.{Regresses}
use Rattle.tasks.specs.Places.{At, here, there}
use Rattle.tasks.specs.declared.moves.Move.{Move}
use Rattle.tasks.proofs.Bearing.{regresses_same}
use Rattle.costs.specs.Choices.{Smaller, smaller_of}
use Rattle.costs.specs.Estimates.{not_above}
use Rattle.costs.specs.Estimates.{Estimate}
use Rattle.costs.specs.EstimatesLemmas.{estimates_lawful}
use Rattle.costs.proofs.Orders as orders
use Rattle.costs.specs.declared.tally.Tally.{Ghosts}
use Rattle.bounds.specs.Sound.{NotAbove}
use Rattle.tables.specs.Equation.{Setting}
use Rattle.tables.specs.Laid.{Shape, Tops}
use Rattle.tables.specs.Nets.{Net, Present}
use Rattle.tables.specs.Settling.{Start, Step, via, Under, Backed, unreached, begun, stepped, Sure}
use Rattle.tables.proofs.Decisions.{decides_and, decides_test}
use Rattle.tables.proofs.Engine.{est_mono, via_mono_est}
use Rattle.tables.proofs.Order as order
use Rattle.tables.proofs.Order.{LawsOf}
use Rattle.theory.proofs.Members.{decided, within_or_not, overlaps_or_not, regression}

-- where a move regresses a set to, or that it does not
abbrev Tried : Move → FactSet → Type 0
Tried m s = ((t : FactSet) × Regresses m s t) ⊎ ((t : FactSet) → Regresses m s t → ⊥)

-- what the rounds are computed from
pub record Layout {V K : Type 0} {b : Setting} (tally : Ghosts V) (n : Net V b K) : Type 0 where
  pub laws : LawsOf tally
  pub tops : Tops tally n
  pub shape : Shape n
  pub set_at : K → FactSet
  pub named : (k : K) → n.Names k (set_at k)

module _ {V K : Type 0} {tally : Ghosts V} {b : Setting} {n : Net V b K} (L : Layout tally n) where
  abbrev begins : K → Bool
  begins k = n.present k && n.inside b.start k

  begins_is : (k : K) → Decides (begins k) (Start n k)
  begins_is k = decides_and (n.present k) (n.inside b.start k) (decides_test (n.present k)) (decides_test (n.inside b.start k))

  abbrev Le : Estimate V → Estimate V → Type 0
  Le e f = NotAbove tally e f

  abbrev lesser : Estimate V → Estimate V → Estimate V
  lesser e f = smaller_of (not_above tally.at_most) e f

  is_lesser : (e f : Estimate V) → Smaller (not_above tally.at_most) e f (lesser e f)
  is_lesser = orders.smaller_made (estimates_lawful L.laws.lawful)

  -- what a move allows the place, if it regresses its set, or the rest
  abbrev with_move : (val : K → Estimate V) (k : K) (m : Move) → Tried m (L.set_at k) → Estimate V → Estimate V
  with_move val k m (inl g) rest = lesser (via tally n m val g.0) rest
  with_move val k m (inr none) rest = rest

  -- the least that the moves allow the place
  unfoldable pub allowed : (K → Estimate V) → K → List Move → Estimate V
  unfolding regression within_or_not overlaps_or_not decided union without
  allowed val k [] = None
  allowed val k (m ∷ moves) = with_move val k m (regression m (L.set_at k)) (allowed val k moves)

  module _ (val : K → Estimate V) (k : K) where
    with_least : (m : Move) (r : Tried m (L.set_at k)) (rest : Estimate V) (t : FactSet)
        → Regresses m (L.set_at k) t → Le (with_move val k m r rest) (via tally n m val t)
    with_least m (inl g) rest t s =
        subst (λ x. Le (lesser (via tally n m val g.0) rest) (via tally n m val x)) (regresses_same g.1 s) (is_lesser (via tally n m val g.0) rest).below_one
    with_least m (inr none) rest t s = absurd (none t s)

    with_rest : (m : Move) (r : Tried m (L.set_at k)) (rest : Estimate V)
        → Le (with_move val k m r rest) rest
    with_rest m (inl g) rest = (is_lesser (via tally n m val g.0) rest).below_other
    with_rest m (inr none) rest = order.reflexive L.laws rest

    allowed_least : (moves : List Move) {j : ℕ} {m : Move} {t : FactSet} → At moves j m → Regresses m (L.set_at k) t → Le (allowed val k moves) (via tally n m val t)
    unfolding allowed
    allowed_least [] at s = elim at [ ]
    allowed_least (m ∷ moves) {t = t} here s = with_least m (regression m (L.set_at k)) (allowed val k moves) t s
    allowed_least (x ∷ moves) {m = m} {t = t} (there at) s =
        order.transitive L.laws (allowed val k (x ∷ moves)) (allowed val k moves) (via tally n m val t)
        (with_rest x (regression x (L.set_at k)) (allowed val k moves)) (allowed_least moves at s)

    -- a move by which e comes about
    record By (moves : List Move) (e : Estimate V) : Type 0 where
      pub number : ℕ
      pub move : Move
      pub at : At moves number move
      pub to : FactSet
      pub regresses : Regresses move (L.set_at k) to
      pub is : e ≡ via tally n move val to

    by_later : (x : Move) (moves : List Move) (e f : Estimate V) → e ≡ f → (f ≡ None) ⊎ By moves f → (e ≡ None) ⊎ By (x ∷ moves) e
    by_later x moves e f is (inl never) = inl (is ∙ never)
    by_later x moves e f is (inr b) =
        inr (record { number = suc b.number; move = b.move; at = there b.at; to = b.to; regresses = b.regresses; is = is ∙ b.is })

    with_by : (x : Move) (moves : List Move) (r : Tried x (L.set_at k)) (rest : Estimate V)
        → (rest ≡ None) ⊎ By moves rest → (with_move val k x r rest ≡ None) ⊎ By (x ∷ moves) (with_move val k x r rest)
    with_by x moves (inr none) rest b = by_later x moves rest rest refl b
    with_by x moves (inl g) rest b =
        ⊎_elim
        (λ e. inr (record { number = zero; move = x; at = here; to = g.0; regresses = g.1; is = e }))
        (λ e. by_later x moves (lesser (via tally n x val g.0) rest) rest e b)
        (is_lesser (via tally n x val g.0) rest).chosen

    allowed_by : (moves : List Move) → (allowed val k moves ≡ None) ⊎ By moves (allowed val k moves)
    unfolding allowed
    allowed_by [] = inl refl
    allowed_by (x ∷ moves) = with_by x moves (regression x (L.set_at k)) (allowed val k moves) (allowed_by moves)

  -- nil in the start, never elsewhere
  unfoldable pub first : K → Estimate V
  first k = cond (begins k) (Some tally.nil) None

  -- each place of the table comes down to what the moves allow it
  unfoldable pub next : (K → Estimate V) → K → Estimate V
  unfolding allowed
  next val k = lesser (val k) (cond (n.present k) (allowed val k b.moves) None)

  unfoldable pub round : ℕ → K → Estimate V
  unfolding first next
  round zero = first
  round (suc i) = next (round i)

  first_sure : Sure tally n first
  unfolding first
  first_sure = record {
    above = λ h u k. cond_both (begins k) (Some tally.nil) None (λ x. Le (h k) x) (λ e. u.begun k ((begins_is k).0 e)) (λ e. order.top L.laws (h k));
    backed = λ k. ⊎_elim (λ e. begun ((begins_is k).0 e)) (λ e. unreached (cond-false (begins k) (Some tally.nil) None e)) (cases_Bool (begins k));
    begun = λ k s. cond-true (begins k) (Some tally.nil) None ((begins_is k).1 s);
    absent = λ k out. cond_both (begins k) (Some tally.nil) None (λ x. x ≡ None) (λ e. absurd (out ((begins_is k).0 e).0)) (λ e. refl);
  }

  module _ (val : K → Estimate V) (sure : Sure tally n val) where
    abbrev rest : K → Estimate V
    rest k = cond (n.present k) (allowed val k b.moves) None

    falls : (k : K) → Le (next val k) (val k)
    unfolding next
    falls k = (is_lesser (val k) (rest k)).below_one

    chosen : (k : K) → (next val k ≡ val k) ⊎ (next val k ≡ rest k)
    unfolding next
    chosen k = (is_lesser (val k) (rest k)).chosen

    via_falls : (low : K → Estimate V) → ((k : K) → Le (low k) (val k)) → (m : Move) (t : FactSet) → Le (via tally n m low t) (via tally n m val t)
    via_falls low le m t =
        via_mono_est n L.laws L.tops m (n.est low t) (n.est val t) (est_mono n L.laws L.tops val low t (λ k i. le k))

    step_at : (k : K) → Present n k → (b : By val k b.moves (allowed val k b.moves)) → Step n b.number b.move k b.to
    step_at k p b = record { present = p; at = b.at; set = L.set_at k; names = L.named k; regresses = b.regresses }

    above_rest : (h : K → Estimate V) → Under tally n h → (k : K) → Le (h k) (rest k)
    above_rest h u k =
        cond_both (n.present k) (allowed val k b.moves) None (λ x. Le (h k) x)
        (λ e. ⊎_elim (λ never. subst (λ x. Le (h k) x) (sym never) (order.top L.laws (h k)))
        (λ b. subst (λ x. Le (h k) x) (sym b.is) (order.transitive L.laws (h k) (via tally n b.move h b.to) (via tally n b.move val b.to)
        (u.steps b.number b.move k b.to (step_at k ((decides_test (n.present k)).0 e) b)) (via_falls h (sure.above h u) b.move b.to)))
        (allowed_by val k b.moves))
        (λ e. order.top L.laws (h k))

    still : (k : K) → next val k ≡ val k → Backed tally n val k → Backed tally n (next val) k
    still k e (unreached never) = unreached (e ∙ never)
    still k e (begun s) = begun s
    still k e (stepped j m t s l) =
        stepped j m t s (order.transitive L.laws (via tally n m (next val) t) (via tally n m val t) (next val k) (via_falls (next val) falls m t)
        (subst (λ x. Le (via tally n m val t) x) (sym e) l))

    backed_rest : (k : K) → next val k ≡ rest k → Backed tally n (next val) k
    backed_rest k e =
        ⊎_elim
        (λ p. let is = e ∙ cond-true (n.present k) (allowed val k b.moves) None p in
        ⊎_elim (λ never. unreached (is ∙ never))
        (λ b. stepped b.number b.move b.to (step_at k ((decides_test (n.present k)).0 p) b)
        (subst (λ x. Le (via tally n b.move (next val) b.to) x) (sym (is ∙ b.is)) (via_falls (next val) falls b.move b.to)))
        (allowed_by val k b.moves))
        (λ p. unreached (e ∙ cond-false (n.present k) (allowed val k b.moves) None p))
        (cases_Bool (n.present k))

    next_sure : Sure tally n (next val)
    next_sure = record {
      above = λ h u k. ⊎_elim (λ e. subst (λ x. Le (h k) x) (sym e) (sure.above h u k)) (λ e. subst (λ x. Le (h k) x) (sym e) (above_rest h u k)) (chosen k);
      backed = λ k. ⊎_elim (λ e. still k e (sure.backed k)) (backed_rest k) (chosen k);
      begun = λ k s. order.antisymmetric L.laws (next val k) (Some tally.nil) (subst (λ x. Le (next val k) x) (sure.begun k s) (falls k))
          (order.least L.laws (next val k));
      absent = λ k out. order.antisymmetric L.laws (next val k) None (order.top L.laws (next val k))
          (⊎_elim (λ e. order.same L.laws (sym (e ∙ sure.absent k out)))
          (λ e. order.same L.laws (sym (e ∙ cond_both (n.present k) (allowed val k b.moves) None (λ x. x ≡ None) (λ p. absurd (out ((decides_test (n.present k)).0 p))) (λ p. refl))))
          (chosen k));
    }

  pub round_sure : (i : ℕ) → Sure tally n (round i)
  unfolding round
  round_sure zero = first_sure
  round_sure (suc i) = next_sure (round i) (round_sure i)

  -- no place is above what the moves allow it
  pub all_allowed : (val : K → Estimate V) → ((k : K) → Present n k → Le (val k) (allowed val k b.moves))
      → (j : ℕ) (m : Move) (k : K) (t : FactSet) → Step n j m k t → Le (val k) (via tally n m val t)
  all_allowed val low j m k t s =
      order.transitive L.laws (val k) (allowed val k b.moves) (via tally n m val t) (low k s.present)
      (allowed_least val k b.moves s.at (subst (λ x. Regresses m x t) (L.shape.same_set k s.set (L.set_at k) s.names (L.named k)) s.regresses))
