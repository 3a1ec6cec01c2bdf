-- A test that a draft written down passes only if it has no fault.
use Rattle.std.proofs.Common.{◌≡◌, ℕ, ◌^◌, ◌≤◌, Bool, true, ◌&&◌, T, ◌==◌, nat_lt, nat_le, eqb→eq, List, [], ◌∷◌, length, ap, ◌∙◌, subst, sym, ⊎_elim, arith, lit<, lit≤}
use lib.Bits.{bit_and}
use Rattle.facts.specs.Sets.{HasFrom, Overlap}
use Rattle.facts.specs.Words.{bit}
use Rattle.facts.specs.declared.sets.FactSet.{FactSet}
use Rattle.facts.proofs.Tests.{and_left, and_right, and_both, not_both}
use Rattle.facts.proofs.Words.{bit_of_and, bit_none, bit_past}
use Rattle.tasks.specs.Faults.{Faulty, Faultless}
use Rattle.tasks.specs.Places.{At, here, there}
use Rattle.tasks.specs.declared.draft.Draft.{Draft}
use Rattle.tasks.specs.declared.moves.Move.{Move}
use Rattle.tasks.specs.declared.refusal.Place.{Place}
use Rattle.tasks.specs.declared.refusal.Place.TheVariants.{Heading, Move as OfMove}
use Rattle.tasks.specs.declared.refusal.Refusal.{Refusal}
use Rattle.tasks.specs.declared.refusal.Refusal.TheVariants.{OutOfRange, UnknownFact, MakesAndBreaks}

-- all facts of s are below the limit
abbrev pub below : ℕ → FactSet → Bool
below limit s = nat_lt s.word (2 ^ limit)

abbrev pub fine_facts : ℕ → Move → Bool
fine_facts facts m = below facts m.needs && (below facts m.makes && (below facts m.breaks && bit_and m.makes.word m.breaks.word == 0))

abbrev pub fine_move : ℕ → Move → Bool
fine_move facts m = nat_le m.group 7 && fine_facts facts m

abbrev pub fine_moves : ℕ → List Move → Bool
fine_moves facts [] = true
fine_moves facts (m ∷ moves) = fine_move facts m && fine_moves facts moves

abbrev pub fine_counts : Draft → Bool
fine_counts d = nat_le 1 d.facts && (nat_le d.facts 64 && nat_le (length d.moves.now) 1024)

abbrev pub fine_sets : Draft → Bool
fine_sets d = below d.facts d.start && (below d.facts d.goal && fine_moves d.facts d.moves.now)

abbrev pub is_fine : Draft → Bool
is_fine d = fine_counts d && fine_sets d

inside : (limit : ℕ) (s : FactSet) → T (below limit s) → HasFrom s limit → ⊥
inside limit s h from = not_both from.1 (bit_past s.word limit from.0 (lit< h) from.2)

apart : (s u : FactSet) → bit_and s.word u.word ≡ 0 → Overlap s u → ⊥
apart s u e o =
    not_both (subst T (sym (bit_of_and s.word u.word o.0)) (and_both (bit s.word o.0) (bit u.word o.0) o.1 o.2)) (ap (λ w. bit w o.0) e ∙ bit_none o.0)

at_fine : (facts : ℕ) {moves : List Move} {k : ℕ} {m : Move} → T (fine_moves facts moves) → At moves k m → T (fine_move facts m)
at_fine facts h here = and_left _ _ h
at_fine facts h (there at) = at_fine facts (and_right _ _ h) at

pub fine_is_faultless : (d : Draft) → T (is_fine d) → Faultless d
fine_is_faultless d h = faultless
  where
    counts : T (fine_counts d)
    counts = and_left (fine_counts d) (fine_sets d) h

    sets : T (fine_sets d)
    sets = and_right (fine_counts d) (fine_sets d) h

    fine : {k : ℕ} {m : Move} → At d.moves.now k m → T (fine_move d.facts m)
    fine at = at_fine d.facts (and_right (below d.facts d.goal) _ (and_right (below d.facts d.start) _ sets)) at

    faultless : (r : Refusal) (p : Place) → Faulty d r p → ⊥
    faultless OutOfRange Heading f =
        let some : 1 ≤ d.facts = lit≤ (and_left (nat_le 1 d.facts) _ counts) in
        let few : d.facts ≤ 64 = lit≤ (and_left (nat_le d.facts 64) _ (and_right (nat_le 1 d.facts) _ counts)) in
        let short : length d.moves.now ≤ 1024 = lit≤ (and_right (nat_le d.facts 64) _ (and_right (nat_le 1 d.facts) _ counts)) in
        ⊎_elim (λ l. omega arith) (λ k. ⊎_elim (λ l. omega arith) (λ l. omega arith) k) f
    faultless UnknownFact Heading f =
        ⊎_elim (inside d.facts d.start (and_left _ _ sets)) (inside d.facts d.goal (and_left _ _ (and_right _ _ sets))) f
    faultless MakesAndBreaks Heading f = f
    faultless OutOfRange (OfMove k) f = let low : f.0.group ≤ 7 = lit≤ (and_left (nat_le f.0.group 7) (fine_facts d.facts f.0) (fine f.1)) in let high = f.2 in omega arith
    faultless UnknownFact (OfMove k) f =
        let m = f.0 in
        let needs = and_right (nat_le m.group 7) (fine_facts d.facts m) (fine f.1) in
        let makes = and_right (below d.facts m.needs) _ needs in
        let breaks = and_right (below d.facts m.makes) _ makes in
        ⊎_elim (inside d.facts m.needs (and_left (below d.facts m.needs) _ needs))
        (⊎_elim (inside d.facts m.makes (and_left (below d.facts m.makes) _ makes)) (inside d.facts m.breaks (and_left (below d.facts m.breaks) _ breaks))) f.2
    faultless MakesAndBreaks (OfMove k) f =
        let m = f.0 in
        let needs = and_right (nat_le m.group 7) (fine_facts d.facts m) (fine f.1) in
        let makes = and_right (below d.facts m.needs) _ needs in
        let breaks = and_right (below d.facts m.makes) _ makes in
        let clear = and_right (below d.facts m.breaks) (bit_and m.makes.word m.breaks.word == 0) breaks in
        apart m.makes m.breaks (eqb→eq (bit_and m.makes.word m.breaks.word) 0 clear) f.2
