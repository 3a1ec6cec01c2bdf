-- The tables of the small tasks.
use Rattle.std.proofs.Common.{◌≡◌, ℕ, ◌<◌, true, T, sym, refl, ◌∙◌, subst, lit<, lit≤, None, Some}
use Rattle.facts.specs.Sets.{has}
use Rattle.facts.specs.declared.sets.FactSet.{FactSet}
use Rattle.facts.proofs.Tests.{not_both}
use Rattle.facts.proofs.Words.{bit_none, bit_inside}
use Rattle.tasks.specs.Places.{At, here, there}
use Rattle.tasks.specs.Tasks.{goal_of, moves_of}
use Rattle.tasks.specs.declared.moves.Move.{Move}
use Rattle.tasks.specs.declared.task.Task.{Task}
use Rattle.costs.specs.Minutes.{held}
use Rattle.costs.specs.Worst.{single}
use Rattle.costs.specs.Estimates.{Estimate}
use Rattle.costs.specs.declared.tally.Tally.{Ghosts}
use Rattle.bounds.specs.Sound.{Sound}
use Rattle.tables.specs.Equation.{setting_of}
use Rattle.tables.specs.Reading.{share_at}
use Rattle.tables.proofs.Closing.{greatest_is_sole}
use Rattle.tables.proofs.Order.{LawsOf}
use Rattle.tables.proofs.Seen.{known}
use Rattle.tables.specs.Laid.{Known}
use Rattle.worked.specs.Cases.{Gives}
use Rattle.costs.specs.Kinds.{minutes, worst}
use Rattle.worked.specs.Lending.{every_group, only_group, Table}
use Rattle.theory.specs.Tasks.{set_of, small, startless}
use Rattle.worked.specs.Tasks.{circle}
use Rattle.worked.proofs.Estimates.{singles_rest, singles_at, singles_greatest, pairs_rest, pairs_at, pairs_greatest, pairs_sound}
use Rattle.worked.proofs.Laws.{minutes_laws, worst_laws}

module _ {V : Type 0} {tally : Ghosts V} (laws : LawsOf tally) (t : Task) (groups : ℕ) (k : Known (setting_of t groups)) (i : ℕ) where
  singles_give : singles_rest laws (setting_of t groups) i ≡ true
      → (s : FactSet) {e : Estimate V} → singles_at laws (setting_of t groups) i s ≡ e → Gives tally t groups 1 s e
  singles_give rest s is =
      let g = singles_greatest laws (setting_of t groups) k i rest in
      record { one = record { est = _; greatest = g }; all = λ table. greatest_is_sole laws (setting_of t groups) 1 table.est _ table.greatest g s ∙ is }

  module _ (rest : pairs_rest laws (setting_of t groups) i ≡ true) where
    pairs_are : (table : Table tally t groups 2) (s : FactSet) → table.est s ≡ pairs_at laws (setting_of t groups) i s
    pairs_are table s = greatest_is_sole laws (setting_of t groups) 2 table.est _ table.greatest (pairs_greatest laws (setting_of t groups) k i rest) s

    pairs_give : (s : FactSet) {e : Estimate V} → pairs_at laws (setting_of t groups) i s ≡ e → Gives tally t groups 2 s e
    pairs_give s is =
        record { one = record { est = _; greatest = pairs_greatest laws (setting_of t groups) k i rest }; all = λ table. pairs_are table s ∙ is }

    pairs_bound : (table : Table tally t groups 2) → Sound tally t table.est (share_at tally groups (moves_of t))
    pairs_bound table =
        let same : pairs_at laws (setting_of t groups) i ≡ table.est = λ j s. sym (pairs_are table s) j in
        subst (λ est. Sound tally t est (share_at tally groups (moves_of t))) same (pairs_sound laws (setting_of t groups) k i rest t refl refl)

small_known : (groups : ℕ) → Known (setting_of small groups)
small_known groups = known small groups

startless_known : Known (setting_of startless every_group)
startless_known = known startless every_group

circle_known : Known (setting_of circle every_group)
circle_known = record { few = lit≤ tt; start = λ f h. absurd (not_both h (bit_none f)); makes = λ j m at f h. made at f h }
  where
    made : {j : ℕ} {m : Move} → At (moves_of circle) j m → (f : ℕ) → T (has m.makes f) → f < 2
    made here f h = bit_inside 2 2 f (lit< tt) h
    made (there here) f h = bit_inside 1 2 f (lit< tt) h
    made (there (there at)) f h = elim at [ ]

pub goal_by_singles : Gives minutes small every_group 1 (goal_of small) (Some (held 15))
unfolding singles_rest singles_at
goal_by_singles = singles_give minutes_laws small every_group (small_known every_group) 1 refl (goal_of small) refl

pub goal_by_group_0 : Gives minutes small (only_group 0) 1 (goal_of small) (Some (held 15))
unfolding singles_rest singles_at
goal_by_group_0 = singles_give minutes_laws small (only_group 0) (small_known (only_group 0)) 1 refl (goal_of small) refl

pub goal_by_group_1 : Gives minutes small (only_group 1) 1 (goal_of small) (Some (held 4))
unfolding singles_rest singles_at
goal_by_group_1 = singles_give minutes_laws small (only_group 1) (small_known (only_group 1)) 1 refl (goal_of small) refl

pub worst_by_singles : Gives worst small every_group 1 (goal_of small) (Some (single 15))
unfolding singles_rest singles_at
worst_by_singles = singles_give worst_laws small every_group (small_known every_group) 1 refl (goal_of small) refl

pub worst_by_group_1 : Gives worst small (only_group 1) 1 (goal_of small) (Some (single 4))
unfolding singles_rest singles_at
worst_by_group_1 = singles_give worst_laws small (only_group 1) (small_known (only_group 1)) 1 refl (goal_of small) refl

pub goal_by_pairs : Gives minutes small every_group 2 (goal_of small) (Some (held 19))
unfolding pairs_rest pairs_at
goal_by_pairs = pairs_give minutes_laws small every_group (small_known every_group) 2 refl (goal_of small) refl

startless_rests : pairs_rest minutes_laws (setting_of startless every_group) 1 ≡ true
unfolding pairs_rest
startless_rests = refl

pub startless_by_pairs : Gives minutes startless every_group 2 (goal_of startless) None
unfolding pairs_rest pairs_at
startless_by_pairs = pairs_give minutes_laws startless every_group startless_known 1 startless_rests (goal_of startless) refl

pub startless_bound : (table : Table minutes startless every_group 2) → Sound minutes startless table.est (share_at minutes every_group (moves_of startless))
startless_bound = pairs_bound minutes_laws startless every_group startless_known 1 startless_rests

pub never_first : Gives minutes circle every_group 1 (set_of 1) None
unfolding singles_rest singles_at
never_first = singles_give minutes_laws circle every_group circle_known 0 refl (set_of 1) refl

pub never_second : Gives minutes circle every_group 1 (set_of 2) None
unfolding singles_rest singles_at
never_second = singles_give minutes_laws circle every_group circle_known 0 refl (set_of 2) refl
