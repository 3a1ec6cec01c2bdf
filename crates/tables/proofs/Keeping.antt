-- The rules as they are tested, and what follows where they are kept.
use Rattle.std.proofs.Common.{◌≡◌, ◌↔◌, IsTrue, ℕ, Bool, List, Decides, sym, ap, subst, Some}
use Rattle.std.specs.Cmp.Lexicographic.{pointwise, pointwise_decides}
use Rattle.facts.specs.declared.sets.FactSet.{FactSet}
use Rattle.tasks.specs.Places.{At}
use Rattle.tasks.specs.Tasks.{facts_of, start_of, moves_of}
use Rattle.tasks.specs.declared.moves.Move.{Move}
use Rattle.tasks.specs.declared.task.Task.{Task}
use Rattle.costs.specs.Estimates.{Estimate}
use Rattle.costs.specs.declared.tally.Tally.{Ghosts}
use Rattle.bounds.specs.Sound.{NotAbove, Sound}
use Rattle.tables.specs.Equation.{Setting}
use Rattle.tables.specs.Laid.{Shape, Tops}
use Rattle.tables.specs.Nets.{Net, In}
use Rattle.tables.specs.Reading.{share_at}
use Rattle.tables.specs.Rules.{Rules, SameTask, Fits, is_same_set, is_same_move, is_same_task, keeps, fits}
use Rattle.tables.proofs.Decisions.{decides_like, decides_and, decides_equal, decides_all, top_tells}
use Rattle.tables.proofs.Order.{LawsOf}
use Rattle.tables.proofs.Soundness.{sound}

-- the same task
set_tells : (s u : FactSet) → Decides (is_same_set s u) (s ≡ u)
set_tells s u = decides_like (λ e i. record { word = e i }) (λ e. ap (λ x. x.word) e) (decides_equal s.word u.word)

move_tells : (m n : Move) → Decides (is_same_move m n) (m ≡ n)
move_tells m n = decides_like
    (λ w i. record { group = w.0 i; price = w.1.0 i; needs = w.1.1.0 i; makes = w.1.1.1.0 i; breaks = w.1.1.1.1 i })
    (λ e. (ap (λ x. x.group) e, (ap (λ x. x.price) e, (ap (λ x. x.needs) e, (ap (λ x. x.makes) e, ap (λ x. x.breaks) e)))))
    (decides_and _ _ (decides_equal m.group n.group) (decides_and _ _ (decides_equal m.price n.price)
    (decides_and _ _ (set_tells m.needs n.needs) (decides_and _ _ (set_tells m.makes n.makes) (set_tells m.breaks n.breaks)))))

moves_tell : (ms ns : List Move) → Decides (pointwise is_same_move ms ns) (ms ≡ ns)
moves_tell = pointwise_decides move_tells

pub task_tells : (b : Setting) (t : Task) → Decides (is_same_task b t) (SameTask b t)
task_tells b t = decides_like (λ w. record { facts = w.0; start = w.1.0; moves = w.1.1 }) (λ s. (s.facts, (s.start, s.moves)))
    (decides_and _ _ (decides_equal b.facts (facts_of t))
    (decides_and _ _ (set_tells b.start (start_of t)) (moves_tell b.moves (moves_of t))))

pub task_told : (b : Setting) (t : Task) (r : Bool) → r ≡ is_same_task b t → IsTrue r ↔ SameTask b t
task_told b t r is = subst (λ x. IsTrue x ↔ SameTask b t) (sym is) (task_tells b t)

module _ {V K : Type 0} {tally : Ghosts V} {b : Setting} (n : Net V b K) (laws : LawsOf tally) (tops : Tops tally n) (val : K → Estimate V) where
  -- all three tests, from those of the moves and of what more is asked
  pub keeps_tells : {M : Move → Type 0} {F : Type 0} → ((m : Move) → Decides (n.keeps_move val m) (M m)) → Decides (n.keeps_further val) F
      → Decides (keeps tally n val) (((k : K) → In n b.start k → NotAbove tally (val k) (Some tally.nil)) × (((j : ℕ) (m : Move) → At b.moves j m → M m) × F))
  keeps_tells each more =
      decides_and _ _ (top_tells laws (n.est val b.start) (Some tally.nil) (tops val b.start)) (decides_and _ _ (decides_all (n.keeps_move val) each b.moves) more)

  -- what the bound's test tells
  pub fits_tells : IsTrue (keeps tally n val) ↔ Rules tally n val → (t : Task) → Decides (fits tally n val t) (Fits tally n val t)
  fits_tells rules t = decides_like (λ w. record { same = w.0; rules = w.1 }) (λ f. (f.same, f.rules)) (decides_and _ _ (task_tells b t) rules)

  pub fits_sound : Shape n → (t : Task) → Fits tally n val t → Sound tally t (n.est val) (share_at tally b.groups b.moves)
  fits_sound shape t f = sound n laws tops shape val f.rules.start f.rules.moves t f.same.start f.same.moves
