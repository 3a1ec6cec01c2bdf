-- What comes of a set of facts, one after another to the end, are its facts.
use Rattle.std.proofs.Common.{◌≡◌, ℕ, true, Option, List, [], ◌∷◌, ◌++◌, sym, ap, subst, subst₂, append_assoc, append-nil}
use Rattle.std.specs.Iterator.{Yields}
use Rattle.std.specs.Iterator.Runs.{Run, YieldsRun}
use Rattle.facts.specs.Sets.{Lists, Next}
use Rattle.facts.specs.declared.sets.FactSet.{FactSet}
use Rattle.facts.specs.declared.sets.rising.Rising.{Rising}
use Rattle.facts.proofs.Comings.{Split, split_none, split_more, split_all}

abbrev steps : Rising → Option ℕ → Rising → Type 0
steps = λ before fact after. Next before.left fact after.left

split_on : (s : FactSet) (came xs : List ℕ) (from to : Rising) → Split s came from.left → Yields steps from xs to → Split s (came ++ xs) to.left
split_on s came [] from to sp e = subst₂ (Split s) (sym (append-nil came)) (ap (λ r. r.left) e) sp
split_on s came (x ∷ xs) from to sp (next, step, rest) =
    subst (λ l. Split s l to.left) (append_assoc came (x ∷ []) xs)
    (split_on s (came ++ (x ∷ [])) xs next to (split_more s from.left next.left came x sp step.0 step.1 step.2) rest)

pub run_lists : (p : Run steps) (s : FactSet) → p.whole ≡ true → p.from.left ≡ s → Lists s p.items
unfolding YieldsRun
run_lists p s whole from =
    let (last, came, ends) = p.gave.0 in
    split_all s last.left p.items (split_on s [] p.items p.from last (subst (Split s []) (sym from) (split_none s)) came) (ends whole).1
