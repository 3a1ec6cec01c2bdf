-- Good lists and chains of regressions.
use Rattle.std.proofs.Common.{ℕ, List, [], ◌∷◌, ◌++◌}
use Rattle.facts.specs.Sets.{Within, Overlap}
use Rattle.facts.specs.declared.sets.FactSet.{FactSet}
use Rattle.facts.proofs.Members.{overlap_or_not}
use Rattle.tasks.specs.Lists.{Step, Carried, Chain, Sublist, empty, keep, skip, ChainsAreGoodLists, GoodListsHaveChains}
use Rattle.tasks.specs.Places.{At}
use Rattle.tasks.specs.declared.moves.Move.{Move}
use Rattle.tasks.specs.declared.refusal.Place.TheVariants.{Move as OfMove}
use Rattle.tasks.specs.declared.refusal.Refusal.TheVariants.{MakesAndBreaks}
use Rattle.tasks.proofs.Bearing.{carried_on, before, Before, stood, regressed}

-- one more move at the end of a list
pub carried_more : {moves : List Move} {s t u : FactSet} {k : ℕ} {l : List ℕ} → Carried moves s l t → Step moves k t u → Carried moves s (l ++ (k ∷ [])) u
carried_more Carried.none step = Carried.first step Carried.none
carried_more (Carried.first here rest) step = Carried.first here (carried_more rest step)

-- the chain's list, carried out wherever its last set stands, leaves its first set standing
pub chain_carried : {moves : List Move} {s u : FactSet} {l : List ℕ} → Chain moves s l u → {x : FactSet} → Within u x
    → (end : FactSet) × Carried moves x l end × Within s end
chain_carried Chain.none {x} w = (x, Carried.none, w)
chain_carried (Chain.back {m = m} chain at r) w =
    let after = carried_on r w in
    let rest = chain_carried chain after.2 in
    (rest.0, Carried.first (m, at, after.1) rest.1, rest.2)

pub chains_are_good_lists : ChainsAreGoodLists
chains_are_good_lists d l r =
    let all = chain_carried r.chain r.within in record { end = all.0; carried = all.1; stands = all.2 }

-- a chain from s by some of the list's moves, to a set that stood in x
pub record Traced (moves : List Move) (s x : FactSet) (l : List ℕ) : Type 0 where
  pub some : List ℕ
  pub last : FactSet
  pub chain : Chain moves s some last
  pub within : Within last x
  pub sublist : Sublist some l

module _ {moves : List Move} (apart : (k : ℕ) (m : Move) → At moves k m → Overlap m.makes m.breaks → ⊥) where
  longer : {s x y : FactSet} {k : ℕ} {m : Move} {l : List ℕ} → At moves k m → (tr : Traced moves s y l) → Before m tr.last x → Traced moves s x (k ∷ l)
  longer at tr (stood w) = record { some = tr.some; last = tr.last; chain = tr.chain; within = w; sublist = skip tr.sublist }
  longer {k = k} at tr (regressed {t = t} r w) =
      record { some = k ∷ tr.some; last = t; chain = Chain.back tr.chain at r; within = w; sublist = keep tr.sublist }

  pub traced : {s x end : FactSet} {l : List ℕ} → Carried moves x l end → Within s end → Traced moves s x l
  traced {s} Carried.none w = record { some = []; last = s; chain = Chain.none; within = w; sublist = empty }
  traced (Carried.first {k = k} step rest) w =
      let tr = traced rest w in
      let m = step.0 in
      longer step.1 tr (before (apart k m step.1) step.2 tr.within (overlap_or_not m.makes tr.last))

pub good_lists_have_chains : GoodListsHaveChains
good_lists_have_chains d faultless l good =
    let tr = traced (λ k m at o. faultless MakesAndBreaks (OfMove k) (m, at, o)) good.carried good.stands in
    (tr.some, record { last = tr.last; chain = tr.chain; within = tr.within }, tr.sublist)
