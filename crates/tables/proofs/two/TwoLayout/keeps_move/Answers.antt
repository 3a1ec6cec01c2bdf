use Rattle.std.proofs.Common.{◌≡◌, ◌↔◌, IsTrue, ℕ, Bool, T, ap, ◌∙◌, sym, subst, None}
use Rattle.facts.specs.Sets.{has}
use Rattle.facts.specs.declared.sets.FactSet.{FactSet}
use Rattle.facts.proofs.Tests.{from_true, not_both}
use Rattle.tasks.specs.declared.moves.Move.{Move}
use Rattle.costs.specs.Estimates.{Estimate}
use Rattle.costs.specs.declared.tally.Tally.{Ghosts}
use Rattle.bounds.specs.Sound.{NotAbove}
use Rattle.tables.specs.Equation.{Setting, offer_of}
use Rattle.tables.specs.Nets.{pairs, place_of, heads}
use Rattle.tables.specs.Origins.{setting_in}
use Rattle.tables.specs.Reading.{Two, Top}
use Rattle.tables.proofs.Cells.{outside}
use Rattle.tables.proofs.Decisions.{decides_same}
use Rattle.tables.proofs.Order.{LawsOf, laws_of}
use Rattle.tables.proofs.Tops.{pairs_top, top_sole}
use Rattle.tables.proofs.TwoFacts.{AloneTested, read_tells}
use Rattle.tables.proofs.two.TwoLayout.keeps_move.Goals as goal

-- each head alone, as it is compared
alone_test : {V : Type 0} {tally : Ghosts V} (laws : LawsOf tally) (b : Setting) (val : Two → Estimate V) (m : Move) (made : FactSet) → ((f : ℕ) → has made f ≡ heads m f)
    → (base offer : Estimate V) (within : Bool) → Top tally (λ k. T (has m.needs k.0) × T (has m.needs k.1)) val base → offer ≡ offer_of tally b m base
    → IsTrue within ↔ ((p : ℕ) → T (has made p) → NotAbove tally (val (p, p)) offer)
    → IsTrue within ↔ AloneTested laws b val m
alone_test {tally = tally} laws b val m made is base offer within needs offered told =
    let same = offered ∙ ap (offer_of tally b m) (top_sole laws needs (pairs_top laws val m.needs)) in (
      (λ e p head. subst (NotAbove tally (val (p, p))) same (told.0 e p (subst T (sym (is p)) head))),
      λ all. told.1 (λ p h. subst (NotAbove tally (val (p, p))) (sym same) (all p (subst T (is p) h))),
    )

pub returns-then-keeps_all_beside : goal.returns-then-keeps_all_beside
returns-then-keeps_all_beside g c =
    let tally = g.V.Tally in
    let laws = laws_of tally g.met.V.Tally.lawful in
    let b = setting_in c.args.places.now.origin in
    let m = c.args.m.now in
    let table = c.args.places.now.table.now in
    let val = place_of (pairs tally b) table in
    let alone = alone_test laws b val m c.without.result c.without.ensures c.highest_pair-base.result c.offer.result c.alone_within.result c.highest_pair-base.ensures c.offer.ensures c.alone_within.ensures in
    decides_same c.alone_within.result ((pairs tally b).keeps_move val m)
    ((λ e. (c.keeps_all_beside.ensures.0 c.if-keeps_all_beside.true, alone.0 e)), λ w. alone.1 w.1)
    (read_tells laws b val (outside (pairs tally b) None table) m)

pub returns-else-keeps_all_beside : goal.returns-else-keeps_all_beside
returns-else-keeps_all_beside g c =
    let tally = g.V.Tally in
    let laws = laws_of tally g.met.V.Tally.lawful in
    let b = setting_in c.args.places.now.origin in
    let m = c.args.m.now in
    let table = c.args.places.now.table.now in
    let val = place_of (pairs tally b) table in
    decides_same c.keeps_all_beside.result ((pairs tally b).keeps_move val m)
    ((λ e. absurd (not_both (from_true e) c.if-keeps_all_beside.false)), λ w. c.keeps_all_beside.ensures.1 w.0)
    (read_tells laws b val (outside (pairs tally b) None table) m)
