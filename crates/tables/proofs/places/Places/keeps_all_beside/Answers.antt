use Rattle.std.proofs.Common.{◌≡◌, ◌↔◌, IsTrue, ℕ, Bool, T, sym, ap, ◌∙◌, subst, below_more}
use Rattle.std.proofs.lemmas.Bool.{false≢true}
use Rattle.facts.specs.Sets.{has}
use Rattle.facts.specs.declared.sets.FactSet.{FactSet}
use Rattle.facts.proofs.Tests.{from_true, not_both}
use Rattle.tasks.specs.declared.moves.Move.{Move}
use Rattle.costs.specs.Estimates.{Estimate}
use Rattle.costs.specs.declared.tally.Tally.{Ghosts}
use Rattle.bounds.specs.Sound.{NotAbove}
use Rattle.tables.specs.Equation.{Setting, offer_of}
use Rattle.tables.specs.Nets.{pairs, place_of, heads, besides, UnderOffer}
use Rattle.tables.specs.Origins.{setting_in}
use Rattle.tables.specs.Reading.{Two, Top}
use Rattle.tables.proofs.Order.{LawsOf, laws_of}
use Rattle.tables.proofs.Tops.{top_sole}
use Rattle.tables.proofs.TwoFacts.{besides_top}
use Rattle.tables.proofs.places.Places.keeps_all_beside.Goals as goal

-- the heads beside r, as they are compared
beside_test : {V : Type 0} {tally : Ghosts V} (laws : LawsOf tally) (b : Setting) (val : Two → Estimate V) (m : Move) (r : ℕ) (made : FactSet) → ((f : ℕ) → has made f ≡ heads m f)
    → (beside offer : Estimate V) (within : Bool) → Top tally (λ k. T (besides m r k.0) × T (besides m r k.1)) val beside → offer ≡ offer_of tally b m beside
    → IsTrue within ↔ ((p : ℕ) → T (has made p) → NotAbove tally (val (p, r)) offer)
    → IsTrue within ↔ UnderOffer tally b val m r
beside_test {tally = tally} laws b val m r made is beside offer within beside_top offered told =
    let same = offered ∙ ap (offer_of tally b m) (top_sole laws beside_top (besides_top laws val m r)) in (
      (λ e p head. subst (NotAbove tally (val (p, r))) same (told.0 e p (subst T (sym (is p)) head))),
      λ under. told.1 (λ p h. subst (NotAbove tally (val (p, r))) (sym same) (under p (subst T (is p) h))),
    )

pub loop-r-preserved-then-has : goal.loop-r-preserved-then-has
loop-r-preserved-then-has g c =
    let b = setting_in c.args.self.now.origin in
    let m = c.args.m.now in
    let val = place_of (pairs g.V.Tally b) c.args.self.now.table.now in
    below_more (λ r. (T (has m.breaks r) → ⊥) → UnderOffer g.V.Tally b val m r) c.loop-r.r c.loop-r.invariant (λ whole. absurd (whole (from_true (sym c.has.ensures ∙ c.if-has.true))))

pub loop-r-preserved : goal.loop-r-preserved
loop-r-preserved g c =
    let tally = g.V.Tally in
    let b = setting_in c.args.self.now.origin in
    let m = c.args.m.now in
    let val = place_of (pairs tally b) c.args.self.now.table.now in
    let test = beside_test (laws_of tally g.met.V.Tally.lawful) b val m c.loop-r.r c.without-heads.result c.without-heads.ensures c.with_beside.result c.offer-offer.result c.column_within.result c.with_beside.ensures c.offer-offer.ensures c.column_within.ensures in
    below_more (λ r. (T (has m.breaks r) → ⊥) → UnderOffer tally b val m r) c.loop-r.r c.loop-r.invariant (λ whole. test.0 c.if-not-column_within.false)

pub returns-then-not-column_within : goal.returns-then-not-column_within
returns-then-not-column_within g c =
    let tally = g.V.Tally in
    let b = setting_in c.args.self.now.origin in
    let m = c.args.m.now in
    let val = place_of (pairs tally b) c.args.self.now.table.now in
    let test = beside_test (laws_of tally g.met.V.Tally.lawful) b val m c.loop-r.r c.without-heads.result c.without-heads.ensures c.with_beside.result c.offer-offer.result c.column_within.result c.with_beside.ensures c.offer-offer.ensures c.column_within.ensures in (
      (λ e. absurd (false≢true e)),
      λ all. absurd (false≢true (sym c.if-not-column_within.true ∙ test.1 (all c.loop-r.r c.loop-r-test.true (λ h. not_both h (sym c.has.ensures ∙ c.if-has.false))))),
    )
