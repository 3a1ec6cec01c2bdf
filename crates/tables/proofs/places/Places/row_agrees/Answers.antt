use Rattle.std.proofs.Common.{◌≡◌, ℕ, ◌&&◌, sym, ◌∙◌, refl}
use Rattle.costs.specs.Estimates.{not_above}
use Rattle.costs.specs.Estimates.{Estimate}
use Rattle.costs.specs.declared.tally.Tally.{Ghosts}
use Rattle.tables.specs.Nets.{pairs, place_of, every, agrees_at}
use Rattle.tables.specs.Origins.{setting_in}
use Rattle.tables.specs.Reading.{Two}
use Rattle.tables.proofs.Decisions.{every_more, every_fails}
use Rattle.tables.proofs.places.Places.row_agrees.Goals as goal

-- the two comparisons, of the places that were read
agree : {V : Type 0} (tally : Ghosts V) (val : Two → Estimate V) (p q : ℕ) (one pair other : Estimate V) → one ≡ val (p, p) → pair ≡ val (p, q) → other ≡ val (q, p)
    → (not_above tally.at_most one pair && not_above tally.at_most pair other) ≡ agrees_at tally val p q
agree tally val p q one pair other a b c = λ i. not_above tally.at_most (a i) (b i) && not_above tally.at_most (b i) (c i)

pub loop-q-init : goal.loop-q-init
unfolding every
loop-q-init g c = refl

pub loop-q-preserved : goal.loop-q-preserved
loop-q-preserved g c = every_more c.loop-q.q _ c.loop-q.invariant
    (sym (agree g.V.Tally (place_of (pairs g.V.Tally (setting_in c.args.self.now.origin)) c.args.self.now.table.now) c.args.p c.loop-q.q _ _ _ c.pair-single.ensures c.pair-pair.ensures c.pair.ensures) ∙ sym (λ i. c.at_most.ensures i && c.at_most-in-loop-q.ensures i) ∙ c.if-not-at_most.false)

pub returns-then-not-at_most : goal.returns-then-not-at_most
returns-then-not-at_most g c = sym (every_fails c.args.self.now.origin.facts c.loop-q.q _ c.loop-q-test.true
    (sym (agree g.V.Tally (place_of (pairs g.V.Tally (setting_in c.args.self.now.origin)) c.args.self.now.table.now) c.args.p c.loop-q.q _ _ _ c.pair-single.ensures c.pair-pair.ensures c.pair.ensures) ∙ sym (λ i. c.at_most.ensures i && c.at_most-in-loop-q.ensures i) ∙ c.if-not-at_most.true))
