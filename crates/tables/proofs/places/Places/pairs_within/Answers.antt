use Rattle.std.proofs.Common.{ℕ, T, sym, ap, ◌∙◌}
use Rattle.std.proofs.lemmas.Bool.{false≢true}
use Rattle.facts.specs.Sets.{has}
use Rattle.bounds.specs.Sound.{NotAbove}
use Rattle.tables.specs.Nets.{pairs, place_of}
use Rattle.tables.specs.Origins.{setting_in}
use Rattle.tables.proofs.Decisions.{fails_at, holds_more, holds_all}
use Rattle.tables.proofs.places.Places.pairs_within.Goals as goal

pub returns-then-not-column_within : goal.returns-then-not-column_within
returns-then-not-column_within g c =
    let val = place_of (pairs g.V.Tally (setting_in c.args.self.now.origin)) c.args.self.now.table.now in
    let Here : ℕ → Type 0 = λ r. (p : ℕ) → T (has c.args.set p) → NotAbove g.V.Tally (val (p, r)) c.args.limit in
    let is = ap (λ x. x.left) c.into_iter-r-iterator.ensures.into_iter_gives ∙ c.iter-r-items.ensures in
    fails_at Here c.args.set c.into_iter-r-iterator.result.left c.loop-r.r-iterator.left c.next.new.self.left c.in-Some.r is c.loop-r.invariant.0 c.in-Some.ensures.steps
    (λ h. false≢true (sym c.if-not-column_within.true ∙ c.column_within.ensures.1 h))

pub loop-r-preserved : goal.loop-r-preserved
loop-r-preserved g c =
    let val = place_of (pairs g.V.Tally (setting_in c.args.self.now.origin)) c.args.self.now.table.now in
    let Here : ℕ → Type 0 = λ r. (p : ℕ) → T (has c.args.set p) → NotAbove g.V.Tally (val (p, r)) c.args.limit in
    holds_more Here c.args.set c.into_iter-r-iterator.result.left c.loop-r.r-iterator.left c.next.new.self.left c.in-Some.r c.loop-r.invariant.0 c.in-Some.ensures.steps c.loop-r.invariant.1
    (c.column_within.ensures.0 c.if-not-column_within.false)

pub returns : goal.returns
returns g c =
    let val = place_of (pairs g.V.Tally (setting_in c.args.self.now.origin)) c.args.self.now.table.now in
    let Here : ℕ → Type 0 = λ r. (p : ℕ) → T (has c.args.set p) → NotAbove g.V.Tally (val (p, r)) c.args.limit in
    let is = ap (λ x. x.left) c.into_iter-r-iterator.ensures.into_iter_gives ∙ c.iter-r-items.ensures in
    holds_all Here c.args.set c.into_iter-r-iterator.result.left c.loop-r.r-iterator.left is c.in-None.ensures.steps c.loop-r.invariant.1
