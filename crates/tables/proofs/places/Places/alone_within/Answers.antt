use Rattle.std.proofs.Common.{ℕ, sym, ap, ◌∙◌}
use Rattle.facts.proofs.Tests.{from_true, not_both}
use Rattle.costs.specs.Estimates.{not_above}
use Rattle.bounds.specs.Sound.{NotAbove}
use Rattle.tables.specs.Nets.{pairs, place_of}
use Rattle.tables.specs.Origins.{setting_in}
use Rattle.tables.proofs.Decisions.{fails_at, holds_more, holds_all}
use Rattle.tables.proofs.places.Places.alone_within.Goals as goal

pub returns-then-not-at_most : goal.returns-then-not-at_most
returns-then-not-at_most g c =
    let val = place_of (pairs g.V.Tally (setting_in c.args.self.now.origin)) c.args.self.now.table.now in
    let Here : ℕ → Type 0 = λ x. NotAbove g.V.Tally (val (x, x)) c.args.limit in
    let is = ap (λ x. x.left) c.into_iter-p-iterator.ensures.into_iter_gives ∙ c.iter-p-items.ensures in
    let told = c.at_most.ensures ∙ ap (λ e. not_above g.V.Tally.at_most e c.args.limit) c.pair.ensures in
    fails_at Here c.args.set c.into_iter-p-iterator.result.left c.loop-p.p-iterator.left c.next.new.self.left c.in-Some.p is c.loop-p.invariant.0 c.in-Some.ensures.steps
    (λ h. not_both h (sym told ∙ c.if-not-at_most.true))

pub loop-p-preserved : goal.loop-p-preserved
loop-p-preserved g c =
    let val = place_of (pairs g.V.Tally (setting_in c.args.self.now.origin)) c.args.self.now.table.now in
    let Here : ℕ → Type 0 = λ x. NotAbove g.V.Tally (val (x, x)) c.args.limit in
    let told = c.at_most.ensures ∙ ap (λ e. not_above g.V.Tally.at_most e c.args.limit) c.pair.ensures in
    holds_more Here c.args.set c.into_iter-p-iterator.result.left c.loop-p.p-iterator.left c.next.new.self.left c.in-Some.p c.loop-p.invariant.0 c.in-Some.ensures.steps c.loop-p.invariant.1
    (from_true (sym told ∙ c.if-not-at_most.false))

pub returns : goal.returns
returns g c =
    let val = place_of (pairs g.V.Tally (setting_in c.args.self.now.origin)) c.args.self.now.table.now in
    let Here : ℕ → Type 0 = λ x. NotAbove g.V.Tally (val (x, x)) c.args.limit in
    let is = ap (λ x. x.left) c.into_iter-p-iterator.ensures.into_iter_gives ∙ c.iter-p-items.ensures in
    holds_all Here c.args.set c.into_iter-p-iterator.result.left c.loop-p.p-iterator.left is c.in-None.ensures.steps c.loop-p.invariant.1
