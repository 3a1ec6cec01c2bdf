use Rattle.std.proofs.Common.{sym, ◌∙◌, refl}
use Rattle.tables.specs.Nets.{every}
use Rattle.tables.proofs.Decisions.{every_more, every_fails}
use Rattle.tables.proofs.places.Places.agrees.Goals as goal

pub loop-p-init : goal.loop-p-init
unfolding every
loop-p-init g c = refl

pub loop-p-preserved : goal.loop-p-preserved
loop-p-preserved g c = every_more c.loop-p.p _ c.loop-p.invariant (sym c.row_agrees.ensures ∙ c.if-not-row_agrees.false)

pub returns-then-not-row_agrees : goal.returns-then-not-row_agrees
returns-then-not-row_agrees g c = sym (every_fails c.args.self.now.origin.facts c.loop-p.p _ c.loop-p-test.true (sym c.row_agrees.ensures ∙ c.if-not-row_agrees.true))
