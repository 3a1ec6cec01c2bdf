use Rattle.std.proofs.Common.{◌↔◌, IsTrue, ◌&&◌, ap, ◌∙◌, sym, subst, None}
use Rattle.facts.proofs.Tests.{to_true}
use Rattle.tables.specs.Nets.{place_of}
use Rattle.tables.specs.Origins.{setting_in}
use Rattle.tables.specs.Rules.{Fits, keeps}
use Rattle.tables.proofs.Cells.{outside}
use Rattle.tables.proofs.Keeping.{fits_tells, fits_sound}
use Rattle.tables.proofs.Order.{laws_of}
use Rattle.tables.proofs.table.TableBound.fits.Goals as goal

pub returns-then-is_of-clause-exact : goal.returns-then-is_of-clause-exact
returns-then-is_of-clause-exact g c =
    let tally = g.V.Tally in
    let b = setting_in c.args.self.now.places.origin in
    let n = g.L.Layout.net b in
    let table = c.args.self.now.places.table.now in
    let laid = c.is_laid.ensures b in
    let told = c.keeps_rules.ensures ∙ ap (λ x. x && keeps tally n (place_of n table)) (sym (sym c.is_of.ensures.told ∙ c.if-is_of.true)) in
    subst (λ x. IsTrue x ↔ Fits tally n (place_of n table) c.args.task.now) (sym told)
    (fits_tells n (laws_of tally g.met.V.Tally.lawful) laid.tops (place_of n table) (laid.tells (place_of n table) (outside n None table)) c.args.task.now)

pub returns-then-is_of-clause-sound : goal.returns-then-is_of-clause-sound
returns-then-is_of-clause-sound g c = λ h.
    let b = setting_in c.args.self.now.places.origin in
    let n = g.L.Layout.net b in
    let laid = c.is_laid.ensures b in
    fits_sound n (laws_of g.V.Tally g.met.V.Tally.lawful) laid.tops (place_of n c.args.self.now.places.table.now) laid.shape c.args.task.now ((returns-then-is_of-clause-exact g c).0 (to_true h))
