use Rattle.std.proofs.Common.{◌≡◌, ℕ, ◌<◌, cond, get_or, Some, None}
use Rattle.tables.specs.Origins.{setting_in}
use Rattle.tables.proofs.settling.begin.Given as goal

abbrev pub invariant-loop-number : goal.invariant-loop-number
invariant-loop-number g l =
    let n = g.L.Layout.net (setting_in l.origin) in
    (i : ℕ) → i < l.number → get_or l.table i None ≡ cond (n.inside l.origin.start (n.place i)) (Some g.V.Tally.nil) None
