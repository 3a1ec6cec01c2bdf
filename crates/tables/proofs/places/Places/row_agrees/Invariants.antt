use Rattle.std.proofs.Common.{◌≡◌, true}
use Rattle.tables.specs.Nets.{pairs, place_of, every, agrees_at}
use Rattle.tables.specs.Origins.{setting_in}
use Rattle.tables.proofs.places.Places.row_agrees.Given as goal

abbrev pub invariant-loop-q : goal.invariant-loop-q
invariant-loop-q g l = every l.q (agrees_at g.V.Tally (place_of (pairs g.V.Tally (setting_in l.self.origin)) l.self.table.now) l.p) ≡ true
