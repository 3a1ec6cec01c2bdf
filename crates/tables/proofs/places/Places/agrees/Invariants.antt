use Rattle.std.proofs.Common.{◌≡◌, true}
use Rattle.tables.specs.Nets.{pairs, place_of, every, agrees_at}
use Rattle.tables.specs.Origins.{setting_in}
use Rattle.tables.proofs.places.Places.agrees.Given as goal

abbrev pub invariant-loop-p : goal.invariant-loop-p
invariant-loop-p g l = every l.p (λ p. every l.self.origin.facts (agrees_at g.V.Tally (place_of (pairs g.V.Tally (setting_in l.self.origin)) l.self.table.now) p)) ≡ true
