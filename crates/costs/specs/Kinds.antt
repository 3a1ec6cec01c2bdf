-- Minutes and the worst price as kinds of cost.
use Rattle.costs.specs.Minutes.{no_longer, held, sum}
use Rattle.costs.specs.Worst.{no_worse, single, worse}
use Rattle.costs.specs.declared.minutes.Minutes.{Minutes}
use Rattle.costs.specs.declared.tally.Tally.{Ghosts}
use Rattle.costs.specs.declared.worst.Worst.{Worst}

abbrev pub minutes : Ghosts Minutes
minutes = record { at_most = no_longer; nil = held 0; join = sum; charge = λ price group. held price }

abbrev pub worst : Ghosts Worst
worst = record { at_most = no_worse; nil = single 0; join = worse; charge = λ price group. single price }
