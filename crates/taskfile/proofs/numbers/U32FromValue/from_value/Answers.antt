use Rattle.std.proofs.Common.{refl, ap, ◌∙◌}
use Rattle.taskfile.specs.Entries.{number}
use Rattle.taskfile.specs.Values.{written}
use Rattle.taskfile.proofs.numbers.U32FromValue.from_value.Goals as goal

pub returns-then-not-allows : goal.returns-then-not-allows
returns-then-not-allows c =
    (number c.in_ok-n.n, ap written c.in-Number.is ∙ c.in_ok-n.ensures.digits, (c.requires.key_kind, c.in_ok-n.ensures.short), λ i. cc (c.if-not-allows.ensures.1 i))

pub returns : goal.returns
returns c = (number c.in_ok-n.n, refl, ap written c.in-Number.is ∙ c.in_ok-n.ensures.digits, (c.requires.key_kind, c.in_ok-n.ensures.short), c.if-not-allows.ensures.0 refl)
