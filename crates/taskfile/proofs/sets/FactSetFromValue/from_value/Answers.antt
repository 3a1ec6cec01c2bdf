use Rattle.std.proofs.Common.{sym, subst}
use Rattle.taskfile.specs.Values.{written, SetRead}
use Rattle.taskfile.proofs.Taking.{set_read}
use Rattle.taskfile.proofs.sets.FactSetFromValue.from_value.Goals as goal

pub returns : goal.returns
returns c = set_read c.args._key _ c.requires.key_kind _ (subst (λ v. SetRead (written v) c.set.result) (sym c.in-Set.is) c.set.ensures)
