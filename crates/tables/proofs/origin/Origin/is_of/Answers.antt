use Rattle.tables.specs.Origins.{setting_in}
use Rattle.tables.proofs.Keeping.{task_told}
use Rattle.tables.proofs.origin.Origin.is_of.Goals as goal

pub returns-clause-exact : goal.returns-clause-exact
returns-clause-exact c = task_told (setting_in c.args.self.now) c.args.task.now c.has_parts_of.result c.has_parts_of.ensures
