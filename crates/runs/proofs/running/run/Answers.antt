use Rattle.theory.specs.Runs.{again}
use Rattle.runs.proofs.running.run.Goals as goal

pub returns-in-Some-clause-ran : goal.returns-in-Some-clause-ran
returns-in-Some-clause-ran g c known = record { runs = again (c.in-Some.ensures known _); sane = known }
