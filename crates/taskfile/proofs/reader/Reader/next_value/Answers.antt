use Rattle.std.proofs.Common.{refl, arith, rules, ltb-false}
use Rattle.taskfile.proofs.Taking.{unended, refused, took}
use Rattle.taskfile.proofs.reader.Reader.next_value.Goals as goal
use Rattle.taskfile.proofs.reader.Reader.next_value.Goals.{in-Facts-eq102, in-Moves-eq109, in-Start-eq115, in-Goal-eq103, in-Group-eq103, in-Price-eq112, in-Needs-eq110, in-Makes-eq109, in-Breaks-eq98}

pub returns-in_default : goal.returns-in_default
returns-in_default c = (refl, unended c.args.self.now c.in_default.ensures)

pub returns-in_default-2 : goal.returns-in_default-2
returns-in_default-2 c = (refl, refused c.args.self.now c.in-Some.line.now _ c.in-Some.ensures (search rules))

pub returns : goal.returns
returns c =
    elim c.match-self.branch [
      | in-Facts-eq102 w ↦ took c.in-Some.ensures w.in-Facts-eq102.is-0 w.key-is refl (omega (arith, ltb-false)) (search rules) refl refl refl
      | in-Moves-eq109 w ↦ took c.in-Some.ensures w.in-Moves-eq109.is-0 w.key-is refl (omega (arith, ltb-false)) (search rules) refl refl refl
      | in-Start-eq115 w ↦ took c.in-Some.ensures w.in-Start-eq115.is-0 w.key-is refl (omega (arith, ltb-false)) (search rules) refl refl refl
      | in-Goal-eq103 w ↦ took c.in-Some.ensures w.in-Goal-eq103.is-0 w.key-is refl (omega (arith, ltb-false)) (search rules) refl refl refl
      | in-Group-eq103 w ↦ took c.in-Some.ensures w.in-Group-eq103.is-0 w.key-is refl (omega (arith, ltb-false)) (search rules) refl refl refl
      | in-Price-eq112 w ↦ took c.in-Some.ensures w.in-Price-eq112.is-0 w.key-is refl (omega (arith, ltb-false)) (search rules) refl refl refl
      | in-Needs-eq110 w ↦ took c.in-Some.ensures w.in-Needs-eq110.is-0 w.key-is refl (omega (arith, ltb-false)) (search rules) refl refl refl
      | in-Makes-eq109 w ↦ took c.in-Some.ensures w.in-Makes-eq109.is-0 w.key-is refl (omega (arith, ltb-false)) (search rules) refl refl refl
      | in-Breaks-eq98 w ↦ took c.in-Some.ensures w.in-Breaks-eq98.is-0 w.key-is refl (omega (arith, ltb-false)) (search rules) refl refl refl
    ]
