use Rattle.std.proofs.Common.{arith}
use Rattle.taskfile.proofs.Exits.{exits}
use Rattle.taskfile.proofs.Beginning.{stops_first, stops_second, stops_full, stops_third, stops_fourth, heading_whole}
use Rattle.taskfile.proofs.reader.Reader.read_heading.Goals as goal

pub returns-in_err-facts : goal.returns-in_err-facts
returns-in_err-facts c = rw (exits c.from_residual.ensures.1) (stops_first c.in_err-facts.ensures (omega arith))

pub returns-in_err-count : goal.returns-in_err-count
returns-in_err-count c =
    rw (exits c.from_residual-in_err-count.ensures.1)
    (stops_second c.requires.expected_value c.in_ok-facts.ensures c.in_err-count.ensures)

pub returns-in_err-fit : goal.returns-in_err-fit
returns-in_err-fit c =
    let full = c.in_err-fit.ensures in
    rw (exits c.from_residual-in_err-fit.ensures.1)
    (stops_full c.requires.expected_value c.in_ok-facts.ensures c.in_ok-count.ensures c.requires.line_value full.0 full.1)

pub returns-in_err-start : goal.returns-in_err-start
returns-in_err-start c =
    rw (exits c.from_residual-in_err-start.ensures.1)
    (stops_third c.requires.expected_value c.in_ok-facts.ensures c.in_ok-count.ensures c.in_ok-fit.ensures c.in_err-start.ensures)

pub returns-in_err-goal : goal.returns-in_err-goal
returns-in_err-goal c =
    rw (exits c.from_residual-in_err-goal.ensures.1)
    (stops_fourth c.requires.expected_value c.in_ok-facts.ensures c.in_ok-count.ensures c.in_ok-fit.ensures c.in_ok-start.ensures c.in_err-goal.ensures)

pub returns : goal.returns
returns c =
    heading_whole c.requires.expected_value c.in_ok-facts.ensures c.in_ok-count.ensures c.in_ok-fit.ensures c.in_ok-start.ensures c.in_ok-goal.ensures
