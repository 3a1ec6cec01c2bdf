use Rattle.std.proofs.Common.{refl, rules}
use Rattle.taskfile.proofs.Exits.{exits}
use Rattle.taskfile.proofs.Endings.{ready, refused_heading, refused_moves, accepted, left_over}
use Rattle.taskfile.proofs.Filling.{took_lent, stops_lent}
use Rattle.taskfile.proofs.reader.reading.read_lines.Goals as goal

pub returns-in_err-heading : goal.returns-in_err-heading
returns-in_err-heading c = rw (exits c.from_residual.ensures.1) (refused_heading refl refl c.in_err-heading.ensures)

pub returns-in_err-read_moves : goal.returns-in_err-read_moves
returns-in_err-read_moves c =
    let h = c.in_ok-heading.ensures in
    rw (exits c.from_residual-in_err-read_moves.ensures.1)
    (refused_moves refl refl h (stops_lent (search rules) (ready refl h).fits (c.in_err-read_moves.ensures _)))

pub returns-in_err-end : goal.returns-in_err-end
returns-in_err-end c =
    let h = c.in_ok-heading.ensures in
    rw (exits c.from_residual-in_err-end.ensures.1)
    (left_over refl refl h (took_lent (search rules) (ready refl h).fits (c.in_ok-read_moves.ensures _)) c.in_err-end.ensures)

pub returns : goal.returns
returns c =
    let h = c.in_ok-heading.ensures in
    accepted refl refl h (took_lent (search rules) (ready refl h).fits (c.in_ok-read_moves.ensures _)) c.in_ok-end.ensures
