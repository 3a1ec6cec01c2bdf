use Rattle.std.proofs.Common.{arith}
use Rattle.taskfile.proofs.Exits.{exits}
use Rattle.taskfile.proofs.Beginning.{stops_first, stops_price, stops_needs, stops_makes, stops_breaks, move_whole}
use Rattle.taskfile.proofs.reader.Reader.read_move.Goals as goal

pub returns-in_err-next : goal.returns-in_err-next
returns-in_err-next c = rw (exits c.from_residual.ensures.1) (λ room. stops_first c.in_err-next.ensures (omega arith))

pub returns-in_err-next-2 : goal.returns-in_err-next-2
returns-in_err-next-2 c = rw (exits c.from_residual-in_err-next-2.ensures.1) (λ room. stops_price c.requires c.in_ok-next.ensures c.in_err-next-2.ensures)

pub returns-in_err-next-3 : goal.returns-in_err-next-3
returns-in_err-next-3 c =
    rw (exits c.from_residual-in_err-next-3.ensures.1)
    (λ room. stops_needs c.requires c.in_ok-next.ensures c.in_ok-next-2.ensures c.in_err-next-3.ensures)

pub returns-in_err-next-4 : goal.returns-in_err-next-4
returns-in_err-next-4 c =
    rw (exits c.from_residual-in_err-next-4.ensures.1)
    (λ room. stops_makes c.requires c.in_ok-next.ensures c.in_ok-next-2.ensures c.in_ok-next-3.ensures c.in_err-next-4.ensures)

pub returns-in_err-next-5 : goal.returns-in_err-next-5
returns-in_err-next-5 c =
    rw (exits c.from_residual-in_err-next-5.ensures.1)
    (λ room. stops_breaks c.requires c.in_ok-next.ensures c.in_ok-next-2.ensures c.in_ok-next-3.ensures c.in_ok-next-4.ensures c.in_err-next-5.ensures)

pub returns : goal.returns
returns c = λ room.
    move_whole c.requires c.in_ok-next.ensures c.in_ok-next-2.ensures c.in_ok-next-3.ensures c.in_ok-next-4.ensures c.in_ok-next-5.ensures
