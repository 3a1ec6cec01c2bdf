use Rattle.std.proofs.Common.{arith}
use Rattle.std.proofs.lemmas.List.{set-get_or}
use Rattle.taskfile.proofs.Exits.{exits}
use Rattle.taskfile.proofs.Filling.{moves_none, moves_more, moves_stop, next_group}
use Rattle.taskfile.proofs.reader.Reader.read_moves.Goals as goal

pub loop-place-init : goal.loop-place-init
loop-place-init c = record { taken = λ room. moves_none room c.args.self.now c.args.moves.now; due = c.requires }

pub returns-in_err-place : goal.returns-in_err-place
returns-in_err-place c =
    rw (exits c.from_residual.ensures.1, set-get_or)
    (λ room. moves_stop (c.loop-place.invariant.taken room) (c.in_err-place.ensures room) (omega arith))

pub loop-place-preserved : goal.loop-place-preserved
loop-place-preserved c = record {
  taken = λ room. moves_more (c.loop-place.invariant.taken room) (c.in_ok-place.ensures room) (omega arith);
  due = next_group c.loop-place.invariant.due (c.in_ok-place.ensures 0);
}
