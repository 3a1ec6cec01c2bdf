use Rattle.std.proofs.Common.{◌≡◌, ℕ}
use Rattle.taskfile.specs.declared.keys.Key.TheVariants.{Group}
use Rattle.taskfile.specs.Steps.{TookMoves}
use Rattle.taskfile.proofs.reader.Reader.read_moves.Given as goal

-- the moves before this place are read and written
abbrev pub invariant-loop-place : goal.invariant-loop-place
invariant-loop-place l = record {
  taken : (room : ℕ) → TookMoves room l.place-index l.initial.self l.initial.moves l.moves l.self;
  due : l.self.expected ≡ Group;
}
