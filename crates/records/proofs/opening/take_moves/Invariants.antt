use Rattle.records.specs.Openings.{problem_of}
use Rattle.records.specs.Tables.{recs_of, room_of, Grown}
use Rattle.theory.specs.Openings.{TakesFirst}
use Rattle.records.proofs.opening.take_moves.Given as goal

abbrev pub invariant-loop-number : goal.invariant-loop-number
invariant-loop-number g l = record {
  grown : Grown l.initial.records l.records;
  taken : TakesFirst (problem_of g.V.Tally g.B.Bound l.task l.bound (room_of l.initial.records)) (recs_of l.initial.records) l.choice.number l.choice.row l.number
      (recs_of l.records);
}
