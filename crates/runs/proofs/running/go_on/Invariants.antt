use Rattle.std.proofs.Common.{◌-◌, ◌≤◌}
use Rattle.records.specs.Openings.{problem_of}
use Rattle.records.specs.Tables.{recs_of, room_of, Grown}
use Rattle.runs.proofs.Carrying.{Carried}
use Rattle.runs.proofs.running.go_on.Given as goal

abbrev pub invariant-loop-first : goal.invariant-loop-first
invariant-loop-first g l = record {
  grown : Grown l.initial.records l.records;
  granted : l.opened ≤ l.grant;
  carried : Carried (problem_of g.V.Tally g.B.Bound l.task l.bound (room_of l.initial.records)) (recs_of l.initial.records) l.grant
      (recs_of l.records) l.opened;
}

abbrev pub decreases-loop-first : goal.decreases-loop-first
decreases-loop-first g l = l.grant - l.opened
