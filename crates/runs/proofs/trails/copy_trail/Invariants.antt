use Rattle.std.proofs.Common.{◌≡◌, ◌+◌, length}
use Rattle.runs.proofs.Trailing.{Copied}
use Rattle.runs.proofs.trails.copy_trail.Given as goal

abbrev pub invariant-loop-place : goal.invariant-loop-place
invariant-loop-place g l =
    (l.trail.iter.rows.now ≡ l.initial.trail.iter.rows.now) × (l.trail.n + l.place ≡ length l.initial.list)
    × Copied l.initial.trail.iter.rows.now l.initial.trail.iter.at l.trail.iter.at l.initial.list l.list l.place
