use Rattle.std.proofs.Common.{◌≡◌, ◌≤◌, length}
use Rattle.records.specs.Openings.{lent_of}
use Rattle.queues.specs.Calls.{Stays, Noted}
use Rattle.queues.proofs.Booking.{Noting}
use Rattle.queues.proofs.answering.answer_all.Given as goal

abbrev pub invariant-loop-i : goal.invariant-loop-i
invariant-loop-i g l = record {
  few : l.i ≤ length l.calls;
  stays : Stays l.initial.search l.search;
  noted : Noted l.i l.initial.replies l.replies;
  book : Noting g.V.Tally (λ t. lent_of g.B.Bound t l.bound) l.calls l.initial.list l.initial.search l.i l.replies l.list l.search;
  lent : l.search.holding.records.table.ghost_name ≡ l.initial.search.holding.records.table.ghost_name;
}
