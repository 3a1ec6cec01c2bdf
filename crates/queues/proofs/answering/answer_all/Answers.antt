use Rattle.std.proofs.Common.{◌<◌, length, sym, refl, ◌∙◌, arith, ltb-false}
use Rattle.std.proofs.lemmas.List.{set-get_or}
use Rattle.tasks.specs.Places.{At}
use Rattle.tasks.proofs.Places.{at_get}
use Rattle.records.specs.Openings.{lent_of}
use Rattle.queues.proofs.Booking.{stays_put, stays_on, none_noted, one_noted, nothing_booked, one_booked, all_served}
use Rattle.queues.proofs.answering.answer_all.Goals as goal

pub loop-i-init : goal.loop-i-init
loop-i-init g c = record {
  few = omega arith;
  stays = stays_put _;
  noted = none_noted _;
  book = nothing_booked g.V.Tally (λ t. lent_of g.B.Bound t c.args.bound.now) c.args.calls.now c.args.list.now c.args.search.now c.args.replies.now;
  lent = refl;
}

pub loop-i-preserved : goal.loop-i-preserved
loop-i-preserved g c =
    let so = c.loop-i.invariant in
    let calls = c.args.calls.now in
    let new = c.answer.ensures.replied in
    let less : c.loop-i.i < length c.loop-i.replies = omega (arith, c.loop-i-test.true, c.loop-i.auto.replies) in
    let found = c.in-Some.ensures.lookup.3 in
    let here : At calls c.loop-i.i c.in-Some.call.now = rw (found.1 c.in-Some.call.now) (at_get calls c.loop-i.i c.in-Some.call.now found.0) in
    record {
      few = omega (arith, found.0);
      stays = stays_on _ _ _ so.stays new.stays;
      noted = one_noted c.answer.result refl less so.noted;
      book =
          one_booked g.V.Tally (λ t. lent_of g.B.Bound t c.args.bound.now) calls c.args.list.now c.args.search.now refl less so.stays
          c.loop-i.auto.list here so.book new.reply;
      lent = c.answer.ensures.lent ∙ so.lent;
    }

pub returns-in_default : goal.returns-in_default
returns-in_default g c =
    let so = c.loop-i.invariant in
    let past = ltb-false _ _ (sym c.in_default.ensures.lookup.0) in
    record {
      served = all_served g.V.Tally (λ t. lent_of g.B.Bound t c.args.bound.now) c.args.list.now c.args.search.now
          (omega (arith, past, so.few, c.loop-i-test.true)) (set-get_or c.loop-i.replies c.loop-i.i c.index-replies-i.result) so.stays so.noted so.book;
      lent = so.lent;
    }

pub returns : goal.returns
returns g c =
    let so = c.loop-i.invariant in
    record {
      served = all_served g.V.Tally (λ t. lent_of g.B.Bound t c.args.bound.now) c.args.list.now c.args.search.now
          (omega (arith, so.few, c.loop-i-test.false, c.loop-i.auto.i-end)) refl so.stays so.noted so.book;
      lent = so.lent;
    }
