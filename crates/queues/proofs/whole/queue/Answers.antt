use Rattle.records.specs.Openings.{lent_of}
use Rattle.queues.proofs.Promising.{promised}
use Rattle.queues.proofs.whole.queue.Goals as goal

pub returns : goal.returns
returns g c =
    promised g.met.V.Tally.lawful (λ t. lent_of g.B.Bound t c.args.bound.now) c.args.task c.args.table.now c.args.calls.now c.args.replies.now
    c.answer_all.new.replies c.args.list.now c.answer_all.new.list c.make-search.result c.answer_all.new.search
    c.make-search.ensures c.answer_all.ensures.served
