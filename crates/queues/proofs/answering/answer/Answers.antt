use Rattle.std.proofs.Common.{Ok, Err}
use Rattle.std.proofs.lemmas.Result.{err_from_is_err_and}
use Rattle.queues.proofs.Booking.{ran_so, read_so, refused_so}
use Rattle.queues.proofs.answering.answer.Goals as goal

pub returns-in_err-reply-in-Run-clause-replied : goal.returns-in_err-reply-in-Run-clause-replied
returns-in_err-reply-in-Run-clause-replied g c =
    let p = err_from_is_err_and c.from_residual.result c.from_residual.ensures.1 in
    rw (p.1, p.2) (ran_so _ _ (Err c.in_err-reply-in-Run.field-0.0) c.in-Run.is c.in_err-reply-in-Run.ensures.ran)

pub returns-in_ok-reply-in-Run-clause-replied : goal.returns-in_ok-reply-in-Run-clause-replied
returns-in_ok-reply-in-Run-clause-replied g c = ran_so _ _ (Ok c.in_ok-reply-in-Run.reply) c.in-Run.is c.in_ok-reply-in-Run.ensures.ran

pub returns-in_err-length-in-ReadOut-clause-replied : goal.returns-in_err-length-in-ReadOut-clause-replied
returns-in_err-length-in-ReadOut-clause-replied g c =
    let p = err_from_is_err_and c.from_residual-in_err-length-in-ReadOut.result c.from_residual-in_err-length-in-ReadOut.ensures.1 in
    rw (p.1, p.2) (refused_so _ _ c.in-ReadOut.is c.in_err-length-in-ReadOut.ensures)

pub returns-in_ok-length-in-ReadOut-clause-replied : goal.returns-in_ok-length-in-ReadOut-clause-replied
returns-in_ok-length-in-ReadOut-clause-replied g c = read_so _ _ c.in-ReadOut.is c.in_ok-length-in-ReadOut.ensures
