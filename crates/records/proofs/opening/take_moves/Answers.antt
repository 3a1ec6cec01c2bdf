use Rattle.std.proofs.Common.{length, sym, ap, ◌∙◌, arith}
use Rattle.std.proofs.lemmas.Result.{err_from_is_err_and}
use Rattle.tasks.proofs.Checks.{few_moves_of}
use Rattle.theory.specs.Openings.{none_yet, not_regressing, passed_over}
use Rattle.records.proofs.Growing.{grown_none, grown_on}
use Rattle.records.proofs.Steps.{move_here, one_taken, one_led, no_room}
use Rattle.records.proofs.opening.take_moves.Goals as goal

pub loop-number-init : goal.loop-number-init
loop-number-init g c = record { grown = grown_none _; taken = none_yet }

pub loop-number-preserved-in_default : goal.loop-number-preserved-in_default
loop-number-preserved-in_default g c =
    let so = c.loop-number.invariant in
    let here = move_here c.moves-moves.ensures c.loop-number-test.true in
    record { grown = so.grown; taken = one_taken _ _ _ _ so.taken here (not_regressing c.in_default.ensures) }

pub loop-number-preserved-in_default-estimate : goal.loop-number-preserved-in_default-estimate
loop-number-preserved-in_default-estimate g c =
    let so = c.loop-number.invariant in
    let here = move_here c.moves-moves.ensures c.loop-number-test.true in
    record { grown = so.grown; taken = one_taken _ _ _ _ so.taken here (passed_over c.in-Some.ensures (sym c.estimate.ensures ∙ c.in_default-estimate.is)) }

pub overflow_cast-number : goal.overflow_cast-number
overflow_cast-number g c = omega (arith, few_moves_of c.args.task.now, ap length c.moves-moves.ensures, c.loop-number-test.true)

pub returns-in_err-enter : goal.returns-in_err-enter
returns-in_err-enter g c =
    let so = c.loop-number.invariant in
    let new = c.in_err-enter.ensures in
    let here = move_here c.moves-moves.ensures c.loop-number-test.true in
    let p = err_from_is_err_and c.from_residual.result c.from_residual.ensures.1 in
    rw p.1 (record {
      grown = grown_on _ _ _ so.grown new.grown;
      taken = no_room _ _ _ _ so.taken here c.in-Some.ensures (sym c.estimate.ensures ∙ c.in-Some-estimate.is)
          c.child.ensures (λ lead is. new.entered _ _ _ _ _ _ _ (sym so.grown.room) lead is);
    })

pub loop-number-preserved : goal.loop-number-preserved
loop-number-preserved g c =
    let so = c.loop-number.invariant in
    let new = c.in_ok-enter.ensures in
    let here = move_here c.moves-moves.ensures c.loop-number-test.true in
    record {
      grown = grown_on _ _ _ so.grown new.grown;
      taken = one_led _ _ _ _ so.taken here c.in-Some.ensures (sym c.estimate.ensures ∙ c.in-Some-estimate.is)
          c.child.ensures (λ lead is. new.entered _ _ _ _ _ _ _ (sym so.grown.room) lead is);
    }
