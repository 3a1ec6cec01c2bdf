use Rattle.std.proofs.Common.{arith}
use Rattle.std.proofs.lemmas.Result.{err_from_is_err_and}
use Rattle.records.proofs.Growing.{grown_on}
use Rattle.records.proofs.Steps.{all_opened}
use Rattle.records.proofs.opening.open.Goals as goal

pub returns-in_err-take_moves : goal.returns-in_err-take_moves
returns-in_err-take_moves g c =
    let p = err_from_is_err_and c.from_residual.result c.from_residual.ensures.1 in
    rw p.1 (record { grown = c.in_err-take_moves.ensures.grown; opened = λ less. c.in_err-take_moves.ensures.taken })

pub returns : goal.returns
returns g c =
    let took = c.in_ok-take_moves.ensures in
    record {
      grown = grown_on _ _ _ took.grown c.shut.ensures.grown;
      opened = λ less. all_opened _ _ _ _ took.taken (c.shut.ensures.shut (omega (arith, less, took.grown.more)));
    }
