use Rattle.std.proofs.Common.{◌≤◌, length, refl, arith}
use Rattle.std.proofs.lemmas.Result.{err_from_is_err_and}
use Rattle.theory.specs.Queue.{read_refused}
use Rattle.search.proofs.Answering.{keeps_number, by_rules, reads_list, too_short, plan_traced, no_plan}
use Rattle.search.proofs.search.Search.read_into.Goals as goal

pub returns-in_err-self : goal.returns-in_err-self
returns-in_err-self g c =
    let p = err_from_is_err_and c.from_residual.result c.from_residual.ensures.1 in
    rw (p.1, p.2) (refl, λ made. keeps_number _ _ _ c.in_err-self.was)

pub returns-in_default : goal.returns-in_default
returns-in_default g c = (refl, λ made. by_rules _ c.in_ok-self.was (read_refused (no_plan _ c.in_default.not-Planned)))

pub returns-then-list-from : goal.returns-then-list-from
returns-then-list-from g c =
    let way = plan_traced c.in-Planned.is c.args.self.now.traced in
    let long = (rw c.rows-rows.ensures.rows at c.trail_length-length.ensures) way.moves way.trail way.short in
    (refl, λ made. by_rules _ c.in_ok-self.was (too_short _ c.in-Planned.is way.trail (omega (arith, long, c.from.ensures, c.if-list-from.true))))

pub returns : goal.returns
returns g c =
    let way = plan_traced c.in-Planned.is c.args.self.now.traced in
    let long = (rw c.rows-rows.ensures.rows at c.trail_length-length.ensures) way.moves way.trail way.short in
    let enough : length way.moves ≤ length c.args.list.now = omega (arith, long, c.from.ensures, c.if-list-from.false) in (
      way.moves,
      record { told = long; written = (rw c.rows-rows.ensures.rows at c.copy_trail.ensures) way.moves way.trail enough },
      λ made. by_rules _ c.in_ok-self.was (reads_list _ c.in-Planned.is way.trail enough),
    )
