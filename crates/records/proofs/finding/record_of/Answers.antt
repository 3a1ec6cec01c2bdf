use Rattle.std.proofs.Common.{rules}
use Rattle.std.proofs.lemmas.Iterator.{IsFirst-from_position, YieldsList-from_slice}
use Rattle.theory.specs.Openings.{Unrecorded}
use borrow.Author.Tests.{tests}
use Rattle.records.proofs.Picks.{Of, NotOf, none_recorded, one_recorded}
use Rattle.records.proofs.finding.record_of.Goals as goal

pub returns-in_err-number : goal.returns-in_err-number
returns-in_err-number g c =
    let recs = c.args.rows.now in
    let none : Unrecorded recs c.args.set = none_recorded recs c.args.set (IsFirst-from_position _ _ _ (Of recs c.args.set) (NotOf recs c.args.set) c.in_err-number.ensures.ran
    (YieldsList-from_slice recs (search rules)) (λ x q k. search (rules, tests)) (λ x q k. search (rules, tests))) in
    rw c.from_residual.ensures none

pub returns : goal.returns
returns g c =
    let recs = c.args.rows.now in
    let first = IsFirst-from_position _ _ _ (Of recs c.args.set) (NotOf recs c.args.set) c.in_ok-number.ensures.ran
    (YieldsList-from_slice recs (search rules)) (λ x q k. search (rules, tests)) (λ x q k. search (rules, tests)) in
    one_recorded recs c.args.set first.0 first.1
