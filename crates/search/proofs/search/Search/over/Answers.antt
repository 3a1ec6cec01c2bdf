use Rattle.std.proofs.Common.{length, refl, arith}
use Rattle.records.specs.Openings.{problem_of}
use Rattle.search.proofs.Making.{few_threads, is_roomy, is_made, past_first}
use Rattle.search.proofs.search.Search.over.Goals as goal

pub invariant_of-result : goal.invariant_of-result
invariant_of-result g c =
    let P = problem_of g.V.Tally g.B.Bound c.args.task c.args.bound.now (length c.args.table.now) in
    let first = c.first_records-records.ensures in
    record {
      whole = λ e. omega (arith, first.room, first.rest.size, (is_roomy P c.args.task refl c.sized_up-made.result c.sized_up-made.ensures.sized e).few);
      traced = ∣ few_threads _ first.few ∣₁;
    }

pub returns : goal.returns
returns g c =
    let P = problem_of g.V.Tally g.B.Bound c.args.task c.args.bound.now (length c.args.table.now) in
    let first = c.first_records-records.ensures in
    record {
      draft = refl;
      honest = record { checked = c.args.task.checked; sound = c.sized_up-made.ensures.sound };
      makes = is_made P c.args.task refl c.sized_up-made.result c.sized_up-made.ensures.sized first.first;
      rest = past_first c.sized_up-made.result _ _ first.none first.rest;
    }
