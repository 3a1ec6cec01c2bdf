use Rattle.std.proofs.Common.{refl, subst, arith}
use Rattle.std.proofs.lemmas.Result.{err_from_is_err_and}
use Rattle.theory.specs.Queue.{grant_too_large, run_refused, RunRefused, runs}
use Rattle.theory.specs.Runs.{Runs}
use Rattle.theory.proofs.Handed.{run_by}
use Rattle.records.specs.Openings.{lent_of, problem_of}
use Rattle.records.specs.Tables.{recs_of}
use Rattle.search.specs.States.{problem_in}
use Rattle.search.proofs.Answering.{keeps_number, by_rules, more_records, past_records, untouched}
use Rattle.search.proofs.search.Search.run_by.Goals as goal

pub returns-in_err-self-clause-ran : goal.returns-in_err-self-clause-ran
returns-in_err-self-clause-ran g c =
    let p = err_from_is_err_and c.from_residual.result c.from_residual.ensures.1 in
    rw (p.1, p.2) (record { task = refl; answered = λ made. keeps_number _ _ _ c.in_err-self.was; grows = omega arith; rest = untouched })

pub returns-then-grant-gt65536-clause-ran : goal.returns-then-grant-gt65536-clause-ran
returns-then-grant-gt65536-clause-ran g c = record {
  task = refl;
  answered = λ made. by_rules _ c.in_ok-self.was (run_refused (grant_too_large c.if-grant-gt65536.true));
  grows = omega arith;
  rest = untouched;
}

pub returns-in_err-judged-clause-ran : goal.returns-in_err-judged-clause-ran
returns-in_err-judged-clause-ran g c =
    let p = err_from_is_err_and c.from_residual-in_err-judged.result c.from_residual-in_err-judged.ensures.1 in
    rw (p.1, p.2) (record {
      task = refl;
      answered = λ made. by_rules _ c.in_ok-self.was (run_refused (RunRefused.bad_bound c.if-grant-gt65536.false (c.in_err-judged.ensures.tells _ refl)));
      grows = omega arith;
      rest = untouched;
    })

pub returns-clause-ran : goal.returns-clause-ran
returns-clause-ran g c =
    let s = c.args.self.now in
    let lent = lent_of g.B.Bound s.task c.args.bound.now in
    let old = s.holding in
    let new = c.run.new.holding in
    record {
      task = refl;
      answered = λ made. by_rules _ c.in_ok-self.was
          (runs c.if-grant-gt65536.false (c.in_ok-judged.ensures.tells _ refl)
          (run_by (problem_in g.V.Tally s made) lent (record { fits = made.fits; estimate = lent.estimate; share = made.share }) (λ set. refl)
          (subst (λ n. Runs (problem_of g.V.Tally g.B.Bound s.task c.args.bound.now n) c.args.grant (recs_of old.records) old.end c.run.result (recs_of new.records) new.end)
          (s.whole c.in_ok-self.was) (c.run.ensures.ran s.traced).runs)));
      grows = more_records c.in_ok-self.was _ _ _ _ c.run.ensures.grown.more;
      rest = past_records c.in_ok-self.was _ _ c.run.ensures.grown.untouched;
    }
