use Rattle.std.proofs.Common.{length, sym, refl, ap, arith, leb-false, leb-true}
use Rattle.tasks.proofs.Places.{at_less}
use Rattle.records.proofs.Growing.{grown_on}
use Rattle.runs.proofs.Carrying.{is_not, one_opened, none_left, plan_found, grant_used, no_room}
use Rattle.runs.proofs.running.go_on.Goals as goal

pub returns-then-arrives-clause-inside : goal.returns-then-arrives-clause-inside
returns-then-arrives-clause-inside g c = rw c.arrived.ensures (omega (arith, at_less c.in-Some.ensures.at, ap length c.rows.ensures.rows))

pub returns-then-arrives-clause-ran : goal.returns-then-arrives-clause-ran
returns-then-arrives-clause-ran g c = rw c.arrived.ensures (λ known.
    let both = plan_found _ _ _ c.loop-first.invariant.carried (rw c.rows.ensures.rows at c.in-Some.ensures) (c.if-arrives.ensures.0 refl) (rw c.rows-then-arrives.ensures.rows at c.trail_length.ensures) known in
    record { runs = both.0; sane = both.1 })

pub returns-then-is_used_up-clause-ran : goal.returns-then-is_used_up-clause-ran
returns-then-is_used_up-clause-ran g c =
    let so = c.loop-first.invariant in
    rw c.paused.ensures (λ known. record {
      runs = grant_used _ _ _ so.carried (rw c.rows.ensures.rows at c.in-Some.ensures) (is_not c.if-arrives.ensures)
          (omega (arith, so.granted, leb-true _ _ (sym c.if-is_used_up.ensures)));
      sane = so.carried.threads known;
    })

pub returns-in-Err-clause-grown : goal.returns-in-Err-clause-grown
returns-in-Err-clause-grown g c = grown_on _ _ _ c.loop-first.invariant.grown c.in-Err.ensures.grown

pub returns-in-Err-clause-inside : goal.returns-in-Err-clause-inside
returns-in-Err-clause-inside g c =
    rw c.filled.ensures (omega (arith, at_less c.in-Some.ensures.at, ap length c.rows.ensures.rows, c.in-Err.ensures.grown.more))

pub returns-in-Err-clause-ran : goal.returns-in-Err-clause-ran
returns-in-Err-clause-ran g c = rw c.filled.ensures (λ known. record {
  runs = no_room _ _ _ c.loop-first.invariant.carried (rw c.rows.ensures.rows at c.in-Some.ensures) (is_not c.if-arrives.ensures)
      (leb-false _ _ (sym c.if-is_used_up.ensures)) (rw c.loop-first.invariant.grown.room at (c.in-Err.ensures.opened (omega (arith, at_less c.in-Some.ensures.at, ap length c.rows.ensures.rows))));
  sane = ∣ tt ∣₁;
})

pub loop-first-preserved : goal.loop-first-preserved
loop-first-preserved g c =
    let so = c.loop-first.invariant in
    let done = c.in-Ok.ensures in
    let less = leb-false _ _ (sym c.if-is_used_up.ensures) in
    record {
      grown = grown_on _ _ _ so.grown done.grown;
      granted = omega (arith, less);
      carried = one_opened _ _ _ so.carried (record { lawful = g.met.V.Tally.lawful }) (rw c.rows.ensures.rows at c.in-Some.ensures) (is_not c.if-arrives.ensures)
          (rw so.grown.room at (done.opened (omega (arith, at_less c.in-Some.ensures.at, ap length c.rows.ensures.rows)))) less;
    }

pub returns-clause-ran : goal.returns-clause-ran
returns-clause-ran g c = rw c.ran_out.ensures (λ known. record { runs = none_left _ _ _ c.loop-first.invariant.carried (rw c.rows.ensures.rows at c.in_default.ensures); sane = ∣ tt ∣₁ })
