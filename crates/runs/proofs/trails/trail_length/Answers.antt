use Rattle.std.proofs.Common.{length, sym, ap, ◌∙◌, subst, arith}
use Rattle.theory.specs.Runs.{Trail}
use Rattle.runs.proofs.Trailing.{all_steps}
use Rattle.runs.proofs.trails.trail_length.Goals as goal

pub returns : goal.returns
returns g c l t h =
    let ran = c.count.ensures.ran in
    let way = subst (λ w. Trail w.rows.now w.at l) (sym c.take.ensures.source) t in
    ran.2 ∙ ap length (all_steps ran.0 c.take.result ran.1.1.0 ran.1.0 ran.1.1.1 ran.1.1.2 l way (omega (arith, h, c.take.ensures.count)))
