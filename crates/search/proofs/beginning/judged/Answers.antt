use Rattle.std.proofs.Common.{sym, refl, ◌∙◌, subst}
use Rattle.facts.proofs.Tests.{not_true_false}
use Rattle.theory.specs.Queue.{misfit, overdrawn}
use Rattle.bounds.specs.Sound.{OverdrawnIn}
use Rattle.search.proofs.beginning.judged.Goals as goal

pub returns-then-not-fits : goal.returns-then-not-fits
returns-then-not-fits g c = record {
  sound = λ fits. absurd (not_true_false (c.if-not-fits.ensures.told ∙ fits));
  tells = λ P e. misfit (sym c.if-not-fits.ensures.told);
}

pub returns-then-is_overdrawn : goal.returns-then-is_overdrawn
returns-then-is_overdrawn g c = record {
  sound = λ fits. c.if-not-fits.ensures.sound tt;
  tells = λ P e.
      overdrawn (sym c.if-not-fits.ensures.told)
      (subst (λ d. OverdrawnIn g.V.Tally d (g.B.Bound.shared c.args.bound.now)) (sym e) (c.if-is_overdrawn.ensures.0 refl));
}

pub returns : goal.returns
returns g c = record {
  sound = λ fits. c.if-not-fits.ensures.sound tt;
  tells = λ P e. record {
    fitting = sym c.if-not-fits.ensures.told;
    drawn = λ over. not_true_false (c.if-is_overdrawn.ensures.1
        (subst (λ d. OverdrawnIn g.V.Tally d (g.B.Bound.shared c.args.bound.now)) e over));
  };
}
