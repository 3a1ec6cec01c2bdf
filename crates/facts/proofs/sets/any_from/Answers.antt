use Rattle.std.proofs.Common.{◌≡◌, false, ltb, arith}
use Rattle.std.proofs.lemmas.Bool.Decides.{nat_tests}
use Rattle.facts.proofs.Tests.{from_true, not_both}
use Rattle.facts.proofs.Words.{bit_inside, some_from}
use Rattle.facts.proofs.sets.any_from.Goals as goal

pub returns-then-limit-lt64 : goal.returns-then-limit-lt64
returns-then-limit-lt64 c = some_from c.args.word c.args.limit (omega (arith, c.ranges.word.fits))

pub returns-else-limit-lt64 : goal.returns-else-limit-lt64
returns-else-limit-lt64 c =
    let high : ltb c.args.limit 64 ≡ false = grind (arith, nat_tests) in (
      (λ e. absurd (not_both (from_true e) high)),
      (λ h. let low = bit_inside c.args.word 64 h.0 (omega (arith, c.ranges.word.fits)) h.1 in
          absurd (omega (arith, c.if-limit-lt64.false, h.2))),
    )
