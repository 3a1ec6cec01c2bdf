use Rattle.std.proofs.Common.{◌≡◌, false, ltb, sym, refl, ◌∙◌, arith}
use Rattle.std.proofs.lemmas.Bool.Decides.{nat_tests}
use Rattle.facts.specs.Words.{bit}
use Rattle.facts.proofs.Words.{bit_past}
use Rattle.tables.proofs.origin.is_counted.Goals as goal

pub returns-then-group-lt8 : goal.returns-then-group-lt8
unfolding bit
returns-then-group-lt8 c = refl

pub returns-else-group-lt8 : goal.returns-else-group-lt8
returns-else-group-lt8 c =
    let high : ltb c.args.group 8 ≡ false = grind (arith, nat_tests) in
    high ∙ sym (bit_past c.args.groups 8 c.args.group (omega (arith, c.ranges.groups.fits)) c.if-group-lt8.false)
