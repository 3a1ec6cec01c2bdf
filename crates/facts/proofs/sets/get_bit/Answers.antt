use Rattle.std.proofs.Common.{◌≡◌, false, ltb, sym, refl, ◌∙◌, arith}
use Rattle.std.proofs.lemmas.Bool.Decides.{nat_tests}
use Rattle.facts.specs.Words.{bit}
use Rattle.facts.proofs.Words.{bit_past}
use Rattle.facts.proofs.sets.get_bit.Goals as goal

pub returns-then-place-lt64 : goal.returns-then-place-lt64
unfolding bit
returns-then-place-lt64 c = refl

pub returns-else-place-lt64 : goal.returns-else-place-lt64
returns-else-place-lt64 c =
    let low : ltb c.args.place 64 ≡ false = grind (arith, nat_tests) in
    low ∙ sym (bit_past c.args.word 64 c.args.place (omega (arith, c.ranges.word.fits)) c.if-place-lt64.false)
