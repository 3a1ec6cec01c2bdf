use Rattle.std.proofs.Common.{◌≡◌, ◌^◌, ◌<◌, false, sym, subst, arith}
use borrow.Author.Numbers.{trailing_lt}
use Rattle.facts.specs.Words.{bit}
use Rattle.facts.proofs.Words.{bit_none, bit_inside, lowest_set, lowest_least}
use Rattle.facts.proofs.sets.lowest_bit.Goals as goal

pub returns-then-word-eq0 : goal.returns-then-word-eq0
returns-then-word-eq0 c = λ f. subst (λ w. bit w f ≡ false) (sym c.if-word-eq0.true) (bit_none f)

pub returns : goal.returns
returns c =
    let word = c.args.word in
    let some : 0 < word = omega arith in
    let fits : word < 2 ^ 64 = omega (arith, c.ranges.word.fits) in (
      trailing_lt 64 word some fits,
      lowest_set 64 word some fits,
      λ f h. lowest_least 64 word f h (bit_inside word 64 f fits h),
    )
