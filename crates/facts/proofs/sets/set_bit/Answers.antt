use Rattle.std.proofs.Common.{◌^◌, ◌||◌, ap, ◌∙◌}
use lib.Bits.{bit_or}
use Rattle.std.proofs.lemmas.Nat.{one_shl}
use Rattle.facts.specs.Words.{bit}
use Rattle.facts.proofs.Words.{bit_of_or, bit_power}
use Rattle.facts.proofs.sets.set_bit.Goals as goal

pub returns : goal.returns
returns c = λ f. let word = c.args.word in let place = c.args.place in
    ap (λ z. bit (bit_or word z) f) (one_shl place 64 c.requires) ∙ bit_of_or word (2 ^ place) f ∙ ap (λ b. bit word f || b) (bit_power place f)
