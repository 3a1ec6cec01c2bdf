use Rattle.std.proofs.Common.{◌≡◌, ℕ, not, ◌&&◌, eqb, ap, ◌∙◌, arith}
use Rattle.std.proofs.lemmas.Nat.{one_shl}
use Rattle.facts.specs.Words.{bit}
use Rattle.facts.proofs.Words.{bit_power, one_fewer}
use Rattle.facts.proofs.sets.clear_bit.Goals as goal

pub returns : goal.returns
returns c =
    let word = c.args.word in
    let place = c.args.place in
    let cleared : (f : ℕ) → bit c.less.result f ≡ (bit word f && not (eqb f place)) =
    λ f. c.less.ensures f ∙ ap (λ z. bit word f && not (bit z f)) (one_shl place 64 c.requires) ∙ ap (λ b. bit word f && not b) (bit_power place f) in
    record { cleared = cleared; fewer = λ h. omega (arith, one_fewer place c.less.result word h cleared) }
