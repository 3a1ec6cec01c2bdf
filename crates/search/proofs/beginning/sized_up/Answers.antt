use Rattle.std.proofs.Common.{inl, inr, arith}
use Rattle.search.specs.Parts.{no_place, too_many, roomy}
use Rattle.search.proofs.beginning.sized_up.Goals as goal

pub returns-then-places-eq0 : goal.returns-then-places-eq0
returns-then-places-eq0 g c = record {
  sized = elim c.then-places-eq0.either [ inl z ↦ no_place z | inr h ↦ too_many h.1 ];
  sound = c.judged-judged.ensures.sound;
}

pub returns : goal.returns
returns g c = record {
  sized = roomy (omega (arith, c.if-places-eq0.false)) c.if-places-gt65535.false c.judged-judged.ensures;
  sound = c.judged-judged.ensures.sound;
}
