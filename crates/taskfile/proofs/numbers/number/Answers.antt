use Rattle.std.proofs.Common.{refl, arith, ltb-false, ltb-true}
use Rattle.taskfile.proofs.Decimals.{sofar_more, sofar_small, is_numeral, looks}
use Rattle.taskfile.proofs.numbers.number.Goals as goal
use Rattle.taskfile.proofs.numbers.number.Goals.{in_default-via-then-v-lt2, in_default-via-else-v-lt2+in_default-1}

pub returns-in-empty : goal.returns-in-empty
returns-in-empty c = (refl, λ n m. let l = looks c.args.v.now n m in omega (arith, ltb-true))

pub returns-in-empty-2 : goal.returns-in-empty-2
returns-in-empty-2 c = (refl, λ n m. let l = looks c.args.v.now n m in omega (arith, ltb-false, l.lead (omega arith)))

pub returns-in_default : goal.returns-in_default
returns-in_default c = (refl, λ n m. let l = looks c.args.v.now n m in omega arith)

pub returns-then-not-is_ascii_digit : goal.returns-then-not-is_ascii_digit
returns-then-not-is_ascii_digit c = (
  refl,
  λ n m.
      let d = (looks c.args.v.now n m).digit c.loop-b.b-index (omega arith) in
      omega (arith, c.if-not-is_ascii_digit.ensures.cases),
)

pub overflow_mul-n : goal.overflow_mul-n
overflow_mul-n c = let s = sofar_small c.args.v.now c.loop-b.b-index _ c.loop-b.invariant (omega arith) in omega arith

pub overflow_add-n : goal.overflow_add-n
overflow_add-n c = let s = sofar_small c.args.v.now c.loop-b.b-index _ c.loop-b.invariant (omega arith) in omega arith

pub loop-b-preserved : goal.loop-b-preserved
loop-b-preserved c =
    sofar_more c.args.v.now _ _ _ c.loop-b.invariant (omega arith) c.if-not-is_ascii_digit.ensures.cases (omega arith)

pub returns : goal.returns
returns c =
    is_numeral c.args.v.now _ _ c.loop-b.invariant (omega arith) (omega (arith, ltb-false)) (omega arith)
    (elim c.in_default.branch [ in_default-via-then-v-lt2 w ↦ λ z. omega (arith, ltb-true, ltb-false) | in_default-via-else-v-lt2+in_default-1 w ↦ λ z. absurd (omega arith) ])
