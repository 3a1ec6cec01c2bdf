use Rattle.std.proofs.Common.{rules, eqb, refl, arith, false-eqb}
use Rattle.std.proofs.lemmas.List.Sorted.{answers_always}
use Rattle.taskfile.proofs.Exits.{exits}
use Rattle.taskfile.proofs.Listings.{start, left_more, left_refused}
use Rattle.taskfile.proofs.sets.set.Goals as goal

pub loop-item-init : goal.loop-item-init
loop-item-init c =
    let first = c.split-item-items.ensures in
    rw (c.into_iter-item-iterator.ensures.into_iter_gives, first.done, first.rest)
    (start _ _ c.args.v.now refl refl c.empty-2.ensures (omega (arith, false-eqb _ 0 c.if-is_empty.ensures)))

pub returns-in_err-read : goal.returns-in_err-read
returns-in_err-read c =
    let f = c.in_err-read.ensures in
    let z = c.in-Some.ensures.steps in
    rw (exits c.from_residual.ensures.1, f.0)
    (left_refused _ _ _ _ z.0 c.loop-item.invariant _ _ c.next.new.self.rest.now (z.1, (z.2 (λ b. eqb b 44) (answers_always _ _ _ (λ f a r g h. search rules))).1) f.1)

pub loop-item-preserved : goal.loop-item-preserved
loop-item-preserved c =
    let z = c.in-Some.ensures.steps in
    left_more _ _ _ _ z.0 c.loop-item.invariant _ _ _ _ (z.1, (z.2 (λ b. eqb b 44) (answers_always _ _ _ (λ f a r g h. search rules))).1) c.in_ok-read.ensures
