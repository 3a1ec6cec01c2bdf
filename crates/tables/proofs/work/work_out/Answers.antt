use Rattle.std.proofs.Common.{◌≡◌, length, get_or, None, sym, subst, ◌∙◌, ap, arith}
use Rattle.tables.specs.Equation.{setting_of}
use Rattle.tables.specs.Laid.{Known}
use Rattle.tables.specs.Worked.{WorkedOut}
use Rattle.tables.proofs.Cells.{same_past}
use Rattle.tables.proofs.Order.{laws_of}
use Rattle.tables.proofs.Rounds.{longer}
use Rattle.tables.proofs.Seen.{known}
use Rattle.tables.proofs.work.work_out.Goals as goal

pub settle-requires : goal.settle-requires
settle-requires g c =
    let b = setting_of c.args.task.now c.args.groups in
    record {
      known = subst Known (sym c.of.ensures) (known c.args.task.now c.args.groups);
      whole = subst (λ s. length c.split_at_mut-places.result.0.now ≡ (g.L.Layout.net s).count) (sym c.of.ensures) (c.split_at_mut-places.ensures.front_len ∙ c.count-count.ensures b c.facts.ensures);
    }

pub returns : goal.returns
returns g c =
    let b = setting_of c.args.task.now c.args.groups in
    let n = g.L.Layout.net b in
    let count = c.count-count.ensures b c.facts.ensures in
    let front = c.split_at_mut-places.result.0.now in
    let rest = c.split_at_mut-places.result.1.now in
    let filled = c.settle.new.table in
    let whole : length front ≡ n.count = c.split_at_mut-places.ensures.front_len ∙ count in
    let still : length filled ≡ length front = c.settle.auto.table in (
      count,
      omega (arith, count, c.if-table-count.false),
      longer n (laws_of g.V.Tally g.met.V.Tally.lawful) (c.is_laid.ensures b) filled rest (still ∙ whole) (subst (λ s. WorkedOut g.V.Tally (g.L.Layout.net s) filled) c.of.ensures c.settle.ensures),
      λ k h. same_past None filled front rest still k (omega (arith, h, whole)) ∙ ap (λ l. get_or l k None) (sym c.split_at_mut-places.ensures.value),
    )
