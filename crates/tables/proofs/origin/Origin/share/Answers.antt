use Rattle.std.proofs.Common.{sym, ◌∙◌, subst, arith, Some}
use Rattle.tasks.specs.Places.{At}
use Rattle.tasks.proofs.Places.{at_lent}
use Rattle.tables.proofs.Soundness.{share_at_move, share_past}
use Rattle.tables.proofs.origin.Origin.share.Goals as goal

pub returns-in_default : goal.returns-in_default
returns-in_default g c = c.nil.ensures ∙ sym (share_past g.V.Tally c.args.self.now.groups c.args.self.now.moves.now c.args.number (omega (arith, c.from.ensures, c.in_default.ensures.lookup.3)))

pub returns : goal.returns
returns g c =
    let moves = c.args.self.now.moves.now in
    c.counted_charge.ensures
    ∙ sym (share_at_move g.V.Tally c.args.self.now.groups moves c.args.number c.in-Some.m.now (subst (λ k. At moves k c.in-Some.m.now) c.from.ensures (at_lent moves c.from.result (Some c.in-Some.m) c.in-Some.ensures.lookup)))
