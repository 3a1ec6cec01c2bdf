use Rattle.std.proofs.Common.{take, drop, ap, ◌∙◌}
use native.Mathlib.Nat.{sub-zero}
use Rattle.queues.proofs.Fronting.{front_read}
use Rattle.queues.proofs.answering.read_front.Goals as goal

pub returns : goal.returns
returns g c =
    let list = c.args.list.now in
    let places = sub-zero c.min-places.result ∙ c.min-places.ensures in
    front_read g.V.Tally c.args.search.now c.args.room list _ c.read_out.new.list _ (ap (λ n. take n list) places) (ap (λ n. drop n list) places)
    c.read_out.auto.list c.read_out.result c.read_out.ensures
