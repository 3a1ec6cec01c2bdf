use Rattle.std.proofs.Common.{◌<◌, take, set, ap, ◌∙◌, arith}
use Rattle.records.proofs.Places.{put_take, recs_length}
use Rattle.records.proofs.table.Records.put.Goals as goal

pub returns-clause-put : goal.returns-clause-put
returns-clause-put g c =
    let s = c.args.self.now in
    let less : c.args.number < s.count = omega (arith, c.requires, recs_length s) in
    ap (λ i. take s.count (set s.table.now i c.args.new)) c.from.ensures ∙ put_take s.count s.table.now c.args.number c.args.new less
