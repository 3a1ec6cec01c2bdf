use Rattle.std.proofs.Common.{◌≡◌, Ok, length, refl, ap, ◌∙◌, rules}
use Rattle.tables.specs.Origins.{setting_in}
use Rattle.solutions.proofs.Bounding.{seen, useful}
use Rattle.solutions.proofs.Asking.{asks, found, always_found, not_read}
use Rattle.solutions.proofs.finding.search_by.Goals as goal

pub unreachable-requires : goal.unreachable-requires
unreachable-requires c =
    let long : length c.args.list.now ≡ 1024 = search rules in
    let t = c.args.task in
    let b = setting_in c.of-bound.result.places.origin in
    let pairs = c.of-bound.result.places.table.now in
    let u = useful t 255 c.args.pairs.now c.requires b pairs c.of-bound.ensures.0 c.of-bound.ensures.1 in
    let asked = asks t (seen b pairs t) _ _ c.queue.new.replies c.args.list.now c.queue.new.list c.queue.result u long refl c.queue.ensures in
    always_found asked c.index-told-0.result (λ r e. c.in_default.not-Ok _ e)

pub unreachable-requires-in-Read : goal.unreachable-requires-in-Read
unreachable-requires-in-Read c =
    let long : length c.args.list.now ≡ 1024 = search rules in
    let t = c.args.task in
    let b = setting_in c.of-bound.result.places.origin in
    let pairs = c.of-bound.result.places.table.now in
    let u = useful t 255 c.args.pairs.now c.requires b pairs c.of-bound.ensures.0 c.of-bound.ensures.1 in
    let asked = asks t (seen b pairs t) _ _ c.queue.new.replies c.args.list.now c.queue.new.list c.queue.result u long refl c.queue.ensures in
    always_found asked c.index-told-0.result (λ r e. not_read c.in-Ok.is c.in-Read.is e)

pub returns : goal.returns
returns c =
    let long : length c.args.list.now ≡ 1024 = search rules in
    let t = c.args.task in
    let b = setting_in c.of-bound.result.places.origin in
    let pairs = c.of-bound.result.places.table.now in
    let u = useful t 255 c.args.pairs.now c.requires b pairs c.of-bound.ensures.0 c.of-bound.ensures.1 in
    let asked = asks t (seen b pairs t) _ _ c.queue.new.replies c.args.list.now c.queue.new.list c.queue.result u long refl c.queue.ensures in
    found asked c.index-told-0.result c.in-Ran.reply (c.in-Ok.is ∙ ap Ok c.in-Ran.is)
