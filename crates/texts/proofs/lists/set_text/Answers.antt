use Rattle.std.proofs.Common.{decimal, refl, ap, ◌∙◌}
use Rattle.std.proofs.lemmas.Result.{IfOk-weaker}
use Rattle.std.proofs.lemmas.List.{map-id}
use Rattle.taskfile.specs.Entries.{joined}
use Rattle.texts.proofs.Commas.{joined_shown}
use Rattle.texts.proofs.Comings.{run_lists}
use Rattle.texts.proofs.lists.set_text.Goals as goal

pub returns : goal.returns
returns c =
    IfOk-weaker c.join.result _ _
    (λ text w. (w.0.items, run_lists w.0 c.args.set w.2 (ap (λ r. r.left) w.1 ∙ c.iter.ensures), w.3 decimal (λ x. refl) ∙ joined_shown (λ n. n) w.0.items ∙ ap joined (map-id w.0.items)))
    c.join.ensures.text
