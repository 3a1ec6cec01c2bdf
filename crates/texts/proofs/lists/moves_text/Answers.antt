use Rattle.std.proofs.Common.{◌≡◌, map, decimal, Bor, ℕ, refl, ap, ◌∙◌, rules}
use Rattle.std.proofs.lemmas.Result.{IfOk-weaker}
use Rattle.taskfile.specs.Entries.{joined}
use Rattle.texts.proofs.Commas.{joined_shown}
use Rattle.texts.proofs.lists.moves_text.Goals as goal

pub returns : goal.returns
returns c =
    IfOk-weaker c.join.result _ _
    (λ text w.
    let all : map (λ (x : Bor ℕ). x.now) w.0.items ≡ c.args.moves.now = search rules in
    w.3 (λ x. decimal x.now) (λ x. refl) ∙ joined_shown (λ x. x.now) w.0.items ∙ ap joined all)
    c.join.ensures.text
