use Rattle.std.proofs.lemmas.Result.{IfOk-weaker}
use Rattle.answers.specs.Responses.{refused, accepted}
use Rattle.answers.proofs.response.respond.Goals as goal

pub returns-in-Ok : goal.returns-in-Ok
returns-in-Ok c =
    IfOk-weaker c.accepted_text.result _ _ (λ text. accepted c.in-Ok.ensures c.floor_of.ensures) c.accepted_text.ensures

pub returns-in-Err : goal.returns-in-Err
returns-in-Err c = IfOk-weaker c.to_string.result _ _ (λ text. refused c.in-Err.ensures) c.to_string.ensures.ok
