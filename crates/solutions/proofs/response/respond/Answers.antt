use Rattle.std.proofs.Common.{sym, ap, ◌∙◌}
use Rattle.std.proofs.lemmas.Result.{IfOk-weaker}
use Rattle.solutions.specs.Responses.{refused, solved}
use Rattle.solutions.specs.Texts.{text_of_answer}
use Rattle.solutions.proofs.Fronts.{said_length, front_read}
use Rattle.solutions.proofs.response.respond.Goals as goal

pub returns-in-Ok : goal.returns-in-Ok
returns-in-Ok c =
    let found = c.in-Ok.ensures in
    let s = found.solved in
    let front = front_read _ _ s.moves c.from.result s.written (c.from.ensures ∙ sym (said_length found.task s.moves c.in-Ok.reply s.says)) in
    IfOk-weaker c.answer_text.result _ _
    (λ text e. solved found.says_task (record { reply = c.in-Ok.reply; moves = s.moves; says = s.says; by_rules = s.by_rules; bytes = e ∙ ap (text_of_answer c.in-Ok.reply) front }))
    c.answer_text.ensures

pub returns-in-Err : goal.returns-in-Err
returns-in-Err c = IfOk-weaker c.to_string.result _ _ (λ text. refused c.in-Err.ensures) c.to_string.ensures.ok
