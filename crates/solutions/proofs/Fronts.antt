-- What was read out stands in the front of the list.
use Rattle.std.proofs.Common.{◌≡◌, ℕ, List, ◌++◌, length, take, drop, sym, ap, ◌∙◌}
use Rattle.std.proofs.Math.Seq.{take-append_seam}
use Rattle.tasks.specs.declared.task.Task.{Task}
use Rattle.costs.specs.declared.minutes.Minutes.{Minutes}
use Rattle.theory.specs.declared.reply.Reply.{Reply}
use Rattle.solutions.specs.Solutions.{Says, cheapest, no_list, no_room}

pub said_length : (t : Task) (moves : List ℕ) (r : Reply Minutes) → Says t moves r → length moves ≡ r.length
said_length t moves r (cheapest k g c e a) = e
said_length t moves r (no_list k e n a) = ap length e ∙ sym n
said_length t moves r (no_room k e n m a) = ap length e ∙ sym n

pub front_read : (before after moves : List ℕ) (k : ℕ) → after ≡ moves ++ drop (length moves) before → k ≡ length moves → take k after ≡ moves
front_read before after moves k is all = ap (λ i. take i after) all ∙ ap (take (length moves)) is ∙ take-append_seam moves (drop (length moves) before)
