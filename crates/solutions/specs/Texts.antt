-- What is printed, byte by byte.
use Rattle.std.specs.Prelude.{ℕ, List, ◌++◌, codes, decimal}
use Rattle.costs.specs.declared.minutes.Minutes.{Minutes}
use Rattle.taskfile.specs.Entries.{joined}
use Rattle.theory.specs.declared.reply.Kind.{Kind}
use Rattle.theory.specs.declared.reply.Kind.TheVariants.{Pending, Plan, NoPlan, Full}
use Rattle.theory.specs.declared.reply.Reply.{Reply}

-- a plan: its cost, how many moves it has, their numbers in list order joined by commas, and the openings
abbrev pub text_of_plan : ℕ → ℕ → List ℕ → ℕ → List ℕ
text_of_plan cost length moves opened = codes "answer=plan\ncost=" ++ (decimal cost ++ (codes "\nlength=" ++ (decimal length
    ++ (codes "\nmoves=" ++ (joined moves ++ (codes "\nopened=" ++ (decimal opened ++ codes "\n")))))))

abbrev pub text_of_none : ℕ → List ℕ
text_of_none opened = codes "answer=none\nopened=" ++ (decimal opened ++ codes "\n")

abbrev pub text_of_full : ℕ → ℕ → List ℕ
text_of_full floor opened = codes "answer=full\nfloor=" ++ (decimal floor ++ (codes "\nopened=" ++ (decimal opened ++ codes "\n")))

abbrev pub text_of_pending : ℕ → ℕ → List ℕ
text_of_pending floor opened = codes "answer=pending\nfloor=" ++ (decimal floor ++ (codes "\nopened=" ++ (decimal opened ++ codes "\n")))

-- by the kind of the reply
abbrev pub text_by : Kind → Reply Minutes → List ℕ → List ℕ
text_by Plan r moves = text_of_plan r.value.total r.length moves r.opened
text_by NoPlan r moves = text_of_none r.opened
text_by Full r moves = text_of_full r.value.total r.opened
text_by Pending r moves = text_of_pending r.value.total r.opened

abbrev pub text_of_answer : Reply Minutes → List ℕ → List ℕ
text_of_answer r moves = text_by r.kind r moves
