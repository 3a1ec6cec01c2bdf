-- What a run comes to.
use Rattle.std.specs.Prelude.{ℕ, List}
use Rattle.costs.specs.declared.tally.Tally.{Ghosts}
use Rattle.theory.specs.Problem.{Problem}
use Rattle.theory.specs.Runs.{Runs}
use Rattle.theory.specs.declared.record.Record.{Record}
use Rattle.theory.specs.declared.reply.End.{End}
use Rattle.theory.specs.declared.reply.Reply.{Reply}
use Rattle.runs.specs.Trails.{Sane}

-- the run is one of the rules, from the records and the end before it to those after it
pub record RunsTo {V : Type 0} {tally : Ghosts V} (P : Problem tally) (grant : ℕ) (recs : List (Record V)) (end : End) (reply : Reply V) (later : List (Record V)) (last : End) : Type 0 where
  pub runs : Runs P grant recs end reply later last
  pub sane : ∥ Sane later last ∥₁
