use Rattle.std.proofs.Common.{rules}
use Rattle.std.proofs.lemmas.Result.{MatchResult-weaker}
use Rattle.taskfile.proofs.Taking.{answered}
use Rattle.taskfile.proofs.reader.Reader.next.Goals as goal

pub returns : goal.returns
returns g c =
    answered g.T.FromValue.tells c.args.self.now c.next_value.new.self c.next_value.result c.and_then.result c.map_err.result c.next_value.ensures
    (MatchResult-weaker c.next_value.result c.and_then.ensures (λ v p. search rules) (λ f e. e))
    (MatchResult-weaker c.and_then.result c.map_err.ensures.cases (λ u e. e) (λ f p. search rules))
