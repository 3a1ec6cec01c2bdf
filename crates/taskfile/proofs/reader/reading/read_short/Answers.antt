use Rattle.taskfile.proofs.Backwards.{reads_back}
use Rattle.taskfile.proofs.Unique.{one_outcome, exact_lines, by_lines_outcome}
use Rattle.taskfile.proofs.reader.reading.read_short.Goals as goal

pub returns : goal.returns
returns c =
    let src = c.args.bytes.now in
    let before = c.args.moves.now in
    let after = c.read_lines.new.moves in
    let o = by_lines_outcome src before after c.read_lines.result c.requires c.read_lines.ensures in
    record {
      outcome = o;
      only = λ s others p. one_outcome src before others after s c.read_lines.result p o;
      exact = exact_lines src before after c.read_lines.result c.requires c.read_lines.ensures;
      back = reads_back src before after c.read_lines.result o;
    }
