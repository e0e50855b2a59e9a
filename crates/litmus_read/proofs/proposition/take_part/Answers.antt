use Rattle.std.proofs.Common.{List, ap}
use Rattle.litmus_model.specs.Condition.{RawChunk, proposition_from}
use Rattle.litmus_text.specs.Reads.{behind}
use Rattle.litmus_read.proofs.Readings.{part_added}
use Rattle.litmus_read.proofs.proposition.take_part.Goals as goal

pub returns : goal.returns
returns c = λ threads end cs.
    let r = c.args.reading.now in
    rw (c.begun-reading.ensures, c.in_ok-push_part.ensures)
    (ap (λ (rs : List RawChunk). behind r.chunks.items (proposition_from threads end r.standing rs)) (part_added c.args.token.now r.line r.row.items cs))
