use Rattle.std.proofs.Common.{◌++◌, take, arith}
use Rattle.report.proofs.Written.{map_err, on_err, written_cut, written_more, written_part}
use Rattle.report.proofs.writing.write_pieces.Goals as goal

pub returns-then-is_empty-clause-err : goal.returns-then-is_empty-clause-err
returns-then-is_empty-clause-err g c =
    let part = written_part _ _ _ (g.P.Parts.left c.args.parts.now) (take c.writing.filled c.writing.buffer) (g.P.Parts.left c.writing.parts) c.writing.invariant.written in
    map_err c.write_all.result _ _ part c.write_all.ensures.err

pub returns-in_err-filled-clause-err : goal.returns-in_err-filled-clause-err
returns-in_err-filled-clause-err g c =
    let all = g.P.Parts.left c.args.parts.now in
    let held = take c.writing.filled c.writing.buffer in
    let line = c.put_next.new.line in
    let left = g.P.Parts.left c.put_next.new.self in
    let was = written_cut _ _ all held line left (g.P.Parts.left c.writing.parts) c.put_next.ensures.part c.writing.invariant.written in
    on_err c.from_residual.result _ (written_part _ _ _ all (held ++ line) left was c.in_err-filled.ensures.err)

pub writing-preserved : goal.writing-preserved
writing-preserved g c =
    let all = g.P.Parts.left c.args.parts.now in
    let held = take c.writing.filled c.writing.buffer in
    let line = c.put_next.new.line in
    let left = g.P.Parts.left c.put_next.new.self in
    let was = written_cut _ _ all held line left (g.P.Parts.left c.writing.parts) c.put_next.ensures.part c.writing.invariant.written in
    record {
      written = written_more _ _ _ all (held ++ line) left (take c.in_ok-filled.filled c.put_line.new.buffer) was c.in_ok-filled.ensures.ok;
      within = omega (arith, c.in_ok-filled.ensures.within);
      later = omega (arith, c.writing.invariant.later, c.put_line.ensures.cause.later);
      room = omega (arith, c.writing.invariant.room, c.put_line.auto.buffer);
    }
