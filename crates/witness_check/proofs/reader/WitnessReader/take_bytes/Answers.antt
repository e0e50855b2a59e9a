use Rattle.std.proofs.Common.{◌-◌, ◌<◌, List, length, take, drop, refl, sym, ap, ◌∙◌, arith}
use Rattle.std.proofs.lemmas.List.{length-drop}
use Rattle.witness_check.specs.Judging.{lines_of}
use Rattle.witness_check.specs.Reader.{with_standing}
use Rattle.witness_check.proofs.Cuts.{inside, no_separator, none_before, tail_is}
use Rattle.witness_check.proofs.Parts.{line_more, rest_more}
use Rattle.witness_check.proofs.reader.WitnessReader.take_bytes.Goals as goal

pub take_part-requires : goal.take_part-requires
take_part-requires c = no_separator 10 (take (length c.args.piece.now - c.lines.from) (drop c.lines.from c.args.piece.now)) (sym c.in-None.ensures)

pub take_line-requires : goal.take_line-requires
take_line-requires c = none_before 10 (take (length c.args.piece.now - c.lines.from) (drop c.lines.from c.args.piece.now)) c.in-Some.end (sym c.in-Some.ensures)

pub returns-in-None : goal.returns-in-None
returns-in-None c = rest_more c.args.piece.now (take (length c.args.piece.now - c.lines.from) (drop c.lines.from c.args.piece.now)) c.lines.from c.lines.self c.take_part.new.self c.args.self.now (tail_is c.args.piece.now c.lines.from) c.lines.invariant.read c.take_part.ensures

pub lines-preserved : goal.lines-preserved
lines-preserved c =
    let piece = c.args.piece.now in
    let from = c.lines.from in
    let end = c.in-Some.end in
    let old = c.lines.self in
    let rest = take (length piece - from) (drop from piece) in
    let within : end < length rest = inside 10 rest end (sym c.in-Some.ensures) in
    let size = ap (λ (t : List _). length t) (tail_is piece from) ∙ length-drop from piece in
    record {
      within = omega (arith, within, size, c.lines.invariant.within);
      read = line_more piece rest from end old (with_standing (lines_of old.program old.standing (take end rest)) old) c.take_line.new.self c.args.self.now (tail_is piece from) (sym c.in-Some.ensures) c.lines.invariant.read refl c.take_line.ensures;
    }
