use Rattle.std.proofs.Common.{◌≡◌, ◌∙◌, ◌+◌, ◌-◌, ap, sym, length, drop, take, arith}
use Rattle.joining.specs.Said.{heading_said}
use Rattle.joining.specs.TextModel.Schedule.{pieces_at}
use Rattle.join_model.specs.Table.{lines_from, table_of_pieces, table_with}
use Rattle.joining.proofs.Cuts.{tail-is}
use Rattle.joining.proofs.ReadLines.{error-of, table-bad, table-cut, table-good}
use Rattle.joining.proofs.reading.table_of.Goals as goal

pub returns-then-end-text : goal.returns-then-end-text
returns-then-end-text c =
    let text = c.args.text.now in
    let whole : c.piece_end-end.result ≡ length text = omega (arith, c.if-end-text.true) in
    ap table_of_pieces (c.piece_end-end.ensures.last whole) ∙ table-cut text

pub returns-in-None : goal.returns-in-None
returns-in-None c =
    let text = c.args.text.now in
    let end = c.piece_end-end.result in
    let pieces = c.piece_end-end.ensures.more (omega (arith, c.piece_end-end.ensures.within, c.if-end-text.false)) in
    ap table_of_pieces pieces ∙ table-bad (take end text) (drop (end + 1) text) (sym c.in-None.ensures)

pub returns-in-Ok : goal.returns-in-Ok
returns-in-Ok c =
    let text = c.args.text.now in
    let end = c.piece_end-end.result in
    let h = heading_said c.in-Some.heading in
    let pieces = c.piece_end-end.ensures.more (omega (arith, c.piece_end-end.ensures.within, c.if-end-text.false)) in
    ap table_of_pieces pieces ∙ table-good (take end text) (drop (end + 1) text) h (sym c.in-Some.ensures)
    ∙ ap (λ t. table_with h.kind h.runs (lines_from 2 h.lines h.runs (pieces_at 10 t))) (sym (tail-is text (end + 1))) ∙ ap (table_with h.kind h.runs) c.in-Ok.ensures

pub returns-in-Err : goal.returns-in-Err
returns-in-Err c =
    let text = c.args.text.now in
    let end = c.piece_end-end.result in
    let h = heading_said c.in-Some.heading in
    let pieces = c.piece_end-end.ensures.more (omega (arith, c.piece_end-end.ensures.within, c.if-end-text.false)) in
    let read : table_of_pieces (pieces_at 10 text) ≡ table_with h.kind h.runs (lines_from 2 h.lines h.runs (pieces_at 10 (take (length text - (end + 1)) (drop (end + 1) text)))) =
    ap table_of_pieces pieces ∙ table-good (take end text) (drop (end + 1) text) h (sym c.in-Some.ensures)
    ∙ ap (λ t. table_with h.kind h.runs (lines_from 2 h.lines h.runs (pieces_at 10 t))) (sym (tail-is text (end + 1))) in
    error-of (lines_from 2 h.lines h.runs (pieces_at 10 (take (length text - (end + 1)) (drop (end + 1) text)))) (table_of_pieces (pieces_at 10 text)) c.in-Err.error (λ r is. read ∙ ap (table_with h.kind h.runs) is) c.in-Err.ensures
