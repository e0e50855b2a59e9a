use Rattle.std.proofs.Common.{◌≡◌, ◌∙◌, ◌+◌, ◌-◌, ◌<◌, ◌∷◌, [], ap, sym, length, drop, take, Err, arith}
use Rattle.std.proofs.lemmas.List.{length-append, length-drop}
use Rattle.joining.specs.Said.{row_said}
use Rattle.joining.specs.TextModel.Schedule.{pieces_at}
use Rattle.join_model.specs.Table.{line_of_words}
use Rattle.join_model.specs.declared.table.TableRefusal.TheVariants.{BadLine, NoEnd}
use Rattle.joining.proofs.Cuts.{tail-is}
use Rattle.joining.proofs.ReadLines.{bad-at, cut-at, line-at}
use Rattle.joining.proofs.reading.lines_of.Goals as goal

pub returns-then-end-rest : goal.returns-then-end-rest
returns-then-end-rest c =
    let text = c.args.text.now in
    let at = c.reading.at in
    let tail = tail-is text at in
    let size = ap length tail in
    let whole : c.piece_end-end.result ≡ length (take (length text - at) (drop at text)) = omega (arith, c.if-end-rest.true, size, length-drop at text) in
    let pieces : pieces_at 10 (drop at text) ≡ drop at text ∷ [] = ap (pieces_at 10) (sym tail) ∙ c.piece_end-end.ensures.last whole ∙ ap (λ t. t ∷ []) tail in
    c.reading.invariant.read ∙ cut-at c.args.heading.lines c.reading.left at text c.reading.lines.items pieces
    ∙ ap (λ n. Err (NoEnd n)) (omega (arith, c.len-then-end-rest.ensures, c.reading.lines.ok.0))

pub returns-in-None : goal.returns-in-None
returns-in-None c =
    let text = c.args.text.now in
    let at = c.reading.at in
    let end = c.piece_end-end.result in
    let tail = tail-is text at in
    let size = ap length tail in
    let inside : end < length (take (length text - at) (drop at text)) = omega (arith, c.if-end-rest.false, c.piece_end-end.ensures.within, size, length-drop at text) in
    let pieces : pieces_at 10 (drop at text) ≡ take end (drop at text) ∷ pieces_at 10 (drop (end + 1) (drop at text)) =
    ap (pieces_at 10) (sym tail) ∙ c.piece_end-end.ensures.more inside ∙ ap (λ t. take end t ∷ pieces_at 10 (drop (end + 1) t)) tail in
    let more : length c.reading.lines.items < c.args.heading.lines = omega (arith, c.reading-test.true, c.len.ensures, c.reading.lines.ok.0) in
    c.reading.invariant.read
    ∙ bad-at c.args.heading.lines c.reading.left at text c.reading.lines.items end more pieces (ap (λ t. line_of_words c.reading.left (pieces_at 32 (take end t))) (sym tail) ∙ sym c.in-None.ensures.is)
    ∙ ap (λ n. Err (BadLine n)) (omega (arith, c.len-in-None.ensures, c.reading.lines.ok.0))

pub reading-preserved : goal.reading-preserved
reading-preserved c =
    let text = c.args.text.now in
    let at = c.reading.at in
    let end = c.piece_end-end.result in
    let l = row_said c.in-Some.row in
    let tail = tail-is text at in
    let size = ap length tail in
    let inside : end < length (take (length text - at) (drop at text)) = omega (arith, c.if-end-rest.false, c.piece_end-end.ensures.within, size, length-drop at text) in
    let pieces : pieces_at 10 (drop at text) ≡ take end (drop at text) ∷ pieces_at 10 (drop (end + 1) (drop at text)) =
    ap (pieces_at 10) (sym tail) ∙ c.piece_end-end.ensures.more inside ∙ ap (λ t. take end t ∷ pieces_at 10 (drop (end + 1) t)) tail in
    let more : length c.reading.lines.items < c.args.heading.lines = omega (arith, c.reading-test.true, c.len.ensures, c.reading.lines.ok.0) in
    let pushed = c.in_ok-push_row.ensures in
    let counted : length c.push_row.new.lines.items ≡ length c.reading.lines.items + 1 = ap length pushed ∙ length-append c.reading.lines.items (l ∷ []) in
    record {
      read = c.reading.invariant.read ∙ line-at c.args.heading.lines c.reading.left at text c.reading.lines.items end more pieces l c.push_row.new.lines.items (ap (λ t. line_of_words c.reading.left (pieces_at 32 (take end t))) (sym tail) ∙ sym c.in-Some.ensures.is) pushed;
      inside = omega (arith, inside, size, length-drop at text, c.reading.invariant.inside);
      few = omega (arith, counted, c.reading.invariant.few);
    }
