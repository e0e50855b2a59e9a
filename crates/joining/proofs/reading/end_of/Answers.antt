use Rattle.std.proofs.Common.{◌≡◌, ◌∙◌, ◌+◌, ◌∷◌, [], ap, sym, length, drop, take, arith}
use Rattle.std.proofs.lemmas.List.{drop_all, length-drop}
use Rattle.joining.specs.TextModel.Schedule.{pieces_at}
use Rattle.join_model.specs.Table.{lines_from}
use Rattle.joining.proofs.ReadLines.{end-bad, end-good, end-more, lines-cut}
use Rattle.joining.proofs.reading.end_of.Goals as goal

pub returns-then-end-rest : goal.returns-then-end-rest
returns-then-end-rest c =
    let rest = c.args.rest.now in
    let whole : c.piece_end-end.result ≡ length rest = omega (arith, c.if-end-rest.true) in
    ap (lines_from c.args.line 0 c.args.left) (c.piece_end-end.ensures.last whole) ∙ lines-cut c.args.line 0 c.args.left rest

pub returns-then-end-rest-2 : goal.returns-then-end-rest-2
returns-then-end-rest-2 c =
    let rest = c.args.rest.now in
    let end = c.piece_end-end.result in
    let pieces = c.piece_end-end.ensures.more (omega (arith, c.piece_end-end.ensures.within, c.if-end-rest.false)) in
    ap (lines_from c.args.line 0 c.args.left) pieces
    ∙ end-more c.args.line c.args.left (take end rest) (drop (end + 1) rest) (sym c.is_end.ensures ∙ c.if-is_end.true) (omega (arith, length-drop (end + 1) rest, c.if-end-rest-2.true))

pub returns-then-is_end : goal.returns-then-is_end
returns-then-is_end c =
    let rest = c.args.rest.now in
    let end = c.piece_end-end.result in
    let pieces = c.piece_end-end.ensures.more (omega (arith, c.piece_end-end.ensures.within, c.if-end-rest.false)) in
    let none : drop (end + 1) rest ≡ [] = drop_all (end + 1) rest (omega (arith, c.if-end-rest-2.false)) in
    ap (lines_from c.args.line 0 c.args.left) (pieces ∙ ap (λ xs. take end rest ∷ pieces_at 10 xs) none)
    ∙ end-good c.args.line c.args.left (take end rest) (sym c.is_end.ensures ∙ c.if-is_end.true)

pub returns : goal.returns
returns c =
    let rest = c.args.rest.now in
    let end = c.piece_end-end.result in
    let pieces = c.piece_end-end.ensures.more (omega (arith, c.piece_end-end.ensures.within, c.if-end-rest.false)) in
    ap (lines_from c.args.line 0 c.args.left) pieces
    ∙ end-bad c.args.line c.args.left (take end rest) (drop (end + 1) rest) (sym c.is_end.ensures ∙ c.if-is_end.false)
