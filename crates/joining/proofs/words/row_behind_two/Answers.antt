use Rattle.std.proofs.Common.{◌∙◌, ap, sym, cond, drop, take, None}
use Rattle.join_model.specs.Table.{line_with, most_number, number_in}
use Rattle.joining.proofs.Cuts.{tail-is}
use Rattle.joining.proofs.ReadLines.{line-words}
use Rattle.joining.proofs.words.row_behind_two.Goals as goal

pub returns-then-is_outcome-clause-is : goal.returns-then-is_outcome-clause-is
returns-then-is_outcome-clause-is c =
    let rest = c.args.rest.now in
    let end = c.piece_end-end.result in
    let line = line_with (number_in c.args.left c.args.times.now) (number_in most_number (take end rest)) (drop end rest) in
    let words = line-words c.args.left c.args.mark.now c.args.times.now rest end c.piece_end-end.ensures.within c.piece_end-end.ensures.last c.piece_end-end.ensures.more c.piece_end-end.ensures.here in
    c.row_with.ensures.is ∙ ap (λ o. line_with (number_in c.args.left c.args.times.now) (number_in most_number (take end rest)) o) (tail-is rest end) ∙ sym (words ∙ ap (λ b. cond b line None) (sym c.is_outcome.ensures ∙ c.if-is_outcome.true))

pub returns-else-is_outcome-clause-is : goal.returns-else-is_outcome-clause-is
returns-else-is_outcome-clause-is c =
    let rest = c.args.rest.now in
    let end = c.piece_end-end.result in
    let line = line_with (number_in c.args.left c.args.times.now) (number_in most_number (take end rest)) (drop end rest) in
    let words = line-words c.args.left c.args.mark.now c.args.times.now rest end c.piece_end-end.ensures.within c.piece_end-end.ensures.last c.piece_end-end.ensures.more c.piece_end-end.ensures.here in
    sym (words ∙ ap (λ b. cond b line None) (sym c.is_outcome.ensures ∙ c.if-is_outcome.false))
