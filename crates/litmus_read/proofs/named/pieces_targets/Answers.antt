use Rattle.std.proofs.Common.{◌≡◌, rules, subst}
use Rattle.std.specs.Prelude.{Err}
use Rattle.litmus_model.specs.Tokens.{Piece}
use Rattle.litmus_model.specs.Condition.{named_targets}
use Rattle.litmus_text.specs.Reads.{Adds}
use Rattle.litmus_read.proofs.NamedTargets.{pieces_fail}
use Rattle.litmus_read.proofs.named.pieces_targets.Goals as goal

pub returns-in_err-push_piece : goal.returns-in_err-push_piece
returns-in_err-push_piece c =
    let is : c.from_residual.result ≡ Err c.in_err-push_piece.field-0.0 = search rules in
    let old = c.loop-piece.named.items in
    let new = c.push_piece.new.named.items in
    rw is
    (pieces_fail old new c.args.threads c.args.pieces.now c.loop-piece.piece-index c.piece-item.result c.in_err-push_piece.field-0.0 c.loop-piece-test.true c.loop-piece.invariant
    (subst (λ (p : Piece). Adds (named_targets c.args.threads p.tokens) old new (Err c.in_err-push_piece.field-0.0)) c.piece-item.is c.in_err-push_piece.ensures))
