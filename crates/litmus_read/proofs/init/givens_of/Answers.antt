use Rattle.std.proofs.Common.{◌≡◌, rules}
use Rattle.std.specs.Prelude.{Err}
use Rattle.litmus_read.proofs.Givens.{givens_fail}
use Rattle.litmus_read.proofs.init.givens_of.Goals as goal

pub returns-in_err-take_piece : goal.returns-in_err-take_piece
returns-in_err-take_piece c =
    let is : c.from_residual.result ≡ Err c.in_err-take_piece.field-0.0 = search rules in
    rw is
    (givens_fail c.args.threads c.loop-piece.givens.items c.take_piece.new.givens.items c.args.pieces.now c.loop-piece.piece-index c.piece-item.result c.in_err-take_piece.field-0.0
    c.loop-piece-test.true c.piece-item.is c.loop-piece.invariant c.in_err-take_piece.ensures)
