use Rattle.std.proofs.Common.{false, ap, ◌∙◌}
use Rattle.checkpoint.specs.AnyMachine.Any.{machine_state}
use Rattle.checkpoint.specs.PiecesLeft.{bytes_left, front_words}
use Rattle.checkpoint.proofs.BytesLeft.{nothing-given}
use Rattle.checkpoint.proofs.pieces.CheckpointPieces.new.Goals as goal

pub returns : goal.returns
returns c =
    let m = (machine_state c.args.machine.now).machine in
    ap (λ words. bytes_left 0 words 0 c.ops.result.now.items false) c.in_ok-front.ensures
    ∙ ap (λ ops. bytes_left 0 (front_words m c.args.counts) 0 ops false) c.ops.ensures
    ∙ nothing-given m c.args.counts
