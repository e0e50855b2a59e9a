use Rattle.std.proofs.Common.{◌∙◌, arith}
use Rattle.ddm_cli.proofs.FileInPieces.{piece_read}
use Rattle.ddm_cli.proofs.resuming.read_checkpoint.Goals as goal

pub reading-preserved : goal.reading-preserved
reading-preserved g c =
    let told = g.F.Shelf.told c.args.files.now c.args.name.now in
    let part = rw c.reading.invariant.same at c.in-Ok.ensures.told in
    record {
      so_far = piece_read told c.reading.file c.in-Ok-feed.longer c.read.new.into c.len-in-reading.result c.in-Ok.n c.reading.invariant.so_far c.len-in-reading.ensures part c.in-Ok.ensures.bound c.in-Ok-feed.ensures;
      same = c.read.ensures.same ∙ c.reading.invariant.same;
      later = λ other. omega (arith, c.reading.invariant.later other, c.read.ensures.later other);
    }
