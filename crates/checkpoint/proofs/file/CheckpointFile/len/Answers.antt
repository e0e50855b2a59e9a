use Rattle.std.proofs.Common.{◌≡◌, ◌+◌, ◌*◌, length, sym, ap, ◌∙◌, arith}
use Rattle.checkpoint.specs.FileBytes.{rest_bytes}
use Rattle.checkpoint.proofs.FileWords.{file-long}
use Rattle.checkpoint.proofs.file.CheckpointFile.len.Goals as goal

pub returns : goal.returns
returns c =
    let file = c.self.inside in
    let long : length c.args.self.now ≡ 4 * length file.words.items + length (rest_bytes file.rest) = sym (ap length c.self.view_is) ∙ file-long file.words.items file.rest in
    omega (arith, ap length c.as_slice-words.ensures.value, c.rest_len.ensures, long)
