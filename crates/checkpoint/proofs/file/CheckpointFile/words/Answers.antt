use Rattle.std.proofs.Common.{sym, ap, ◌∙◌}
use Rattle.checkpoint.specs.Resumed.{whole_words}
use Rattle.checkpoint.proofs.FileWords.{words-in}
use Rattle.checkpoint.proofs.file.CheckpointFile.words.Goals as goal

pub returns : goal.returns
returns c =
    let file = c.self.inside in
    c.deref.ensures.value ∙ sym (words-in file.words.items file.rest c.self.invariant) ∙ ap whole_words c.self.view_is
