use Rattle.std.proofs.Common.{ap, ◌∙◌, ◌++◌}
use Rattle.checkpoint.proofs.WordBytes.{bytes_of, parts-behind}
use Rattle.checkpoint.specs.StateWords.Numbers.{key_words}
use Rattle.checkpoint.specs.StateWords.Parts.{op_words}
use Rattle.checkpoint.proofs.pieces.put_operation.Goals as goal

pub returns-clause-bytes : goal.returns-clause-bytes
returns-clause-bytes c =
    let line = c.args.line.now in
    let first = c.put_words.new.line in
    let second = c.put_words-2.new.line in
    parts-behind (key_words c.op.inside.0.0) _ _ _ line first second c.put_words-3.new.line
    (c.put_words.ensures.bytes ∙ ap (λ ws. line ++ bytes_of ws) c.key_words.ensures)
    c.put_words-2.ensures.bytes
    (c.put_words-3.ensures.bytes ∙ ap (λ ws. second ++ bytes_of ws) c.effect_words.ensures)
    ∙ ap (λ o. line ++ bytes_of (op_words o)) c.op.view_is
