use Rattle.std.proofs.Common.{sym, ◌∙◌}
use Rattle.litmus_text.proofs.Texts.{ended_adds}
use Rattle.litmus_text.proofs.tokens.push_ended.Goals as goal

pub returns : goal.returns
returns c =
    ended_adds c.args.tokens.now.items c.push_word.new.tokens.items c.push_mark.new.tokens.items c.args.line c.args.word.now c.args.byte c.push_mark.result
    (sym c.is_word_byte.ensures ∙ c.if-is_word_byte.false) c.in_ok-push_word.ensures c.push_mark.ensures
