use Rattle.std.proofs.Common.{◌≡◌, rules}
use Rattle.std.specs.Prelude.{Err}
use Rattle.litmus_text.proofs.Texts.{last_fails, tokens_fail}
use Rattle.litmus_text.proofs.tokens.tokens_of.Goals as goal

pub returns-in_err-push_ended : goal.returns-in_err-push_ended
returns-in_err-push_ended c =
    let is : c.from_residual.result ≡ Err c.in_err-push_ended.field-0.0 = search rules in
    rw is
    (tokens_fail c.args.first c.loop-byte.line c.loop-byte.tokens.items c.push_ended.new.tokens.items c.loop-byte.word.items c.deref.result.now c.args.text.now c.loop-byte.byte-index 0 c.in_err-push_ended.field-0.0
    c.loop-byte-test.true c.loop-byte.invariant.whole c.deref.ensures.value c.in_err-push_ended.ensures)

pub returns-in_err-push_word : goal.returns-in_err-push_word
returns-in_err-push_word c =
    let is : c.from_residual-in_err-push_word.result ≡ Err c.in_err-push_word.field-0.0 = search rules in
    rw is
    (last_fails c.args.first c.loop-byte.line c.loop-byte.tokens.items c.push_word.new.tokens.items c.loop-byte.word.items c.deref-2.result.now c.args.text.now c.loop-byte.byte-index c.in_err-push_word.field-0.0
    c.loop-byte-test.false c.loop-byte.invariant.whole c.deref-2.ensures.value c.in_err-push_word.ensures)
