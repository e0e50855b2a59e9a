use Rattle.std.proofs.Common.{sym, arith}
use Rattle.std.proofs.lemmas.List.{append-nil}
use Rattle.report.specs.DdmText.Adds.{◌▸◌}
use Rattle.text_model.specs.Report.{word_texts}
use Rattle.report.proofs.Words.{last-word, two-words}
use Rattle.report.proofs.pieces.push_words.Goals as goal

pub words-init : goal.words-init
unfolding word_texts
words-init g c = record {
  within = omega arith;
  put = record { is = sym (append-nil (g.W.TextBuffer.text c.args.out.now)) };
  used = omega arith;
}

pub words-preserved : goal.words-preserved
words-preserved g c = record {
  within = omega (arith, c.words-test.true);
  put = rw (two-words c.args.words.now c.words.at c.words-test.true) (c.words.invariant.put ▸ c.in_ok-push_two_words.ensures.text);
  used = omega (arith, c.words.invariant.used, c.in_ok-push_two_words.ensures.room);
}

pub returns-in_ok-push_spaced_hex8-clause-text : goal.returns-in_ok-push_spaced_hex8-clause-text
returns-in_ok-push_spaced_hex8-clause-text g c = rw (last-word c.args.words.now c.words.at c.if-at-words.true (omega (arith, c.words-test.false))) (c.words.invariant.put ▸ c.in_ok-push_spaced_hex8.ensures.text)
