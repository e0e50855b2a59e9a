use Rattle.std.proofs.Common.{◌≤◌, ◌+◌, ◌-◌, ◌*◌, length, take}
use Rattle.report.specs.DdmText.Adds.{Adds}
use Rattle.text_model.specs.Report.{word_texts}
use Rattle.report.proofs.pieces.push_words.Given as goal

abbrev pub invariant-words : goal.invariant-words
invariant-words g l = record {
  within : l.at ≤ length l.words;
  put : Adds (g.W.TextBuffer.text l.initial.out) (g.W.TextBuffer.text l.out) (word_texts (take l.at l.words));
  used : g.W.TextBuffer.room l.initial.out ≤ g.W.TextBuffer.room l.out + 9 * l.at;
}

abbrev pub decreases-words : goal.decreases-words
decreases-words g l = length l.words - l.at
