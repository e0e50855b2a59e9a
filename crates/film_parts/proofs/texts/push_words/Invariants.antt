use Rattle.std.proofs.Common.{◌≡◌, ◌++◌, take}
use Rattle.text_model.specs.Report.{word_texts}
use Rattle.film_parts.proofs.texts.push_words.Given as goal

abbrev pub invariant-words : goal.invariant-words
invariant-words l = l.out.items ≡ l.fn.out.items ++ word_texts (take l.word-index l.words)
