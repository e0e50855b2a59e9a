use Rattle.std.proofs.Common.{drop, ap, ◌∙◌, arith}
use Rattle.film_parts.specs.StateWords.Parts.{buffer_words}
use Rattle.film_parts.specs.ValueLaws.Values.{BufferHasForm}
use Rattle.film_model.specs.Leaf.{buffer_text}
use Rattle.film_parts.proofs.ListSteps.{at_first, at_next_place, at_last, first_word}
use Rattle.film_parts.proofs.lists.push_buffer.Goals as goal

pub entries-init : goal.entries-init
entries-init c = λ es rest is form. at_first buffer_words buffer_text es rest _ _ (c.next-count.ensures.left ∙ ap (drop 1) is)

pub entries-preserved : goal.entries-preserved
entries-preserved c = λ es rest is form. at_next_place buffer_words buffer_text es rest c.args.out.now.items (BufferHasForm c.args.width) c.entries._place _ _ _ _ (c.entries.invariant es rest is form) (omega (arith, c.entries-test.true, first_word c.next-count.ensures.word is)) form c.in_ok-push_buffered.ensures

pub returns : goal.returns
returns c = λ es rest is form. at_last buffer_words buffer_text es rest _ c.entries._place _ _ (omega (arith, c.entries-test.false, first_word c.next-count.ensures.word is)) (c.entries.invariant es rest is form)
