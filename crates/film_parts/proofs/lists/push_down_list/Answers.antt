use Rattle.std.proofs.Common.{drop, ap, ◌∙◌, arith}
use Rattle.film_parts.specs.StateWords.Parts.{down_words}
use Rattle.film_parts.specs.Forms.{IsWide}
use Rattle.film_model.specs.Directory.{down_text}
use Rattle.film_parts.proofs.ListSteps.{at_first, at_next_place, at_last, first_word}
use Rattle.film_parts.proofs.lists.push_down_list.Goals as goal

pub entries-init : goal.entries-init
entries-init c = λ es rest is form. at_first down_words (down_text c.args.level) es rest _ _ (c.next-count.ensures.left ∙ ap (drop 1) is)

pub entries-preserved : goal.entries-preserved
entries-preserved c = λ es rest is form. at_next_place down_words (down_text c.args.level) es rest c.args.out.now.items (IsWide c.args.width) c.entries._place _ _ _ _ (c.entries.invariant es rest is form) (omega (arith, c.entries-test.true, first_word c.next-count.ensures.word is)) form c.in_ok-push_down.ensures

pub returns : goal.returns
returns c = λ es rest is form. at_last down_words (down_text c.args.level) es rest _ c.entries._place _ _ (omega (arith, c.entries-test.false, first_word c.next-count.ensures.word is)) (c.entries.invariant es rest is form)
