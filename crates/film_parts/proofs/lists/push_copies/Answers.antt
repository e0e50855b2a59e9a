use Rattle.std.proofs.Common.{drop, ap, ◌∙◌, arith}
use Rattle.film_parts.specs.StateWords.Parts.{item_and_words}
use Rattle.film_parts.specs.ValueLaws.Values.{CopyHasForm}
use Rattle.film_model.specs.Leaf.{copy_text}
use Rattle.film_parts.proofs.ListSteps.{at_first, at_next_place, at_last, first_word}
use Rattle.film_parts.proofs.lists.push_copies.Goals as goal

pub entries-init : goal.entries-init
entries-init c = λ cs rest is form. at_first item_and_words copy_text cs rest _ _ (c.next-count.ensures.left ∙ ap (drop 1) is)

pub entries-preserved : goal.entries-preserved
entries-preserved c = λ cs rest is form. at_next_place item_and_words copy_text cs rest c.args.out.now.items (CopyHasForm c.args.width) c.entries._place _ _ _ _ (c.entries.invariant cs rest is form) (omega (arith, c.entries-test.true, first_word c.next-count.ensures.word is)) form c.in_ok-push_copy.ensures

pub returns : goal.returns
returns c = λ cs rest is form. at_last item_and_words copy_text cs rest _ c.entries._place _ _ (omega (arith, c.entries-test.false, first_word c.next-count.ensures.word is)) (c.entries.invariant cs rest is form)
