use Rattle.std.proofs.Common.{drop, ap, ◌∙◌, arith}
use Rattle.film_parts.specs.StateWords.Parts.{standing_words}
use Rattle.film_parts.proofs.ListSteps.{first_word, passed_last, passed_next}
use Rattle.film_parts.proofs.ListEntries.{standing_split}
use Rattle.film_parts.proofs.lists.skip_standing.Goals as goal

pub standing-init : goal.standing-init
standing-init c = λ ss rest is form. c.next-count.ensures.left ∙ ap (drop 1) is

pub standing-preserved : goal.standing-preserved
standing-preserved c = λ ss rest is form.
    passed_next standing_words _ ss rest c.standing._place _ _ (c.standing.invariant ss rest is form)
    (standing_split c.args.width c.standing._place ss (omega (arith, c.standing-test.true, first_word c.next-count.ensures.word is)) form) c.take.ensures.left

pub returns : goal.returns
returns c = λ ss rest is form. passed_last standing_words ss rest c.standing._place _ (omega (arith, c.standing-test.false, first_word c.next-count.ensures.word is)) (c.standing.invariant ss rest is form)
