use Rattle.std.proofs.Common.{drop, ap, ◌∙◌, arith}
use Rattle.film_parts.specs.StateWords.Parts.{request_words}
use Rattle.film_model.specs.Leaf.{request_text}
use Rattle.film_parts.proofs.ListSteps.{at_first, at_next_any, at_last, first_word}
use Rattle.film_parts.proofs.lists.push_requests.Goals as goal

pub entries-init : goal.entries-init
entries-init c = λ rs rest is. at_first request_words request_text rs rest _ _ (c.next-count.ensures.left ∙ ap (drop 1) is)

pub entries-preserved : goal.entries-preserved
entries-preserved c = λ rs rest is. at_next_any request_words request_text rs rest c.args.out.now.items c.entries._place _ _ _ _ (c.entries.invariant rs rest is) (omega (arith, c.entries-test.true, first_word c.next-count.ensures.word is)) c.in_ok-push_request.ensures

pub returns : goal.returns
returns c = λ rs rest is. at_last request_words request_text rs rest _ c.entries._place _ _ (omega (arith, c.entries-test.false, first_word c.next-count.ensures.word is)) (c.entries.invariant rs rest is)
