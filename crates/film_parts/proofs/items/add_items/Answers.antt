use Rattle.std.proofs.Common.{nat_eq, arith}
use Rattle.film_parts.specs.Records.{IsPlain}
use Rattle.film_parts.proofs.DirItems.{items_first, items_next, items_last}
use Rattle.film_parts.proofs.ListSteps.{split}
use Rattle.film_parts.proofs.items.add_items.Goals as goal

pub items-init : goal.items-init
items-init c = λ is rest all count plain. items_first _ _ is rest _ _ _ _ all c.next-left.ensures.left c.next-left.ensures.word

pub items-preserved : goal.items-preserved
items-preserved c = λ is rest all count plain.
    items_next _ _ is rest _ _ _ _ _ _ _ _ (c.items.invariant is rest all count plain) (split (IsPlain (nat_eq c.args.shape.now.level 0)) c.items.item is (omega (arith, c.items-test.true, count)) plain) c.in_ok-left.ensures

pub returns : goal.returns
returns c = λ is rest all count plain. items_last _ _ is rest _ _ _ _ _ (omega (arith, c.items-test.false, count)) (c.items.invariant is rest all count plain)
