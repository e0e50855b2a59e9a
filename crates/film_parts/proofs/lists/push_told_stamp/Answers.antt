use Rattle.film_parts.proofs.ListEntries.{stamp_put}
use Rattle.std.proofs.Common.{subst}
use Rattle.film_parts.specs.DdmText.Adds.{Adds}
use Rattle.film_model.specs.Part.{stamp_text}
use Rattle.film_parts.proofs.lists.push_told_stamp.Goals as goal

pub returns : goal.returns
returns c = λ stamp rest is.
    stamp_put c.args.words.now _ rest c.take-numbers.result.now c.args.level stamp is c.take-numbers.ensures.words c.take-numbers.ensures.left
    (subst (λ ns. Adds c.args.out.now.items c.push_stamp.new.out.items (stamp_text ns)) c.first_of.ensures c.in_ok-push_stamp.ensures)
