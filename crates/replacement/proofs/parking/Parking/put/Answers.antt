use Rattle.std.proofs.Common.{◌≡◌, ◌∙◌, ap, arith, find, None}
use Rattle.std.proofs.lemmas.Grind.{common_steps}
use Rattle.replacement.specs.TreeModel.State.Leaf.{is_copy}
use Rattle.replacement.specs.TreeModel.State.Leaf.{copy_item}
use Rattle.replacement.proofs.Once.{once-append}
use Rattle.replacement.proofs.parking.Parking.put.Goals as goal

pub invariant_of-self : goal.invariant_of-self
invariant_of-self g c =
    let fresh : find (is_copy c.args.item) c.self.inside.entries.list ≡ None = ap (λ b. find (is_copy c.args.item) b.list) c.self.view_is ∙ c.requires.fresh in
    rw c.put.ensures (record {
      once = once-append copy_item c.self.inside.entries.list _ c.self.invariant.once fresh;
      within = grind (arith, common_steps);
      small = c.self.invariant.small;
      words_fit = c.self.invariant.words_fit;
    })
