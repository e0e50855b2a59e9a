use Rattle.std.proofs.Common.{◌++◌, ◌∷◌, [], ap, ◌∙◌}
use Rattle.film.specs.FilmModel.Leaf.{entry_part}
use Rattle.film.proofs.EachLeaf.{entry_read}
use Rattle.film.proofs.leaves.add_leaf_entry.Goals as goal

pub returns : goal.returns
returns g c = λ v is.
    c.in_ok-add_given.ensures
    ∙ ap (λ o. c.args.still.now ++ entry_part c.args.leaf c.args.item o ∷ []) (entry_read c.args.machine.now.machine c.args.leaf c.args.item v c.requires.shape is c.leaf_entry-entry.result c.leaf_entry-entry.ensures)
