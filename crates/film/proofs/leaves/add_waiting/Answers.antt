use Rattle.std.proofs.Common.{[], ap, ◌∙◌}
use Rattle.film.specs.FilmParts.Parts.{leaf_words}
use Rattle.film.specs.StateWords.Machine.{words_or_none}
use Rattle.film_parts.specs.DdmText.Adds.{alone}
use Rattle.film.proofs.DdmTree.LeafList.{leaf-number}
use Rattle.film.proofs.EachLeaf.{read_of_leaf}
use Rattle.film.proofs.leaves.add_waiting.Goals as goal

pub returns : goal.returns
returns g c = λ v most is form.
    let m = c.args.machine.now.machine in
    let spelled = ap words_or_none (read_of_leaf m c.args.leaf v c.requires.shape is leaf_words []) in
    c.in_ok-add_leaf_lists.ensures v most (leaf-number c.args.leaf m v c.requires.shape is) (c.new-left.ensures ∙ c.deref.ensures.value ∙ alone c.in_ok-write_leaf.ensures.ok c.clear.ensures.items ∙ spelled) form
