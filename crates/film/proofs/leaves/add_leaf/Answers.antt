use Rattle.film.proofs.EachLeaf.{leaf_told}
use Rattle.film.proofs.leaves.add_leaf.Goals as goal

pub returns : goal.returns
returns g c = λ v most is ways form. leaf_told v _ _ _ _ (c.in_ok-add_leaf_hart.ensures v is) (c.in_ok-add_entries.ensures v is ways) (c.in_ok-add_waiting.ensures v most is form)
