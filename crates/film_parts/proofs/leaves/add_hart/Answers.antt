use Rattle.std.proofs.Common.{◌∙◌, sym}
use Rattle.film_parts.proofs.LeafWords.{hart_of_leaf, two_told}
use Rattle.film_parts.proofs.leaves.add_hart.Goals as goal

pub returns : goal.returns
returns c = λ v number hart. hart_of_leaf _ _ v _ _ (number ∙ sym c.leaf.view_is) hart (two_told _ _ _ _ _ _ _ c.in_ok-add_pc.ensures c.in_ok-add_halt.ensures c.in_ok-add_registers.ensures)
