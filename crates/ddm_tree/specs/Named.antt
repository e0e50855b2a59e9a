-- A name as the code has it.
use Rattle.ddm_tree.specs.TreeModel.Turns.Tree.{Name, leaf_of_number, bus_of_number}
use Rattle.ddm_tree.specs.declared.named.Named.{Named}

abbrev pub name_of : Named → Name
name_of (Named.Leaf number) = leaf_of_number number
name_of (Named.Bus number) = bus_of_number number
