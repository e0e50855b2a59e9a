-- What stands where a list has no element at an index.
-- To be believed: it is what the machine is.
use Rattle.std.specs.Prelude.{[], None}
use Rattle.flat_model.specs.Hart.{HartValue}
use Rattle.tree_model.specs.State.Values.{LeafSizes, LeafValue, Node, leaf_node}

abbrev pub no_hart : HartValue
no_hart = record { registers = []; pc = 0; halt = None }

abbrev pub no_sizes : LeafSizes
no_sizes = record { sets = 1; way_count = 0; buffer_room = 0; reply_room = 0; width = 0 }

abbrev pub no_leaf : LeafValue
no_leaf = record {
  number = 0;
  sizes = no_sizes;
  hart = no_hart;
  done = 0;
  ways = [];
  buffer = [];
  slot = None;
  replies = [];
  reservation = None;
}

abbrev pub no_node : Node
no_node = leaf_node no_leaf
