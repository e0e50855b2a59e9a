-- Small states, made by hand: buses and machines of one item of one word.
use Rattle.std.specs.Prelude.{ℕ, ◌-◌, Bool, true, false, List, [], ◌∷◌, ◌++◌, replicate, slice_set, Option, Some, None}
use Rattle.tree_rules.specs.DdmTypes.declared.sizes.Hold.{Hold}
use Rattle.tree_rules.specs.DdmTypes.declared.sizes.LeafState.{LeafState}
use Rattle.tree_rules.specs.DdmTypes.declared.keys.Stamp.{Stamp}
use Rattle.tree_rules.specs.DdmTypes.declared.operations.Op.{Op}
use Rattle.tree_rules.specs.DdmTypes.Keys.{stamp_zero}
use Rattle.tree_rules.specs.DdmTypes.CodeMap.{words_from}
use Rattle.tree_rules.specs.FlatModel.Hart.{HartValue}
use Rattle.tree_rules.specs.FlatModel.Flat.{FlatMachine}
use Rattle.tree_model.specs.State.Values.{CopyValue, DownValue, WayValue, LeafSizes, LeafValue, Note, no_note}
use Rattle.tree_model.specs.State.Values.{DirSizes, DirValue, Node, leaf_node, nodes, MachineValue}
use Rattle.tree_model.specs.Turns.Machine.{no_traffic}

-- of so many tests all pass but this one
abbrev pub all_but : ℕ → ℕ → List Bool
all_but k count = replicate k true ++ false ∷ replicate (count - k - 1) true

-- ---- nodes

abbrev pub leaf_sizes : LeafSizes
leaf_sizes = record { sets = 1; way_count = 1; buffer_room = 1; reply_room = 1; width = 1 }

abbrev pub dir_sizes : DirSizes
dir_sizes = record { down_room = 1; request_room = 1; reply_room = 1; parking_room = 1; width = 1 }

-- registers 5 and 6 hold the item's address and 7
abbrev pub hart_at : ℕ → HartValue
hart_at pc = record { registers = slice_set (slice_set (replicate 32 0) 5 0x20000) 6 7; pc = pc; halt = None }

abbrev pub entry : LeafState → ℕ → Option WayValue
entry state word = Some (record { way = 0; state = state; words = word ∷ [] })

abbrev pub leaf_value : ℕ → ℕ → ℕ → Option WayValue → List CopyValue → LeafValue
leaf_value number pc done way replies =
    record {
      number = number;
      sizes = leaf_sizes;
      hart = hart_at pc;
      done = done;
      ways = way ∷ [];
      buffer = [];
      slot = None;
      replies = replies;
      reservation = None;
    }

abbrev pub leaf_with : ℕ → Option WayValue → List CopyValue → Node
leaf_with number way replies = leaf_node (leaf_value number 0 0 way replies)

abbrev pub dir_value : ℕ → ℕ → Hold → Note → Bool → List DownValue → Stamp → ℕ → DirValue
dir_value bus level hold note answering down epoch count = record {
  bus = bus;
  level = level;
  sizes = dir_sizes;
  items = record { hold = hold; note = note; answering = answering } ∷ [];
  down = down;
  requests = [];
  replies = [];
  parked = [];
  reserved = 0;
  count = count;
  epoch = epoch;
}

-- over bus 1, with nothing in its lists
abbrev pub dir_with : Hold → Note → Bool → DirValue
dir_with hold note answering = dir_value 1 1 hold note answering [] stamp_zero 0

-- ---- machines: a store of x6 to where x5 points, and a load from there

abbrev pub machine : List Node → List Op → MachineValue
machine kids ops = record {
  code = words_from 0x10000 (0x0062a023 ∷ 0x0002a383 ∷ []);
  items = record { size = 4; rows = record { address = 0x20000; writable = true } ∷ [] };
  top = dir_value 0 0 Hold.Exclusive no_note false [] stamp_zero 9;
  kids = nodes kids;
  ops = ops;
  traffic = replicate 5 no_traffic;
}

-- the harts at these pcs, over a memory whose one word is 5
abbrev pub flat : ℕ → ℕ → FlatMachine
flat pc other = record {
  harts = record { hart = hart_at pc; reserved = None }
      ∷ record { hart = hart_at other; reserved = None } ∷ [];
  words = (5 ∷ []) ∷ [];
}
