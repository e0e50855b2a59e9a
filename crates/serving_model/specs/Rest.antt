-- A machine at rest, where nothing is under way; and a machine with room, whose leaves never have to give up a copy.
-- Letters: m is a machine, v a leaf, d a directory over the nodes ns, n how many items there are.
-- To be believed: it is what a served run begins with, and what the laws speak of.
use Rattle.std.specs.Prelude.{ℕ, ◌*◌, Bool, true, not, ◌&&◌, nat_eq, nat_lt, nat_le, Option, None, Some, is_none}
use Rattle.std.specs.List.{list_all}
use Rattle.serving_model.specs.DdmTypes.ItemTable.{item_count}
use Rattle.serving_model.specs.TreeModel.State.Lists.{has_some}
use Rattle.serving_model.specs.TreeModel.State.States.{may_leave}
use Rattle.serving_model.specs.TreeModel.State.Values.{WayValue, LeafSizes, LeafValue, DirItem, DirSizes, DirValue}
use Rattle.serving_model.specs.TreeModel.State.Values.{Node, Nodes, leaf_node, dir_node, no_nodes, more_nodes}
use Rattle.serving_model.specs.TreeModel.State.Values.{MachineValue, root_of}
use Rattle.serving_model.specs.TreeModel.State.Directory.{note_why}
use Rattle.serving_model.specs.TreeModel.Start.Sources.{TreeValue}
use Rattle.serving_model.specs.TreeModel.State.Shape.{Skeleton, Skeletons, leaf_bone, dir_bone, no_bones, more_bones, skeletons}

-- ---- at rest

-- an entry in S or E: it waits for nothing
abbrev pub way_rests : Option WayValue → Bool
way_rests None = true
way_rests (Some e) = may_leave e.state

-- no entry waits, none is in the buffer, and the leaf asks for nothing and owes nothing
abbrev pub leaf_rests : LeafValue → Bool
leaf_rests v = list_all way_rests v.ways && (not (has_some v.buffer) && (is_none v.slot && not (has_some v.replies)))

-- nothing is under way for an item on the bus below
abbrev pub item_rests : DirItem → Bool
item_rests i = is_none (note_why i.note) && not i.answering

-- nothing comes down, nothing goes up, and no copy is parked or has a place kept for it
abbrev pub dir_rests : DirValue → Bool
dir_rests d =
    list_all item_rests d.items
    && (not (has_some d.down)
    && (not (has_some d.requests)
    && (not (has_some d.replies) && (not (has_some d.parked) && nat_eq d.reserved 0))))

abbrev mutual
  pub tree_rests : Node → Bool
  tree_rests (leaf_node v) = leaf_rests v
  tree_rests (dir_node d ns) = dir_rests d && trees_rest ns

  pub trees_rest : Nodes → Bool
  trees_rest no_nodes = true
  trees_rest (more_nodes n ns) = tree_rests n && trees_rest ns

abbrev pub is_at_rest : MachineValue → Bool
is_at_rest m = tree_rests (root_of m)

-- ---- with room

-- The items of one set are no more than its ways, so a free way is found for each; a reply has a place.
abbrev pub leaf_has_room : ℕ → LeafSizes → Bool
leaf_has_room n sizes = nat_le n (sizes.sets * sizes.way_count) && nat_lt 0 sizes.reply_room

-- a place for what comes down, and for what goes up
abbrev pub dir_has_room : DirSizes → Bool
dir_has_room sizes = nat_lt 0 sizes.down_room && (nat_lt 0 sizes.request_room && nat_lt 0 sizes.reply_room)

abbrev mutual
  pub tree_has_room : ℕ → Skeleton → Bool
  tree_has_room n (leaf_bone number sizes) = leaf_has_room n sizes
  tree_has_room n (dir_bone bus level sizes bones) = dir_has_room sizes && trees_have_room n bones

  pub trees_have_room : ℕ → Skeletons → Bool
  trees_have_room n no_bones = true
  trees_have_room n (more_bones b bs) = tree_has_room n b && trees_have_room n bs

-- the top sends nothing up
abbrev pub has_room : MachineValue → Bool
has_room m = nat_lt 0 m.top.sizes.down_room && trees_have_room (item_count m.items) (skeletons m.kids)

-- A tree whose sizes have room for n items: the items of one set of a leaf are no more than its ways, and each list has a place.
abbrev pub sizes_have_room : TreeValue → ℕ → Bool
sizes_have_room t n =
    nat_le n (t.sizes.sets * t.way_count)
    && (nat_lt 0 t.sizes.down && (nat_lt 0 t.sizes.requests && nat_lt 0 t.sizes.replies))
