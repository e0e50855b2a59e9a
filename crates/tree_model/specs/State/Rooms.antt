-- Each list of a leaf or a directory within its room, and a place for each of n items. No turn breaks it, whatever the state.
-- To be believed with the laws: it is what they speak of.
use Rattle.std.specs.Prelude.{ℕ, ◌+◌, Bool, true, ◌&&◌, nat_eq, nat_le, length}
use Rattle.tree_model.specs.State.Values.{LeafValue, DirValue, Node, Nodes, leaf_node, dir_node, no_nodes, more_nodes}

abbrev pub leaf_within : ℕ → LeafValue → Bool
leaf_within n v = nat_eq (length v.ways) n && (nat_le (length v.buffer) v.sizes.buffer_room && nat_le (length v.replies) v.sizes.reply_room)

-- the parked copies and the places kept for others have room together
abbrev pub dir_within : ℕ → DirValue → Bool
dir_within n d =
    nat_eq (length d.items) n && (nat_le (length d.down) d.sizes.down_room && (nat_le (length d.requests) d.sizes.request_room
    && (nat_le (length d.replies) d.sizes.reply_room && nat_le (length d.parked + d.reserved) d.sizes.parking_room)))

abbrev mutual
  pub all_within : ℕ → Node → Bool
  all_within n (leaf_node v) = leaf_within n v
  all_within n (dir_node d ns) = dir_within n d && all_within_among n ns

  pub all_within_among : ℕ → Nodes → Bool
  all_within_among n no_nodes = true
  all_within_among n (more_nodes m ns) = all_within n m && all_within_among n ns
