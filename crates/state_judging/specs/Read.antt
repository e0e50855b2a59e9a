-- What a state has that was read from words, whatever they are, before the rules of its buses and of time are judged; and what the
-- machine has whose places were filled.
-- Letters: m is a machine, n how many items there are, v a leaf, d the directory over a bus.
-- To be believed with the contracts: laws speak of it.
use Rattle.std.specs.Prelude.{◌≡◌, ℕ, Bool, true, ◌&&◌, nat_eq, nat_le, nat_lt, length}
use Rattle.std.specs.List.{list_all}
use Rattle.state_judging.specs.TreeModel.declared.Traffic.{Traffic}
use Rattle.state_judging.specs.TreeModel.State.Values.{DirValue, Node, Nodes, leaf_node, dir_node, no_nodes}
use Rattle.state_judging.specs.TreeModel.State.Values.{more_nodes, children, MachineValue, root_of}
use Rattle.state_judging.specs.TreeModel.State.Shape.{Skeleton, Skeletons, leaf_bone, dir_bone, no_bones, more_bones, skeleton, IsShaped}
use Rattle.state_judging.specs.TreeRules.Statements.{Holds}
use Rattle.state_judging.specs.TreeRules.Bus.Own.{leaf_holds, dir_holds, IsTopOk}
use Rattle.state_judging.specs.TreeRules.Bus.Rules.{items_of_machine}
use Rattle.state_judging.specs.TreeRules.Order.Rules.{ops_of_leaves, keys_end, stamps_end, epochs_end, time_rule}
use Rattle.state_reading.specs.Parts.{most_counted}

-- ---- before the reading

-- each leaf has a set and a way in it
abbrev mutual
  pub ways_exist : Skeleton → Bool
  ways_exist (leaf_bone number sizes) = nat_lt 0 sizes.sets && nat_lt 0 sizes.way_count
  ways_exist (dir_bone bus level sizes bones) = ways_exist_among bones

  pub ways_exist_among : Skeletons → Bool
  ways_exist_among no_bones = true
  ways_exist_among (more_bones b bs) = ways_exist b && ways_exist_among bs

-- the top is over bus 0, and has no place but in its down list
abbrev pub is_top_alone : DirValue → Bool
is_top_alone d = nat_eq d.bus 0 && (nat_eq d.sizes.request_room 0 && (nat_eq d.sizes.reply_room 0 && nat_eq d.sizes.parking_room 0))

-- Words can be read into the machine. It looks at what no turn and no word changes.
pub record CanRead (m : MachineValue) : Type 0 where
  pub shaped : IsShaped m
  pub ways : ways_exist (skeleton (root_of m)) ≡ true
  pub top : is_top_alone m.top ≡ true

-- ---- after it

-- each leaf and each directory keeps what it keeps by itself, and has counted no more than a checkpoint may say
abbrev mutual
  pub parts_hold : ℕ → Node → Bool
  parts_hold n (leaf_node v) = leaf_holds n v && nat_le v.done most_counted
  parts_hold n (dir_node d ns) = (dir_holds n (length (children ns)) d && nat_le d.count most_counted) && parts_hold_among n ns

  pub parts_hold_among : ℕ → Nodes → Bool
  parts_hold_among n no_nodes = true
  parts_hold_among n (more_nodes m ns) = parts_hold n m && parts_hold_among n ns

abbrev pub is_counted : Traffic → Bool
is_counted t =
    nat_le t.reads most_counted && (nat_le t.copies most_counted && (nat_le t.erases most_counted && (nat_le t.exclusives most_counted
    && (nat_le t.outs most_counted && nat_le t.injects most_counted))))

pub record IsRead (m : MachineValue) : Type 0 where
  pub parts : parts_hold (items_of_machine m) (root_of m) ≡ true
  pub top : IsTopOk m.top
  pub traffic : list_all is_counted m.traffic ≡ true
  -- of time: operations are of leaves that there are, and keys, stamps and epochs have no number of a level that isn't there
  pub leaves : Holds (time_rule ops_of_leaves m)
  pub keys : Holds (time_rule keys_end m)
  pub stamps : Holds (time_rule stamps_end m)
  pub epochs : Holds (time_rule epochs_end m)
