-- Whether a leaf waits, whether the lists have room, and which turn of a bus would be granted.
-- Letters: m is a machine, v a leaf, d a directory over the children ns, t a turn.
-- To be believed with the laws: it is what they speak of.
use Rattle.std.specs.Prelude.{◌≡◌, ℕ, ◌*◌, ◌≤◌, Bool, true, false, ◌&&◌, ◌||◌, nat_le, List, ◌∷◌, ◌++◌, length, map}
use Rattle.std.specs.Prelude.{find, Option, None, is_some, unwrap_or, if◌then◌else◌}
use Rattle.std.specs.List.{AllByRecursion, list_any, flat_map, range_with_len}
use Rattle.jam_laws.specs.DdmTypes.declared.answers.BusyCause.{BusyCause}
use Rattle.jam_laws.specs.DdmTypes.declared.answers.TurnAnswer.{TurnAnswer}
use Rattle.jam_laws.specs.DdmTypes.declared.sizes.TreeSizes.{TreeSizes}
use Rattle.jam_laws.specs.DdmTypes.declared.turns.Turn.{Turn}
use Rattle.jam_laws.specs.TreeModel.State.Values.{LeafValue, DirValue, Node, MachineValue}
use Rattle.jam_laws.specs.TreeModel.State.Leaf.{waiting_item}
use Rattle.jam_laws.specs.TreeModel.State.Child.{child_replies}
use Rattle.jam_laws.specs.TreeModel.State.Shape.{Skeleton, Skeletons, leaf_bone, dir_bone, no_bones, more_bones, skeletons, tree_counts}
use Rattle.jam_laws.specs.TreeModel.Turns.Machine.{turn_of, child_count, names_part, machine_leaves}
use Rattle.jam_laws.specs.TreeRules.Bus.Rules.{items_of_machine}

-- ---- waiting

-- an entry of it waits for a transaction: it is in R, W or B
abbrev pub leaf_is_waiting : LeafValue → Bool
leaf_is_waiting v = is_some (waiting_item v.ways v.buffer)

abbrev pub some_leaf_waits : MachineValue → Bool
some_leaf_waits m = list_any leaf_is_waiting (machine_leaves m)

-- ---- room

-- each list of a leaf or a directory, and of what is below it, has so many places
abbrev mutual
  pub lists_have : ℕ → Skeleton → Bool
  lists_have places (leaf_bone number sizes) = nat_le places sizes.reply_room
  lists_have places (dir_bone bus level sizes bones) =
      nat_le places sizes.down_room
      && (nat_le places sizes.request_room
      && (nat_le places sizes.reply_room && lists_have_among places bones))

  pub lists_have_among : ℕ → Skeletons → Bool
  lists_have_among places no_bones = true
  lists_have_among places (more_bones b bs) = lists_have places b && lists_have_among places bs

-- each list has at least eight places for each item; the top sends nothing, and has a down list alone
abbrev pub has_large_lists : MachineValue → Bool
has_large_lists m = nat_le (8 * items_of_machine m) m.top.sizes.down_room && lists_have_among (8 * items_of_machine m) (skeletons m.kids)

-- the same of a tree for so many items
abbrev pub sizes_are_large : TreeSizes → ℕ → Bool
sizes_are_large s items = nat_le (8 * items) s.down && (nat_le (8 * items) s.requests && nat_le (8 * items) s.replies)

-- ---- how long lists get

-- of n items: what comes down to the parent of a bus, what it asks for, and the replies of each child
pub record HasShortLists (n : ℕ) (p : DirValue) (ns : List Node) : Type 0 where
  pub down : length p.down ≤ 4 * n
  pub requests : length p.requests ≤ n
  pub replies : AllByRecursion (λ m. length (child_replies m) ≤ n) ns

-- ---- what a turn comes to

abbrev pub is_granted : TurnAnswer → Bool
is_granted (TurnAnswer.Granted e) = true
is_granted _ = false

-- it answers that a list is full
abbrev pub finds_list_full : TurnAnswer → Bool
finds_list_full (TurnAnswer.Busy (BusyCause.QueueFull list)) = true
finds_list_full _ = false

-- one of the two
abbrev pub granted_or_full : TurnAnswer → Bool
granted_or_full a = is_granted a || finds_list_full a

abbrev pub would_grant : MachineValue → Turn → Bool
would_grant m t = is_granted (turn_of t m).answer

-- ---- the first turn that would be granted

-- the turns of a bus that go on with what is under way, in this order: Down, Reply by child, Request by child
abbrev pub turns_of_bus : ℕ → ℕ → List Turn
turns_of_bus bus kids = Turn.Down bus ∷ map (Turn.Reply bus) (range_with_len 0 kids) ++ map (Turn.Request bus) (range_with_len 0 kids)

-- those of each bus of the machine, buses by number
abbrev pub bus_turns : MachineValue → List Turn
bus_turns m = flat_map (λ bus. turns_of_bus bus (unwrap_or (child_count bus m) 0)) (range_with_len 0 (tree_counts m).buses)

abbrev pub first_granted : MachineValue → Option Turn
first_granted m = find (would_grant m) (bus_turns m)

-- the turn that goes on where a leaf waits: the first that would be granted
abbrev pub unjamming_turn : MachineValue → Option Turn
unjamming_turn m = if some_leaf_waits m then first_granted m else None

-- ---- the law

-- it is a Down, Reply or Request turn
abbrev pub is_down_reply_or_request : Turn → Bool
is_down_reply_or_request (Turn.Down bus) = true
is_down_reply_or_request (Turn.Reply bus child) = true
is_down_reply_or_request (Turn.Request bus child) = true
is_down_reply_or_request _ = false

-- a Down, Reply or Request turn of a bus of the machine's tree passes
pub record SomeTurn (m : MachineValue) (passes : TurnAnswer → Bool) : Type 0 where
  pub turn : Turn
  pub kind : is_down_reply_or_request turn ≡ true
  pub names : names_part turn m ≡ true
  pub answer : passes (turn_of turn m).answer ≡ true

-- none of these turns would be granted, and then this one is
pub record IsFirstGranted (m : MachineValue) (t : Turn) : Type 0 where
  pub before : List Turn
  pub behind : List Turn
  pub order : bus_turns m ≡ before ++ t ∷ behind
  pub refused : list_any (would_grant m) before ≡ false
  pub granted : would_grant m t ≡ true
  -- it is a Down, Reply or Request turn of a bus and a child of the machine's tree
  pub kind : is_down_reply_or_request t ≡ true
  pub names : names_part t m ≡ true
