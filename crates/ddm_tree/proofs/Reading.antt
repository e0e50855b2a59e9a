-- What a machine's calls read at the end of a path is what the tables read of the node of that name.
use Rattle.std.proofs.Common.{◌≡◌, ◌<◌, ℕ, zero, suc, true, List, [], ◌∷◌, length, map, get_or, Option, Some, None, refl, sym, ap, ◌∙◌, arith, true≢false}
use Rattle.std.specs.Prelude.{nat_eq, slice_get, slice_index_or}
use Rattle.std.proofs.lemmas.Bool.{eqb-true, ltb-true}
use Rattle.ddm_tree.specs.DdmTypes.declared.keys.Stamp.{Stamp}
use Rattle.ddm_tree.specs.DdmTypes.declared.sizes.Hold.{Hold}
use Rattle.ddm_tree.specs.DdmTypes.Keys.{key_on, key_zero, stamp_zero}
use Rattle.ddm_tree.specs.RvHart.HartState.{HartState}
use Rattle.ddm_tree.specs.TreeModel.declared.TreeChild.{TreeChild}
use Rattle.ddm_tree.specs.TreeModel.State.Values.{Node, leaf_node, dir_node, children, MachineValue, root_of}
use Rattle.ddm_tree.specs.TreeModel.State.Child.{child_hold, child_label}
use Rattle.ddm_tree.specs.TreeModel.State.Lengths.{dir_lengths, leaf_lengths, no_dir_lengths, no_leaf_lengths}
use Rattle.ddm_tree.specs.TreeModel.State.Place.{Where, at_top, key_at_leaf, where_path, stamp_above}
use Rattle.ddm_tree.specs.TreeModel.State.Rooms.{dir_within, all_within, all_within_among}
use Rattle.ddm_tree.specs.TreeModel.Turns.Children.{child_at}
use Rattle.ddm_tree.specs.TreeModel.Turns.Machine.{child_count, child_hold_of, child_of, down_entry_of, is_child_of, leaf_lengths_at, lengths_at, now_of}
use Rattle.ddm_tree.specs.TreeModel.Turns.Tree.{Name, leaf_of_number, bus_of_number, is_named, read_in, of_leaf, of_dir}
use Rattle.ddm_tree.proofs.TreeModel.DirRooms.{dir_within-facts}
use Rattle.ddm_tree.proofs.TreeModel.Tests.{and-first, and-second}
use Rattle.ddm_tree.specs.ItemStates.Parts.{node_items}
use Rattle.ddm_tree.specs.Machine.{IsMachine, is_part, listed_path}
use Rattle.ddm_tree.specs.Path.{node_at, present_at}
use Rattle.ddm_tree.specs.Ready.{IsChild, IsItemOf, Leads}
use Rattle.ddm_tree.specs.Reads.{node_hart, node_entry, node_children, node_child, node_child_hold, node_down, node_down_len, node_leaf_lengths, node_leaving_count, node_lengths, node_parked, copy_pair, node_state, counted_hart_of, down_len_of, entry_at, leaving_count, leaving_count_of, parked_at, state_of}
use Rattle.ddm_tree.proofs.Along.{along, where_end, where_end-path, where_end-present, some_if-same}
use Rattle.ddm_tree.proofs.Descend.{leads-child, within-child}
use Rattle.ddm_tree.proofs.Names.{bus-there, path-there}
use Rattle.ddm_tree.proofs.Numbered.{bus-numbered}
use Rattle.ddm_tree.specs.TreeModel.State.Shape.{IsShaped, are_below, buses_of, skeleton, traffic_counted}

-- ---- paths in a list

pub listed-inside : {X : Type 0} (f : X → List ℕ) (xs : List X) (k : ℕ) (path : List ℕ) → slice_get (map f xs) k ≡ Some path → k < length xs
listed-inside f [] k path e = cc
listed-inside f (x ∷ xs) zero path e = omega arith
listed-inside f (x ∷ xs) (suc k) path e =
    let rest = listed-inside f xs k path e in
    omega (arith, rest)

pub listed-at : {X : Type 0} (f : X → List ℕ) (xs : List X) (k : ℕ) (path : List ℕ) (x : X) → slice_get (map f xs) k ≡ Some path → x ≡ get_or xs k x → f x ≡ path
listed-at f [] k path x e is = cc
listed-at f (y ∷ ys) zero path x e is =
    let found : f y ≡ path = cc in
    ap f is ∙ found
listed-at f (y ∷ ys) (suc k) path x e is = listed-at f ys k path x e is

-- ---- a leaf or bus of the machine is at the end of its listed path

pub record Listed (name : Name) (m : MachineValue) (leaf_paths bus_paths : List (List ℕ)) : Type 0 where
  pub path : List ℕ
  pub leads : Leads name path (root_of m)
  pub listed : listed_path name leaf_paths bus_paths ≡ Some path

pub part-listed : (width turns : ℕ) (leaf_paths bus_paths : List (List ℕ)) (m : MachineValue) (name : Name) → IsMachine width m turns leaf_paths bus_paths → is_part name m ≡ true → Listed name m leaf_paths bus_paths
part-listed width turns leaf_paths bus_paths m name is there =
    let found = path-there name (root_of m) there in
    record { path = found.0; leads = found.1; listed = is.paths name found.0 found.1 }

-- ---- what is read there

module _ (m : MachineValue) (name : Name) (path : List ℕ) (leads : Leads name path (root_of m)) where
  pub read-is : {A : Type 0} (read : Where → Node → A) → Some (read (where_end at_top path (root_of m)) (node_at path (root_of m))) ≡ read_in name read at_top (root_of m)
  read-is read = sym (along name read (λ w n. n) at_top path (root_of m) leads).reads

  pub named-there : is_named name (node_at path (root_of m)) ≡ true
  named-there = (along name (λ w n. n) (λ w n. n) at_top path (root_of m) leads).named

module _ (m : MachineValue) (leaf : ℕ) (path : List ℕ) (leads : Leads (leaf_of_number leaf) path (root_of m)) where
  hart-node : (w : Where) (n : Node) → node_hart n ≡ of_leaf (λ w v. record { hart = v.hart; done = v.done }) (node_hart (dir_node m.top m.kids)) w n
  hart-node w (leaf_node v) = refl
  hart-node w (dir_node d ns) = refl

  pub hart-is : (h : HartState) → h ≡ node_hart (node_at path (root_of m)) → Some h ≡ counted_hart_of leaf m
  hart-is h is = ap Some (is ∙ hart-node (where_end at_top path (root_of m)) (node_at path (root_of m))) ∙ read-is m (leaf_of_number leaf) path leads (of_leaf (λ w v. record { hart = v.hart; done = v.done }) (node_hart (dir_node m.top m.kids)))

  now-node : (w : Where) (n : Node) → is_named (leaf_of_number leaf) n ≡ true → key_on (stamp_above w) (where_path w) (node_hart n).done ≡ of_leaf (λ w v. key_at_leaf w v.done) key_zero w n
  now-node w (leaf_node v) e = refl
  now-node w (dir_node d ns) e = absurd (true≢false (sym e))

  pub now-is : (present : Stamp) (h : HartState) → present ≡ present_at path stamp_zero (root_of m) → h ≡ node_hart (node_at path (root_of m)) → Some (key_on present path h.done) ≡ now_of leaf m
  now-is present h present_is hart_is =
      let w = where_end at_top path (root_of m) in
      let at : where_path w ≡ path = where_end-path at_top path (root_of m) in
      let above : stamp_above w ≡ present_at path stamp_zero (root_of m) = where_end-present at_top path (root_of m) in
      let key : key_on present path h.done ≡ key_on (stamp_above w) (where_path w) (node_hart (node_at path (root_of m))).done = rw (at, above, present_is, hart_is) refl in
      ap Some (key ∙ now-node w (node_at path (root_of m)) (named-there m (leaf_of_number leaf) path leads)) ∙ read-is m (leaf_of_number leaf) path leads (of_leaf (λ w v. key_at_leaf w v.done) key_zero)

  pub entry-is : (x : ℕ) → Some (node_entry x (node_at path (root_of m))) ≡ entry_at leaf x m
  entry-is x = ap Some (entry-node (where_end at_top path (root_of m)) (node_at path (root_of m))) ∙ read-is m (leaf_of_number leaf) path leads (of_leaf (λ w v. node_entry x (leaf_node v)) None)
    where
      entry-node : (w : Where) (n : Node) → node_entry x n ≡ of_leaf (λ w v. node_entry x (leaf_node v)) None w n
      entry-node w (leaf_node v) = refl
      entry-node w (dir_node d ns) = refl

  pub state-is : (x : ℕ) → Some (node_state x (node_at path (root_of m))) ≡ state_of leaf x m
  state-is x = ap Some (state-node (where_end at_top path (root_of m)) (node_at path (root_of m))) ∙ read-is m (leaf_of_number leaf) path leads (of_leaf (λ w v. node_state x (leaf_node v)) None)
    where
      state-node : (w : Where) (n : Node) → node_state x n ≡ of_leaf (λ w v. node_state x (leaf_node v)) None w n
      state-node w (leaf_node v) = refl
      state-node w (dir_node d ns) = refl

  pub leaf_lengths-is : Some (node_leaf_lengths (node_at path (root_of m))) ≡ leaf_lengths_at leaf m
  leaf_lengths-is = ap Some (lengths-node (where_end at_top path (root_of m)) (node_at path (root_of m))) ∙ read-is m (leaf_of_number leaf) path leads (of_leaf (λ w v. leaf_lengths v) no_leaf_lengths)
    where
      lengths-node : (w : Where) (n : Node) → node_leaf_lengths n ≡ of_leaf (λ w v. leaf_lengths v) no_leaf_lengths w n
      lengths-node w (leaf_node v) = refl
      lengths-node w (dir_node d ns) = refl

module _ (m : MachineValue) (bus : ℕ) (path : List ℕ) (leads : Leads (bus_of_number bus) path (root_of m)) where
  pub children-is : Some (node_children (node_at path (root_of m))) ≡ child_count bus m
  children-is = ap Some (children-node (where_end at_top path (root_of m)) (node_at path (root_of m))) ∙ read-is m (bus_of_number bus) path leads (of_dir (λ w d ns. length ns) 0)
    where
      children-node : (w : Where) (n : Node) → node_children n ≡ of_dir (λ w d ns. length ns) 0 w n
      children-node w (leaf_node v) = refl
      children-node w (dir_node d ns) = refl

  pub child-bound : (child : ℕ) → is_child_of child (child_count bus m) ≡ true → IsChild child (node_at path (root_of m))
  child-bound child e =
      let counted : is_child_of child (Some (node_children (node_at path (root_of m)))) ≡ true = ap (is_child_of child) children-is ∙ e in
      at-node (node_at path (root_of m)) (ltb-true _ _ counted)
    where
      at-node : (n : Node) → child < node_children n → IsChild child n
      at-node (leaf_node v) below = tt
      at-node (dir_node d ns) below = below

  pub child-is : (child : ℕ) → Some (node_child child (node_at path (root_of m))) ≡ child_of bus child m
  child-is child = ap Some (child-node (where_end at_top path (root_of m)) (node_at path (root_of m))) ∙ read-is m (bus_of_number bus) path leads (of_dir (λ w d ns. child_label (child_at child ns)) (TreeChild.BusChild 0))
    where
      child-node : (w : Where) (n : Node) → node_child child n ≡ of_dir (λ w d ns. child_label (child_at child ns)) (TreeChild.BusChild 0) w n
      child-node w (leaf_node v) = refl
      child-node w (dir_node d ns) = refl

  pub hold-is : (child x : ℕ) → Some (node_child_hold child x (node_at path (root_of m))) ≡ child_hold_of bus child x m
  hold-is child x = ap Some (hold-node (where_end at_top path (root_of m)) (node_at path (root_of m))) ∙ read-is m (bus_of_number bus) path leads (of_dir (λ w d ns. child_hold x (child_at child ns)) Hold.Invalid)
    where
      hold-node : (w : Where) (n : Node) → node_child_hold child x n ≡ of_dir (λ w d ns. child_hold x (child_at child ns)) Hold.Invalid w n
      hold-node w (leaf_node v) = refl
      hold-node w (dir_node d ns) = refl

  pub leaving_count-is : (child : ℕ) → Some (node_leaving_count child (node_at path (root_of m))) ≡ leaving_count_of bus child m
  leaving_count-is child = ap Some (count-node (where_end at_top path (root_of m)) (node_at path (root_of m))) ∙ read-is m (bus_of_number bus) path leads (of_dir (λ w d ns. leaving_count (child_at child ns)) 0)
    where
      count-node : (w : Where) (n : Node) → node_leaving_count child n ≡ of_dir (λ w d ns. leaving_count (child_at child ns)) 0 w n
      count-node w (leaf_node v) = refl
      count-node w (dir_node d ns) = refl

  pub down-is : (place : ℕ) → Some (node_down place (node_at path (root_of m))) ≡ down_entry_of bus place m
  down-is place = ap Some (down-node (where_end at_top path (root_of m)) (node_at path (root_of m))) ∙ read-is m (bus_of_number bus) path leads (of_dir (λ w d ns. slice_get d.down place) None)
    where
      down-node : (w : Where) (n : Node) → node_down place n ≡ of_dir (λ w d ns. slice_get d.down place) None w n
      down-node w (leaf_node v) = refl
      down-node w (dir_node d ns) = refl

  pub down_len-is : Some (node_down_len (node_at path (root_of m))) ≡ down_len_of bus m
  down_len-is = ap Some (len-node (where_end at_top path (root_of m)) (node_at path (root_of m))) ∙ read-is m (bus_of_number bus) path leads (of_dir (λ w d ns. length d.down) 0)
    where
      len-node : (w : Where) (n : Node) → node_down_len n ≡ of_dir (λ w d ns. length d.down) 0 w n
      len-node w (leaf_node v) = refl
      len-node w (dir_node d ns) = refl

  pub lengths-is : Some (node_lengths (node_at path (root_of m))) ≡ lengths_at bus m
  lengths-is = ap Some (lengths-node (where_end at_top path (root_of m)) (node_at path (root_of m))) ∙ read-is m (bus_of_number bus) path leads (of_dir (λ w d ns. dir_lengths d) no_dir_lengths)
    where
      lengths-node : (w : Where) (n : Node) → node_lengths n ≡ of_dir (λ w d ns. dir_lengths d) no_dir_lengths w n
      lengths-node w (leaf_node v) = refl
      lengths-node w (dir_node d ns) = refl

  pub parked-is : (x : ℕ) → Some (node_parked x (node_at path (root_of m))) ≡ parked_at bus x m
  parked-is x = ap Some (parked-node (where_end at_top path (root_of m)) (node_at path (root_of m))) ∙ read-is m (bus_of_number bus) path leads (of_dir (λ w d ns. node_parked x (dir_node d m.kids)) None)
    where
      parked-node : (w : Where) (n : Node) → node_parked x n ≡ of_dir (λ w d ns. node_parked x (dir_node d m.kids)) None w n
      parked-node w (leaf_node v) = refl
      parked-node w (dir_node d ns) = refl

-- no copy without words
pub no-words : (place : Option ℕ) → copy_pair place None ≡ None
no-words None = refl
no-words (Some place) = refl

-- ---- how many items each node keeps something of

abbrev no_steps : List ℕ
no_steps = []

pub within-at : (items : ℕ) (name : Name) (path : List ℕ) (n : Node) → Leads name path n → all_within items n ≡ true → all_within items (node_at path n) ≡ true
within-at items name [] n leads e = e
within-at items name (i ∷ path) (leaf_node v) leads e =
    let same : no_steps ≡ i ∷ path = some_if-same _ (i ∷ path) leads in
    cc
within-at items name (i ∷ path) (dir_node d ns) leads e =
    let next = leads-child name d ns i path leads in
    within-at items name path (child_at i (children ns)) next.leads (within-child items ns i (and-second (dir_within items d) _ e) next.there)

pub items-within : (items : ℕ) (n : Node) → all_within items n ≡ true → node_items n ≡ items
items-within items (leaf_node v) e = eqb-true _ _ (and-first _ _ e)
items-within items (dir_node d ns) e = (dir_within-facts items d (and-first _ (all_within_among items ns) e)).items

pub child_items-within : (items child x : ℕ) (n : Node) → all_within items n ≡ true → IsChild child n → x < items → IsItemOf child x n
child_items-within items child x (leaf_node v) e l known = tt
child_items-within items child x (dir_node d ns) e l known =
    let each = items-within items (child_at child (children ns)) (within-child items ns child (and-second (dir_within items d) _ e) l) in
    omega (arith, each, known)

-- ---- a bus that has a child is there

pub parent-there : (bus child : ℕ) (m : MachineValue) → is_child_of child (child_count bus m) ≡ true → is_part (bus_of_number bus) m ≡ true
parent-there bus child m e = bus-there bus child m e

-- ---- traffic is counted for each bus

pub bus-counted : (m : MachineValue) (bus : ℕ) → IsShaped m → is_part (bus_of_number bus) m ≡ true → bus < length m.traffic
bus-counted m bus shaped there =
    let found = path-there (bus_of_number bus) (root_of m) there in
    let below : are_below (length m.traffic) (buses_of (skeleton (root_of m)) []) ≡ true = and-second (nat_eq (length (buses_of (skeleton (root_of m)) [])) (length m.traffic)) _ (shaped.each traffic_counted) in
    bus-numbered bus (length m.traffic) (skeleton (root_of m)) found.0 below found.1

pub any-default : {X : Type 0} (xs : List X) (i : ℕ) (d e : X) → i < length xs → slice_index_or xs i d ≡ slice_index_or xs i e
any-default [] i d e l = absurd (omega (arith, l))
any-default (x ∷ xs) zero d e l = refl
any-default (x ∷ xs) (suc i) d e l = any-default xs i d e (omega (arith, l))
