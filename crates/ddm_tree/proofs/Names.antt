-- What a turn names is at the end of a path.
use Rattle.std.proofs.Common.{◌≡◌, ◌<◌, ℕ, true, List, length, Option, Some, None, refl, sym, ap, ◌∙◌}
use Rattle.std.specs.Prelude.{is_some}
use Rattle.std.proofs.lemmas.Bool.{ltb-true}
use Rattle.ddm_tree.specs.DdmTypes.declared.turns.Turn.{Turn}
use Rattle.ddm_tree.specs.DdmTypes.Keys.{key_zero}
use Rattle.ddm_tree.specs.TreeModel.declared.BusTurn.{BusTurn}
use Rattle.ddm_tree.specs.TreeModel.State.Values.{Node, leaf_node, dir_node, children, MachineValue, root_of}
use Rattle.ddm_tree.specs.TreeModel.State.Place.{Where, at_top, key_at_leaf}
use Rattle.ddm_tree.specs.TreeModel.State.Shape.{skeleton}
use Rattle.ddm_tree.specs.TreeModel.Turns.Machine.{named_by, bus_turn_of, is_child_of, child_count, names_part}
use Rattle.ddm_tree.specs.TreeModel.Turns.Tree.{Name, leaf_of_number, bus_of_number, has_node, of_leaf, of_dir}
use Rattle.ddm_tree.proofs.TreeModel.NamedNode.{read_in-is_some}
use Rattle.split_bus.specs.Outcomes.{NamesOneOf}
use Rattle.ddm_tree.specs.Path.{path_to, node_at}
use Rattle.ddm_tree.specs.Ready.{Leads, HasChild}
use Rattle.ddm_tree.proofs.Along.{path_to-there, along, where_end}

some-of : {X : Type 0} (o : Option X) → is_some o ≡ true → (x : X) × o ≡ Some x
some-of None e = cc
some-of (Some x) e = (x, refl)

-- a node that is there has a path
pub path-there : (name : Name) (n : Node) → has_node name n ≡ true → (path : List ℕ) × Leads name path n
path-there name n there = some-of (path_to name (skeleton n)) (path_to-there name n ∙ there)

-- what is read of a bus is there, so the bus is
pub bus-there : (bus child : ℕ) (m : MachineValue) → is_child_of child (child_count bus m) ≡ true → has_node (bus_of_number bus) (root_of m) ≡ true
bus-there bus child m e = sym (read_in-is_some (bus_of_number bus) (of_dir (λ w d ns. length ns) 0) at_top (root_of m)) ∙ counted-some (child_count bus m) e
  where
    counted-some : (o : Option ℕ) → is_child_of child o ≡ true → is_some o ≡ true
    counted-some None e = cc
    counted-some (Some count) e = refl

-- the path to what a turn names, and there is the child that it names
pub record LeadsTo (t : Turn) (path : List ℕ) (n : Node) : Type 0 where
  pub leads : Leads (named_by t) path n
  pub child : HasChild (bus_turn_of t) (node_at path n)

-- a turn that names no child
down-child : (n : Node) → HasChild BusTurn.Down n
down-child (leaf_node v) = tt
down-child (dir_node d ns) = tt

module _ (m : MachineValue) where
  child-there : (bus child : ℕ) (t : BusTurn) (path : List ℕ) → ((count : ℕ) → child < count → NamesOneOf count t) → is_child_of child (child_count bus m) ≡ true → Leads (bus_of_number bus) path (root_of m) → HasChild t (node_at path (root_of m))
  child-there bus child t path is_child counted leads =
      let there = along (bus_of_number bus) (of_dir (λ w d ns. length ns) 0) (λ w n. n) at_top path (root_of m) leads in
      let found : is_child_of child (Some (of_dir (λ w d ns. length ns) 0 (where_end at_top path (root_of m)) (node_at path (root_of m)))) ≡ true = ap (is_child_of child) (sym there.reads) ∙ counted in
      at-node (node_at path (root_of m)) (where_end at_top path (root_of m)) found
    where
      at-node : (n : Node) (w : Where) → is_child_of child (Some (of_dir (λ w d ns. length ns) 0 w n)) ≡ true → HasChild t n
      at-node (leaf_node v) w e = tt
      at-node (dir_node d ns) w e = is_child (length (children ns)) (ltb-true _ _ e)

  named-leads : (bus child : ℕ) (t : BusTurn) → ((count : ℕ) → child < count → NamesOneOf count t) → is_child_of child (child_count bus m) ≡ true → (path : List ℕ) × Leads (bus_of_number bus) path (root_of m) × HasChild t (node_at path (root_of m))
  named-leads bus child t is_child counted =
      let found = path-there (bus_of_number bus) (root_of m) (bus-there bus child m counted) in
      (found.0, found.1, child-there bus child t found.0 is_child counted found.1)

  pub part-leads : (t : Turn) → names_part t m ≡ true → (path : List ℕ) × LeadsTo t path (root_of m)
  part-leads (Turn.Hart hart victim) e =
      let there = sym (read_in-is_some (leaf_of_number hart) (of_leaf (λ w v. key_at_leaf w v.done) key_zero) at_top (root_of m)) ∙ e in
      let found = path-there (leaf_of_number hart) (root_of m) there in
      (found.0, record { leads = found.1; child = down-child (node_at found.0 (root_of m)) })
  part-leads (Turn.Down bus) e =
      let there = sym (read_in-is_some (bus_of_number bus) (of_dir (λ w d ns. length ns) 0) at_top (root_of m)) ∙ e in
      let found = path-there (bus_of_number bus) (root_of m) there in
      (found.0, record { leads = found.1; child = down-child (node_at found.0 (root_of m)) })
  part-leads (Turn.Request bus child) e =
      let found = named-leads bus child (BusTurn.Request child) (λ count l. l) e in
      (found.0, record { leads = found.1; child = found.2 })
  part-leads (Turn.Reply bus child) e =
      let found = named-leads bus child (BusTurn.Reply child) (λ count l. l) e in
      (found.0, record { leads = found.1; child = found.2 })
  part-leads (Turn.Leave bus child choice) e =
      let found = named-leads bus child (BusTurn.Leave child choice) (λ count l. l) e in
      (found.0, record { leads = found.1; child = found.2 })
