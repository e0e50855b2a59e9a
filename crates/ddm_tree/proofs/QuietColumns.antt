-- What is remembered of a bus has a place for each of its children: a bus of a machine has at most 16 of them.
-- Letters: t is a turn, path the path to the node that it names, n a node, v a leaf, d a directory over the nodes ns, i and c children,
-- k the number of a bus.
use Rattle.std.proofs.Common.{◌≡◌, ◌<◌, ◌≤◌, ℕ, true, List, [], ◌∷◌, length, arith}
use Rattle.std.specs.Prelude.{nat_lt, nat_le, ◌&&◌}
use Rattle.std.proofs.lemmas.Bool.{leb-true}
use Rattle.ddm_tree.specs.DdmTypes.declared.turns.Turn.{Turn}
use Rattle.ddm_tree.specs.TreeModel.State.Shape.{skeleton, skeletons, bone_count, widths_fit, widths_fit_among}
use Rattle.ddm_tree.specs.TreeModel.State.Values.{DirValue, Node, Nodes, leaf_node, dir_node, children}
use Rattle.ddm_tree.specs.TreeModel.Turns.Children.{child_at}
use Rattle.ddm_tree.specs.TreeModel.Turns.Machine.{bus_turn_of, named_by}
use Rattle.ddm_tree.specs.TreeModel.Turns.Tree.{Name, bus_of_number, is_named}
use Rattle.ddm_tree.specs.TreeModel.declared.BusTurn.{BusTurn}
use Rattle.ddm_tree.proofs.TreeModel.Tests.{and-first, and-second}
use Rattle.ddm_tree.specs.Path.{node_at}
use Rattle.ddm_tree.specs.Ready.{HasChild, Leads}
use Rattle.ddm_tree.proofs.Along.{some_if-same}
use Rattle.ddm_tree.proofs.Descend.{LeadsOn, bones-counted, buses-child, leads-child}
use Rattle.ddm_tree.proofs.IdleHarts.{leads-named}
use Rattle.ddm_tree.specs.Quiet.{turn_column}

-- ---- a bus with at most 16 children, and those below it

record IsNarrow (ns : Nodes) : Type 0 where
  few : length (children ns) ≤ 16
  each : widths_fit_among (skeletons ns) ≡ true

narrow : (d : DirValue) (ns : Nodes) → widths_fit (skeleton (dir_node d ns)) ≡ true → IsNarrow ns
narrow d ns fit =
    let some = and-second (nat_lt 0 (bone_count (skeletons ns))) (nat_le (bone_count (skeletons ns)) 16 && widths_fit_among (skeletons ns)) fit in
    let few : bone_count (skeletons ns) ≤ 16 = leb-true _ _ (and-first _ (widths_fit_among (skeletons ns)) some) in
    record {
      few = omega (arith, few, bones-counted ns);
      each = and-second (nat_le (bone_count (skeletons ns)) 16) (widths_fit_among (skeletons ns)) some;
    }

-- ---- down a path

no-steps : (i : ℕ) (rest : List ℕ) → [] ≡ i ∷ rest → ⊥
no-steps i rest e = cc

fits-down : (name : Name) (path : List ℕ) (n : Node) → widths_fit (skeleton n) ≡ true → Leads name path n → widths_fit (skeleton (node_at path n)) ≡ true
fits-down name [] n fit leads = fit
fits-down name (i ∷ rest) (leaf_node v) fit leads = absurd (no-steps i rest (some_if-same _ (i ∷ rest) leads))
fits-down name (i ∷ rest) (dir_node d ns) fit leads =
    let on : LeadsOn name i rest (children ns) = leads-child name d ns i rest leads in
    fits-down name rest (child_at i (children ns)) (buses-child ns i (narrow d ns fit).each on.there) on.leads

-- ---- the child that a turn names

-- a turn of a bus that names a child has it there; a leaf has no bus
abbrev NamesChild : ℕ → BusTurn → Type 0
NamesChild c t = (d : DirValue) (ns : Nodes) → HasChild t (dir_node d ns) → c < length (children ns)

child-few : (k c : ℕ) (t : BusTurn) (n : Node) → NamesChild c t → is_named (bus_of_number k) n ≡ true → widths_fit (skeleton n) ≡ true → HasChild t n → c < 16
child-few k c t (leaf_node v) names named fit has = cc
child-few k c t (dir_node d ns) names named fit has =
    let bus : IsNarrow ns = narrow d ns fit in
    omega (arith, names d ns has, bus.few)

bus-few : (k c : ℕ) (t : BusTurn) (path : List ℕ) (n : Node) → NamesChild c t → widths_fit (skeleton n) ≡ true → Leads (bus_of_number k) path n → HasChild t (node_at path n) → c < 16
bus-few k c t path n names fit leads has = child-few k c t (node_at path n) names (leads-named (bus_of_number k) path n leads) (fits-down (bus_of_number k) path n fit leads) has

pub column-few : (t : Turn) (path : List ℕ) (n : Node) → widths_fit (skeleton n) ≡ true → Leads (named_by t) path n → HasChild (bus_turn_of t) (node_at path n) → turn_column t < 16
column-few (Turn.Hart hart victim) path n fit leads has = omega arith
column-few (Turn.Down bus) path n fit leads has = omega arith
column-few (Turn.Request bus child) path n fit leads has = bus-few bus child (BusTurn.Request child) path n (λ d ns there. there) fit leads has
column-few (Turn.Reply bus child) path n fit leads has = bus-few bus child (BusTurn.Reply child) path n (λ d ns there. there) fit leads has
column-few (Turn.Leave bus child choice) path n fit leads has = bus-few bus child (BusTurn.Leave child choice) path n (λ d ns there. there) fit leads has
