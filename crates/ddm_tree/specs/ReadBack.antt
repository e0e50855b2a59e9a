-- What becomes of a part of the tree when the words of a section are read into the node that it is of.
-- Letters: n is a node, v a leaf, d the directory over the nodes ns, k the number of the next word, ws are the words from it on.
-- To be believed with the contracts: it is what the calls that read give.
use Rattle.std.specs.Prelude.{◌≡◌, ℕ, List, drop, length, slice_set, Result, Ok, Err}
use Rattle.ddm_tree.specs.TreeModel.State.Values.{Node, leaf_node, dir_node, children}
use Rattle.ddm_tree.specs.TreeModel.Turns.Children.{child_at}
use Rattle.ddm_tree.specs.TreeModel.Turns.Tree.{Name, leaf_of_number, bus_of_number}
use Rattle.ddm_tree.specs.StateReading.declared.StateRefusal.{StateRefusal}
use Rattle.ddm_tree.specs.StateReading.Reading.{Read, and_then, given}
use Rattle.ddm_tree.specs.StateReading.Parts.{read_hart, read_leaf, read_dir}
use Rattle.ddm_tree.specs.declared.section.Section.{Section}
use Rattle.ddm_tree.specs.Path.{node_at, put_at}

abbrev pub section_name : Section → Name
section_name (Section.Hart leaf) = leaf_of_number leaf
section_name (Section.Leaf leaf) = leaf_of_number leaf
section_name (Section.Bus bus) = bus_of_number bus

-- what the node becomes; a section is never of a node of the other kind
abbrev pub node_read : Section → Node → ℕ → List ℕ → Result (Read Node) StateRefusal
node_read (Section.Hart leaf) (leaf_node v) k ws = and_then (read_hart v k ws) (λ v k ws. given (leaf_node v) k ws)
node_read (Section.Hart leaf) (dir_node d ns) k ws = given (dir_node d ns) k ws
node_read (Section.Leaf leaf) (leaf_node v) k ws = and_then (read_leaf (length v.ways) v k ws) (λ v k ws. given (leaf_node v) k ws)
node_read (Section.Leaf leaf) (dir_node d ns) k ws = given (dir_node d ns) k ws
node_read (Section.Bus bus) (leaf_node v) k ws = given (leaf_node v) k ws
node_read (Section.Bus bus) (dir_node d ns) k ws =
    and_then (read_dir (length d.items) (length (children ns)) d k ws) (λ d k ws. given (dir_node d ns) k ws)

-- at a path's end stands what was read there
pub record IsPut (section : Section) (path words : List ℕ) (from at : ℕ) (old new : Node) : Type 0 where
  pub node : Node
  pub read : node_read section (node_at path old) from (drop from words) ≡ Ok (record { value = node; at = at; rest = drop at words })
  pub put : new ≡ put_at path node old

-- the section was read, or its words are refused
abbrev pub PartRead : Section → List ℕ → List ℕ → ℕ → Node → Node → Result ℕ StateRefusal → Type 0
PartRead section path words from old new (Ok at) = IsPut section path words from at old new
PartRead section path words from old new (Err e) = node_read section (node_at path old) from (drop from words) ≡ Err e

-- the same of one of several nodes, and of the part below it
abbrev pub ChildRead : Section → ℕ → List ℕ → List ℕ → ℕ → List Node → List Node → Result ℕ StateRefusal → Type 0
ChildRead section c path words from old new (Ok at) =
    (n : Node)
    × (node_read section (node_at path (child_at c old)) from (drop from words)
    ≡ Ok (record { value = n; at = at; rest = drop at words }))
    × (new ≡ slice_set old c (put_at path n (child_at c old)))
ChildRead section c path words from old new (Err e) = node_read section (node_at path (child_at c old)) from (drop from words) ≡ Err e
