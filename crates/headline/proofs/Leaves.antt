-- The leaves of a machine, with their places and without.
use Rattle.std.proofs.Common.{◌≡◌, ℕ, ◌+◌, List, [], ◌∷◌, ◌++◌, map, refl, sym, ap, subst, ◌∙◌, append_assoc, append-nil}
use Rattle.std.specs.List.{AllByRecursion}
use Rattle.std.proofs.lemmas.List.{map-append}
use Rattle.headline.specs.TreeModel.State.Values.{LeafValue, DirValue, Node, Nodes, leaf_node, dir_node, no_nodes, more_nodes, MachineValue}
use Rattle.headline.specs.TreeModel.State.Place.{Spot, spot_path, spot_in}
use Rattle.headline.specs.TreeModel.Turns.Machine.{leaves_of, leaves_among, machine_leaves}
use Rattle.headline.specs.TreeRules.Order.Places.{LeafAt, leaves_in, placed_leaves, leaves_at}

abbrev pub value_of : LeafAt → LeafValue
value_of a = a.leaf

mutual
  leaves-in : (c : Spot) (n : Node) (rest : List LeafValue) → leaves_of n rest ≡ map value_of (leaves_in c n) ++ rest
  leaves-in c (leaf_node v) rest = refl
  leaves-in c (dir_node d ns) rest = leaves-placed (spot_path c) d 0 ns rest

  leaves-placed : (path : List ℕ) (d : DirValue) (i : ℕ) (ns : Nodes) (rest : List LeafValue) → leaves_among ns rest ≡ map value_of (placed_leaves path d i ns) ++ rest
  leaves-placed path d i no_nodes rest = refl
  leaves-placed path d i (more_nodes n ns) rest =
      leaves-in (spot_in path d i) n (leaves_among ns rest) ∙ ap (λ l. map value_of (leaves_in (spot_in path d i) n) ++ l) (leaves-placed path d (i + 1) ns rest) ∙ sym (append_assoc (map value_of (leaves_in (spot_in path d i) n)) (map value_of (placed_leaves path d (i + 1) ns)) rest)
      ∙ ap (λ l. l ++ rest) (sym (map-append value_of (leaves_in (spot_in path d i) n) (placed_leaves path d (i + 1) ns)))

pub machine_leaves-are : (m : MachineValue) → machine_leaves m ≡ map value_of (leaves_at m)
unfolding leaves_at
machine_leaves-are m = leaves-placed [] m.top 0 m.kids [] ∙ append-nil (map value_of (placed_leaves [] m.top 0 m.kids))

each-mapped : (P : LeafValue → Type 0) (xs : List LeafAt) → AllByRecursion (λ (a : LeafAt). P a.leaf) xs → AllByRecursion P (map value_of xs)
each-mapped P [] h = tt
each-mapped P (x ∷ xs) h = (h.0, each-mapped P xs h.1)

-- a fact of each leaf, from one of each leaf with its place
pub each_leaf : (m : MachineValue) (P : LeafValue → Type 0) → AllByRecursion (λ (a : LeafAt). P a.leaf) (leaves_at m) → AllByRecursion P (machine_leaves m)
each_leaf m P h = subst (AllByRecursion P) (sym (machine_leaves-are m)) (each-mapped P (leaves_at m) h)
