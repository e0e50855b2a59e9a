-- The form of the values of a leaf and of the directory over a bus.
-- Letters: m is a machine, n is a node, ns are nodes, v a leaf, d a directory, k a number.
use Rattle.std.proofs.Common.{◌≡◌, ℕ, ◌+◌, ◌<◌, true, false, List, [], ◌∷◌, length, Some, option_map, ap, subst, ◌∙◌, inl, inr}
use Rattle.std.specs.Prelude.{if◌then◌else◌}
use Rattle.std.specs.List.{AllByRecursion}
use Rattle.tree_model.specs.State.Place.{Where, at_top, at_child, spot_in, where_path}
use Rattle.tree_model.specs.State.Shape.{IsShaped, tree_counts}
use Rattle.tree_model.specs.State.Values.{DownValue, LeafValue, DirValue, Node, Nodes, leaf_node, dir_node, no_nodes, more_nodes, MachineValue, root_of}
use Rattle.tree_model.specs.Turns.Machine.{ask_bus, leaves_of, leaves_among, machine_leaves}
use Rattle.tree_model.specs.Turns.Tree.{bus_of_number, is_named, has_node, of_dir}
use Rattle.tree_model.proofs.NamedNode.{read_in-is_some}
use Rattle.state_judging.proofs.BusNumbers.{numbered-bus}
use Rattle.value_laws.specs.Values.{DownHasForm, LeafHasForm, PartsHaveForm, PartsHaveFormAmong}
use Rattle.search_laws.specs.Space.{IsOneOf}
use Rattle.explorer.specs.SearchModel.Tried.{buses_of}
use Rattle.explorer.proofs.SearchModel.Named.{Placed, IsBusOf, place_here, find, find_among, found-bus, read-there}
use Rattle.timeless_words.specs.Struck.{IsWide}
use Rattle.machine_states.proofs.Places.{some-there}
use Rattle.machine_states.specs.Words.{HasForms}

module _ (width most : ℕ) where
  abbrev HaveForm : List LeafValue → Type 0
  HaveForm vs = (v : LeafValue) → IsOneOf vs v → LeafHasForm width most v

  mutual
    form-in : (n : Node) (rest : List LeafValue) → PartsHaveForm width most n → HaveForm rest → HaveForm (leaves_of n rest)
    form-in (leaf_node u) rest form others v (inl e) = subst (LeafHasForm width most) e form
    form-in (leaf_node u) rest form others v (inr i) = others v i
    form-in (dir_node d ns) rest form others v i = form-among ns rest form.1 others v i

    form-among : (ns : Nodes) (rest : List LeafValue) → PartsHaveFormAmong width most ns → HaveForm rest → HaveForm (leaves_among ns rest)
    form-among no_nodes rest form others v i = others v i
    form-among (more_nodes n ns) rest form others v i = form-in n (leaves_among ns rest) form.0 (form-among ns rest form.1 others) v i

  module _ (k : ℕ) where
    mutual
      form-found : (w : Where) (n : Node) (p : Placed) → PartsHaveForm width most n → find (bus_of_number k) w n ≡ Some p → PartsHaveForm width most p.node
      form-found w (leaf_node v) p form found = cc
      form-found w (dir_node d ns) p form found = elim (is_named (bus_of_number k) (dir_node d ns)) as (λ b. (if b then Some (place_here w (dir_node d ns)) else find_among (bus_of_number k) (where_path w) d 0 ns) ≡ Some p → PartsHaveForm width most p.node) [
        | true ↦ λ e.
            let same : place_here w (dir_node d ns) ≡ p = cc in
            subst (λ (q : Placed). PartsHaveForm width most q.node) same form
        | false ↦ λ e. form_among-found (where_path w) d 0 ns p form.1 e
      ] found

      form_among-found : (path : List ℕ) (d : DirValue) (i : ℕ) (ns : Nodes) (p : Placed) → PartsHaveFormAmong width most ns → find_among (bus_of_number k) path d i ns ≡ Some p → PartsHaveForm width most p.node
      form_among-found path d i no_nodes p form found = cc
      form_among-found path d i (more_nodes n ns) p form found = elim (has_node (bus_of_number k) n) as (λ b. (if b then find (bus_of_number k) (at_child (spot_in path d i)) n else find_among (bus_of_number k) path d (i + 1) ns) ≡ Some p → PartsHaveForm width most p.node) [
        | true ↦ λ e. form-found (at_child (spot_in path d i)) n p form.0 e
        | false ↦ λ e. form_among-found path d (i + 1) ns p form.1 e
      ] found

pub leaf-form : (m : MachineValue) → (f : HasForms m) → (v : LeafValue) → IsOneOf (machine_leaves m) v → length v.hart.registers ≡ 32
leaf-form m f v i = (form-in m.top.sizes.width f.0 (root_of m) [] f.1.parts (λ v i. elim i [ ]) v i).hart.registers.count

wide : (width most : ℕ) (down : List DownValue) → AllByRecursion (DownHasForm width most) down → AllByRecursion (IsWide width) down
wide width most [] form = tt
wide width most (e ∷ es) form = (form.0.words.count, wide width most es form.1)

module _ (m : MachineValue) (shaped : IsShaped m) (k : ℕ) (less : k < (tree_counts m).buses) where
  found : (p : Placed) × (find (bus_of_number k) at_top (root_of m) ≡ Some p)
  found = some-there (find (bus_of_number k) at_top (root_of m)) (read_in-is_some (bus_of_number k) place_here at_top (root_of m) ∙ numbered-bus m k shaped less)

  abbrev here : IsBusOf k (buses_of (root_of m) []) found.0
  here = found-bus k at_top (root_of m) [] found.0 found.1

  -- the directory over a bus
  pub dir-here : DirValue
  dir-here = here.parent

  pub dir-asked : (f : DirValue → List ℕ) → ask_bus k (λ w d ns. f d) [] m ≡ Some (f dir-here)
  unfolding dir-here
  dir-asked f =
      read-there (bus_of_number k) (of_dir (λ w d ns. f d) []) at_top (root_of m) ∙ ap (option_map _) found.1 ∙ ap (λ n. Some (of_dir (λ w d ns. f d) [] found.0.place n)) here.is

  pub dir-wide : HasForms m → AllByRecursion (IsWide m.top.sizes.width) dir-here.down
  unfolding dir-here
  dir-wide f =
      let form = subst (PartsHaveForm m.top.sizes.width f.0) here.is (form-found m.top.sizes.width f.0 k at_top (root_of m) found.0 f.1.parts found.1) in
      wide m.top.sizes.width f.0 here.parent.down form.0.down
