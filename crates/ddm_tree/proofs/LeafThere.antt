-- The leaf that is a child of a bus, by the path to it.
-- Letters: k is a leaf's number, n and m nodes, d a directory, xs its children, f what is seen of one, i a child, rest the further path.
use Rattle.std.proofs.Common.{◌≡◌, ◌<◌, ℕ, true, List, [], ◌∷◌, ◌++◌, length, map, sym, ap, subst, ◌∙◌, arith}
use Rattle.std.specs.Prelude.{slice_index_or}
use Rattle.std.proofs.lemmas.Bool.{eqb-true}
use Rattle.std.proofs.lemmas.List.{get_or-map, length-map}
use Rattle.ddm_tree.specs.TreeModel.declared.TreeChild.{TreeChild}
use Rattle.ddm_tree.specs.TreeModel.State.Blank.{no_node}
use Rattle.ddm_tree.specs.TreeModel.State.Child.{child_label}
use Rattle.ddm_tree.specs.TreeModel.State.Values.{DirValue, LeafValue, Node, leaf_node, dir_node, nodes, children}
use Rattle.ddm_tree.specs.TreeModel.Turns.Children.{child_at}
use Rattle.ddm_tree.specs.TreeModel.Turns.Tree.{Name, leaf_of_number, is_named}
use Rattle.ddm_tree.proofs.TreeModel.Children.{children-nodes}
use Rattle.ddm_tree.specs.Ready.{Leads}
use Rattle.ddm_tree.proofs.Along.{some_if-same}
use Rattle.ddm_tree.proofs.Descend.{LeadsOn, leads-child}
use Rattle.ddm_tree.proofs.IdleHarts.{leads-named}

pub label-leaf : (k : ℕ) (m : Node) → Leads (leaf_of_number k) [] m → child_label m ≡ TreeChild.LeafChild k
label-leaf k (leaf_node v) leads = ap TreeChild.LeafChild (eqb-true v.number k (leads-named (leaf_of_number k) [] (leaf_node v) leads))
label-leaf k (dir_node d ns) leads =
    let named : is_named (leaf_of_number k) (dir_node d ns) ≡ true = leads-named (leaf_of_number k) [] (dir_node d ns) leads in
    cc

module _ {A : Type 0} (f : A → Node) (d : DirValue) (xs : List A) (name : Name) (i : ℕ) (rest : List ℕ) (leads : Leads name (i ∷ rest) (dir_node d (nodes (map f xs)))) where
  pub kid-leads : (x : A) → i < length xs → x ≡ slice_index_or xs i x → Leads name rest (f x)
  kid-leads x inside is =
      let on : LeadsOn name i rest (children (nodes (map f xs))) = leads-child name d (nodes (map f xs)) i rest leads in
      let child : child_at i (children (nodes (map f xs))) ≡ f x = ap (child_at i) (children-nodes (map f xs)) ∙ get_or-map f xs i x no_node inside ∙ ap f (sym is) in
      subst (Leads name rest) child on.leads

  pub kid-there : i < length xs
  kid-there =
      let on : LeadsOn name i rest (children (nodes (map f xs))) = leads-child name d (nodes (map f xs)) i rest leads in
      omega (arith, on.there, ap length (children-nodes (map f xs)), length-map xs f)

-- below a leaf no leaf is
no-steps : (path : List ℕ) (i : ℕ) → [] ≡ path ++ i ∷ [] → ⊥
no-steps [] i e = cc
no-steps (j ∷ path) i e = cc

pub leaf-ends : (name : Name) (v : LeafValue) (path : List ℕ) (i : ℕ) → Leads name (path ++ i ∷ []) (leaf_node v) → ⊥
leaf-ends name v path i leads = no-steps path i (some_if-same _ (path ++ i ∷ []) leads)
