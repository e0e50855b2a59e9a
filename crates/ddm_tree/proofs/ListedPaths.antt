-- What stands in a list of paths, and what a path leads to.
use Rattle.std.proofs.Common.{◌≡◌, ℕ, zero, suc, ◌<◌, List, [], ◌∷◌, length, map, Some, sym, ap, ◌∙◌, arith}
use Rattle.std.specs.Prelude.{slice_get, slice_index_or}
use Rattle.std.proofs.lemmas.List.{get_or-map}
use Rattle.ddm_tree.specs.TreeModel.State.Values.{DirValue, Node, dir_node, nodes, children}
use Rattle.ddm_tree.specs.TreeModel.State.Blank.{no_node}
use Rattle.ddm_tree.specs.TreeModel.Turns.Children.{child_at}
use Rattle.ddm_tree.proofs.TreeModel.Children.{children-nodes}
use Rattle.ddm_tree.specs.Path.{node_at}

-- what stands in a list of paths
pub listed-there : {X : Type 0} (f : X → List ℕ) (xs : List X) (k : ℕ) (x : X) → k < length xs → x ≡ slice_index_or xs k x → slice_get (map f xs) k ≡ Some (f x)
listed-there f [] k x inside is = absurd (omega (arith, inside))
listed-there f (y ∷ ys) zero x inside is = ap (λ z. Some (f z)) (sym is)
listed-there f (y ∷ ys) (suc k) x inside is = listed-there f ys k x (omega (arith, inside)) is

-- ---- one step down a path

-- to the child at its first number, where the children are seen through f
pub child-there : {A : Type 0} (f : A → Node) (d : DirValue) (xs : List A) (path : List ℕ) (i : ℕ) (rest : List ℕ) (x : A)
    → path ≡ i ∷ rest → i < length xs → x ≡ slice_index_or xs i x → node_at path (dir_node d (nodes (map f xs))) ≡ node_at rest (f x)
child-there f d xs path i rest x on inside is =
    let child : child_at i (children (nodes (map f xs))) ≡ f x = ap (child_at i) (children-nodes (map f xs)) ∙ get_or-map f xs i x no_node inside ∙ ap f (sym is) in
    rw on (ap (node_at rest) child)
