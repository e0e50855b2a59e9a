-- The skeleton of a tree in which a node was changed that keeps its own.
-- Letters: n and m are nodes, v and w leaves, d a directory over the nodes ns, xs and ys lists of nodes, i a child.
use Rattle.std.proofs.Common.{◌≡◌, ℕ, zero, suc, List, [], ◌∷◌, map, refl, ap, ◌∙◌}
use Rattle.std.specs.Prelude.{slice_set}
use Rattle.ddm_tree.specs.TreeModel.Laws.{KeepsParts, kept_of}
use Rattle.ddm_tree.specs.TreeModel.State.Shape.{dir_bone, skeleton, skeletons}
use Rattle.ddm_tree.specs.TreeModel.State.Values.{DirValue, Node, Nodes, leaf_node, dir_node, no_nodes, more_nodes, nodes, children}
use Rattle.ddm_tree.specs.TreeModel.Turns.Children.{child_at}
use Rattle.ddm_tree.specs.TreeModel.Turns.Grant.{Outcome}
use Rattle.ddm_tree.proofs.TreeModel.Children.{nodes-children}
use Rattle.ddm_tree.specs.Path.{node_at, put_at}

set-bones : (ns : Nodes) (i : ℕ) (m : Node) → skeleton m ≡ skeleton (child_at i (children ns)) → skeletons (nodes (slice_set (children ns) i m)) ≡ skeletons ns
set-bones no_nodes i m e = refl
set-bones (more_nodes n ns) zero m e = rw (e, nodes-children ns) refl
set-bones (more_nodes n ns) (suc i) m e = rw (set-bones ns i m e) refl

pub put-bones : (path : List ℕ) (new n : Node) → skeleton new ≡ skeleton (node_at path n) → skeleton (put_at path new n) ≡ skeleton n
put-bones [] new n e = e
put-bones (i ∷ path) new (leaf_node v) e = refl
put-bones (i ∷ path) new (dir_node d ns) e = ap (dir_bone d.bus d.level d.sizes) (set-bones ns i (put_at path new (child_at i (children ns))) (put-bones path new (child_at i (children ns)) e))

-- ---- after a turn of a bus

kept-bone : (n m : Node) → kept_of n ≡ kept_of m → skeleton n ≡ skeleton m
kept-bone (leaf_node v) (leaf_node w) same = cc
kept-bone (leaf_node v) (dir_node d ns) same = cc
kept-bone (dir_node d ns) (leaf_node w) same = cc
kept-bone (dir_node d ns) (dir_node e ms) same = cc

kept-bones : (xs ys : List Node) → map kept_of xs ≡ map kept_of ys → skeletons (nodes xs) ≡ skeletons (nodes ys)
kept-bones [] [] same = refl
kept-bones [] (y ∷ ys) same = cc
kept-bones (x ∷ xs) [] same = cc
kept-bones (x ∷ xs) (y ∷ ys) same =
    let first : kept_of x ≡ kept_of y = cc in
    let rest : map kept_of xs ≡ map kept_of ys = cc in
    rw (kept-bone x y first, kept-bones xs ys rest) refl

pub bus-bones : (d : DirValue) (ns : Nodes) (o : Outcome) → KeepsParts d (children ns) o → skeleton (dir_node o.parent (nodes o.kids)) ≡ skeleton (dir_node d ns)
bus-bones d ns o keeps =
    let below : skeletons (nodes o.kids) ≡ skeletons ns = kept-bones o.kids (children ns) keeps.kids ∙ ap skeletons (nodes-children ns) in
    rw (keeps.bus, keeps.level, keeps.sizes, below) refl
