-- A child that is told something of an item, or gives something of it to its bus: it keeps its own rules, it is seen so, and
-- of every other item it is seen as before.
use Rattle.std.proofs.Common.{◌≡◌, ◌≢◌, ℕ, ◌+◌, ◌<◌, length, refl, sym, ap, subst, ◌∙◌}
use Rattle.bus_laws.specs.TreeModel.State.Values.{DirValue, Node, Nodes, dir_node, children}
use Rattle.bus_laws.specs.TreeModel.State.Leaf.{words_of_item}
use Rattle.tree_rules.specs.Bus.Faces.{ChildFace, ParentFace, parent_face, face_above, child_face, faces_of}
use Rattle.tree_rules.specs.Bus.Item.{ItemRules, kept_place}
use Rattle.tree_rules.specs.Bus.Rules.{IsBusOk, IsChildOk}
use Rattle.bus_laws.proofs.DirParts.{DirParts, dir-ok}
use Rattle.bus_laws.proofs.BusChanged.{IsSameOf, parent-same, dir_face-same, bus-changed}

-- m became k, which is seen so of the item
pub record IsTold (n x : ℕ) (m k : Node) (seen : ChildFace) : Type 0 where
  pub ok : IsChildOk n k
  pub here : child_face x k ≡ seen
  pub others : (y : ℕ) → y ≢ x → child_face y k ≡ child_face y m

-- a directory of which one item is changed; p is its face before, q after
pub dir-told : (n x : ℕ) (d e : DirValue) (ns : Nodes) (q : ParentFace) (seen : ChildFace) → x < n → IsBusOk n d (children ns) → DirParts n (length (children ns)) e → parent_face x e ≡ q → ((y : ℕ) → y ≢ x → IsSameOf y d e) → ItemRules q (faces_of x (children ns)) → e.reserved + kept_place (parent_face x d) ≡ d.reserved + kept_place q → face_above q (length (words_of_item x e.replies)) ≡ seen → IsTold n x (dir_node d ns) (dir_node e ns) seen
dir-told n x d e ns q seen within bus parts face others rules reserved is = record {
  ok = bus-changed n x d e (children ns) (children ns) within bus (dir-ok n (length (children ns)) e parts) (λ y ne. parent-same y d e (others y ne)) (λ y ne. refl) (subst (λ p. ItemRules p (faces_of x (children ns))) (sym face) rules) (subst (λ p. e.reserved + kept_place (parent_face x d) ≡ d.reserved + kept_place p) (sym face) reserved);
  here = ap (λ p. face_above p (length (words_of_item x e.replies))) face ∙ is;
  others = λ y ne. dir_face-same y d e (others y ne);
}
