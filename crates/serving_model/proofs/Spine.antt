-- A part of the tree that is at rest but for one leaf, which asks for an item or has just got it; and the children of
-- its buses.
-- Letters: n is how many items there are, x the item, h the leaf, m a part, d a directory over the children ns, v a
-- leaf, c the child that is over the leaf.
use Rattle.std.proofs.Common.{◌≡◌, ◌≢◌, ℕ, zero, suc, ◌+◌, ◌<◌, Bool, true, false, List, [], ◌∷◌, length, map, refl, sym, ap, subst, ◌∙◌, arith, get_or-set_same, get_or-set_other}
use Rattle.std.specs.Prelude.{◌||◌, nat_eq, slice_set}
use Rattle.std.specs.List.{list_any}
use Rattle.std.specs.Bool.{beq}
use Rattle.std.proofs.lemmas.Bool.{and_parts}
use Rattle.std.proofs.lemmas.List.{length-set}
use Rattle.serving_model.specs.DdmTypes.declared.sizes.Hold.{Hold}
use Rattle.serving_model.specs.TreeModel.State.Lists.{map_from, find_from}
use Rattle.serving_model.specs.TreeModel.State.States.{is_held}
use Rattle.serving_model.specs.TreeModel.State.Values.{no_note, DirValue, Node, Nodes, leaf_node, dir_node, no_nodes, more_nodes, children}
use Rattle.serving_model.specs.TreeModel.State.Directory.{dir_hold, dir_note, is_answering}
use Rattle.serving_model.specs.TreeModel.State.Child.{child_holds, child_request_taken}
use Rattle.serving_model.specs.TreeModel.State.Blank.{no_node}
use Rattle.serving_model.specs.TreeModel.State.Shape.{Skeleton, Skeletons, leaf_bone, dir_bone, no_bones, more_bones, skeleton, skeletons}
use Rattle.serving_model.specs.TreeModel.Turns.Children.{child_at, only}
use Rattle.serving_model.specs.TreeModel.Turns.Tree.{leaf_of_number, has_node, has_among}
use Rattle.serving_model.specs.TreeRules.Bus.Faces.{parent_face, child_face, faces_of}
use Rattle.serving_model.specs.TreeRules.Bus.Item.{holds_it, bits_of}
use Rattle.serving_model.specs.TreeRules.Bus.Rules.{IsBusOk, IsTreeOk, AreTreesOk}
use Rattle.serving_model.specs.Walk.{is_over, take_turns, takes}
use Rattle.serving_model.proofs.TreeModel.Children.{only-set}
use Rattle.bus_laws.proofs.Answering.{child-hold}
use Rattle.serving_model.proofs.Dirs.{ListsAre}
use Rattle.serving_model.proofs.Settled.{resting, not-parked}

-- ---- numbers of leaves are those of the skeleton

abbrev mutual
  pub bone_over : ℕ → Skeleton → Bool
  bone_over h (leaf_bone number sizes) = nat_eq number h
  bone_over h (dir_bone bus level sizes bones) = bones_over h bones

  pub bones_over : ℕ → Skeletons → Bool
  bones_over h no_bones = false
  bones_over h (more_bones b bs) = bone_over h b || bones_over h bs

mutual
  pub over-is : (h : ℕ) (m : Node) → has_node (leaf_of_number h) m ≡ bone_over h (skeleton m)
  over-is h (leaf_node v) = refl
  over-is h (dir_node d ns) = among-is h ns

  among-is : (h : ℕ) (ns : Nodes) → has_among (leaf_of_number h) ns ≡ bones_over h (skeletons ns)
  among-is h no_nodes = refl
  among-is h (more_nodes m ns) = rw (over-is h m, among-is h ns) refl

-- where the skeletons are the same, so is the child over the leaf
pub same-over : (h i : ℕ) (ns ms : Nodes) → skeletons ns ≡ skeletons ms → find_from (is_over h) i (children ns) ≡ find_from (is_over h) i (children ms)
same-over h i no_nodes no_nodes same = refl
same-over h i no_nodes (more_nodes m ms) same = cc
same-over h i (more_nodes n ns) no_nodes same = cc
same-over h i (more_nodes n ns) (more_nodes m ms) same =
    let first : skeleton n ≡ skeleton m = cc in
    let rest : skeletons ns ≡ skeletons ms = cc in
    let test : has_node (leaf_of_number h) n ≡ has_node (leaf_of_number h) m = over-is h n ∙ ap (bone_over h) first ∙ sym (over-is h m) in
    rw (test, same-over h (i + 1) ns ms rest) refl

pub dir-bones : (d e : DirValue) (ns ms : Nodes) → skeleton (dir_node d ns) ≡ skeleton (dir_node e ms) → skeletons ns ≡ skeletons ms
dir-bones d e ns ms same = ap (λ b. below b (skeletons ns)) same where
  below : Skeleton → Skeletons → Skeletons
  below (leaf_bone number sizes) other = other
  below (dir_bone bus level sizes bones) other = bones

-- ---- children

pub tree-at : (n : ℕ) (ns : Nodes) → AreTreesOk n ns → (k : ℕ) → k < length (children ns) → IsTreeOk n (child_at k (children ns))
tree-at n no_nodes ok k l = absurd (omega (arith, l))
tree-at n (more_nodes m ns) ok zero l = ok.0
tree-at n (more_nodes m ns) ok (suc k) l = tree-at n ns ok.1 k (omega (arith, l))

-- what is no test of any child is none of each
pub any-none : {X : Type 0} (t : X → Bool) (φ : Node → X) (ns : List Node) → list_any t (map φ ns) ≡ false → (k : ℕ) → k < length ns → t (φ (child_at k ns)) ≡ false
any-none t φ [] none k l = absurd (omega (arith, l))
any-none t φ (m ∷ ns) none zero l = by (t (φ m)) (list_any t (map φ ns)) none where
  by : (a b : Bool) → (a || b) ≡ false → a ≡ false
  by true b e = e
  by false b e = refl
any-none t φ (m ∷ ns) none (suc k) l = any-none t φ ns (by (t (φ m)) (list_any t (map φ ns)) none) k (omega (arith, l)) where
  by : (a b : Bool) → (a || b) ≡ false → b ≡ false
  by true b e = cc
  by false b e = e

-- a directory at rest that doesn't hold the item has no child that does
pub children-lack : (n x : ℕ) → x < n → (d : DirValue) (ns : List Node) → IsBusOk n d ns → dir_note x d ≡ no_note → is_answering x d ≡ false → ListsAre [] [] [] d → is_held (dir_hold x d) ≡ false → (k : ℕ) → k < length ns → child_holds x (child_at k ns) ≡ false
children-lack n x within d ns bus note answers lists none k l =
    let both = and_parts (beq (is_held (dir_hold x d)) (bits_of (parent_face x d) (faces_of x ns)).held) _ (resting n x within d ns bus note answers lists) in
    let held : (bits_of (parent_face x d) (faces_of x ns)).held ≡ false = same (is_held (dir_hold x d)) _ none both.0 in
    let parked = not-parked n x within d ns bus note answers lists in
    let nobody : list_any holds_it (faces_of x ns) ≡ false = second _ _ held in
    ap is_held (child-hold x (child_at k ns)) ∙ any-none holds_it (child_face x) ns nobody k l
  where
    same : (a b : Bool) → a ≡ false → beq a b ≡ true → b ≡ false
    same true b none e = cc
    same false true none e = cc
    same false false none e = refl

    second : (a b : Bool) → (a || b) ≡ false → b ≡ false
    second true b e = cc
    second false b e = e

-- child c set, and then changed alone: the others are as before, and so is their number
module _ (ns : List Node) (c : ℕ) (k : Node) (f : Node → Node) where
  pub set_only-many : length (map_from (only c f) 0 (slice_set ns c k)) ≡ length ns
  set_only-many = ap length (only-set c f (slice_set ns c k)) ∙ length-set (slice_set ns c k) c _ ∙ length-set ns c k

  pub set_only-here : c < length ns → child_at c (map_from (only c f) 0 (slice_set ns c k)) ≡ f k
  set_only-here l =
      let there : c < length (slice_set ns c k) = subst (λ n. c < n) (sym (length-set ns c k)) l in
      ap (child_at c) (only-set c f (slice_set ns c k)) ∙ get_or-set_same (slice_set ns c k) c _ no_node there ∙ ap f (get_or-set_same ns c k no_node l)

  pub set_only-other : (j : ℕ) → j ≢ c → child_at j (map_from (only c f) 0 (slice_set ns c k)) ≡ child_at j ns
  set_only-other j ne = ap (child_at j) (only-set c f (slice_set ns c k)) ∙ get_or-set_other (slice_set ns c k) c j _ no_node ne ∙ get_or-set_other ns c j k no_node ne

pub hold-invalid : (h : Hold) → is_held h ≡ false → h ≡ Hold.Invalid
hold-invalid Hold.Invalid e = refl
hold-invalid Hold.Shared e = cc
hold-invalid Hold.Exclusive e = cc

-- ---- the way down to the leaf is that of the skeleton

mutual
  pub turns-same : (h : ℕ) (n m : Node) → skeleton n ≡ skeleton m → take_turns h n ≡ take_turns h m
  turns-same h (leaf_node v) (leaf_node u) same = refl
  turns-same h (leaf_node v) (dir_node d ns) same = cc
  turns-same h (dir_node d ns) (leaf_node v) same = cc
  turns-same h (dir_node d ns) (dir_node e ms) same =
      let below : skeletons ns ≡ skeletons ms = cc in
      let bus : d.bus ≡ e.bus = cc in
      rw (bus, takes-same h ns ms below, same-over h 0 ns ms below) refl

  takes-same : (h : ℕ) (ns ms : Nodes) → skeletons ns ≡ skeletons ms → takes h ns ≡ takes h ms
  takes-same h no_nodes no_nodes same = refl
  takes-same h no_nodes (more_nodes m ms) same = cc
  takes-same h (more_nodes n ns) no_nodes same = cc
  takes-same h (more_nodes n ns) (more_nodes m ms) same =
      let first : skeleton n ≡ skeleton m = cc in
      let rest : skeletons ns ≡ skeletons ms = cc in
      rw (turns-same h n m first, takes-same h ns ms rest) refl

pub taken-turns : (h : ℕ) (m : Node) → take_turns h (child_request_taken m) ≡ take_turns h m
taken-turns h (leaf_node v) = refl
taken-turns h (dir_node d ns) = refl
