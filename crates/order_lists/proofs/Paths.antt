-- Paths: what stands under what, and that of two children of a bus nothing stands under both.
use Rattle.std.proofs.Common.{◌≡◌, ℕ, ◌+◌, ◌<◌, ◌≤◌, Bool, true, false, cond, nat_eq, List, [], ◌∷◌, ◌++◌, length, refl, sym, ap, ◌∙◌, arith}
use Rattle.std.specs.List.{AllByRecursion}
use Rattle.std.proofs.lemmas.Bool.{and_parts, and_from, eqb-true, eq-eqb, false_from_ne_true}
use Rattle.std.proofs.lemmas.List.{length-append}
use Rattle.order_lists.specs.TreeModel.State.Values.{DirValue, Node, Nodes, leaf_node, dir_node, no_nodes, more_nodes}
use Rattle.order_lists.specs.TreeModel.State.Place.{Spot, spot_path, spot_in}
use Rattle.tree_rules.specs.Order.Moments.{parted, is_under}
use Rattle.tree_rules.specs.Order.Places.{leaf_path, dir_path, leaves_in, placed_leaves, dirs_in, placed_dirs}
use Rattle.order_lists.proofs.Filters.{each-weaker, each-append}

-- ---- is_under

pub under-itself : (p : List ℕ) → is_under p p ≡ true
under-itself [] = refl
under-itself (c ∷ p) = and_from (nat_eq c c) (is_under p p) (eq-eqb c c refl) (under-itself p)

pub under-append : (p q : List ℕ) → is_under p (p ++ q) ≡ true
under-append [] q = refl
under-append (c ∷ p) q = and_from (nat_eq c c) (is_under p (p ++ q)) (eq-eqb c c refl) (under-append p q)

pub under-trans : (p q r : List ℕ) → is_under p q ≡ true → is_under q r ≡ true → is_under p r ≡ true
under-trans [] q r h k = refl
under-trans (c ∷ p) [] r h k = grind arith
under-trans (c ∷ p) (d ∷ q) [] h k = grind arith
under-trans (c ∷ p) (d ∷ q) (e ∷ r) h k =
    let a : (nat_eq c d ≡ true) × (is_under p q ≡ true) = and_parts _ _ h in
    let b : (nat_eq d e ≡ true) × (is_under q r ≡ true) = and_parts _ _ k in
    and_from (nat_eq c e) (is_under p r) (eq-eqb c e (eqb-true c d a.0 ∙ eqb-true d e b.0)) (under-trans p q r a.1 b.1)

-- of two paths over one the shorter is over the longer
pub under-shorter : (p q r : List ℕ) → is_under p r ≡ true → is_under q r ≡ true → length p ≤ length q → is_under p q ≡ true
under-shorter [] q r h k l = refl
under-shorter (c ∷ p) [] r h k l = absurd (omega arith)
under-shorter (c ∷ p) (d ∷ q) [] h k l = grind arith
under-shorter (c ∷ p) (d ∷ q) (e ∷ r) h k l =
    let a : (nat_eq c e ≡ true) × (is_under p r ≡ true) = and_parts _ _ h in
    let b : (nat_eq d e ≡ true) × (is_under q r ≡ true) = and_parts _ _ k in
    and_from (nat_eq c d) (is_under p q) (eq-eqb c d (eqb-true c e a.0 ∙ sym (eqb-true d e b.0))) (under-shorter p q r a.1 b.1 (omega arith))

pub under-length : (p q : List ℕ) → is_under p q ≡ true → length p ≤ length q
under-length [] q h = omega arith
under-length (c ∷ p) [] h = grind arith
under-length (c ∷ p) (d ∷ q) h = let r : length p ≤ length q = under-length p q (and_parts (nat_eq c d) _ h).1 in omega (arith, r)

-- of paths of one length none is over another but itself
pub under-same : (p q : List ℕ) → is_under p q ≡ true → length p ≡ length q → p ≡ q
under-same [] [] h l = refl
under-same [] (d ∷ q) h l = absurd (omega arith)
under-same (c ∷ p) [] h l = absurd (omega arith)
under-same (c ∷ p) (d ∷ q) h l =
    let a : (nat_eq c d ≡ true) × (is_under p q ≡ true) = and_parts _ _ h in
    ap (λ k. k ∷ p) (eqb-true c d a.0) ∙ ap (λ ks. d ∷ ks) (under-same p q a.1 (omega arith))

-- nothing stands under two children of a bus
pub one_child : (path q : List ℕ) (i j : ℕ) → is_under (path ++ i ∷ []) q ≡ true → is_under (path ++ j ∷ []) q ≡ true → i ≡ j
one_child [] [] i j h k = grind arith
one_child [] (e ∷ q) i j h k = eqb-true i e (and_parts (nat_eq i e) _ h).0 ∙ sym (eqb-true j e (and_parts (nat_eq j e) _ k).0)
one_child (c ∷ path) [] i j h k = grind arith
one_child (c ∷ path) (e ∷ q) i j h k = one_child path q i j (and_parts (nat_eq c e) _ h).1 (and_parts (nat_eq c e) _ k).1

pub under_child : (path q : List ℕ) (i : ℕ) → is_under (path ++ i ∷ []) q ≡ true → is_under path q ≡ true
under_child path q i h = under-trans path (path ++ i ∷ []) q (under-append path (i ∷ [])) h

-- what parts from a path no sooner than a place over it
pub under-parted : (p a b : List ℕ) → is_under p a ≡ true → length p ≤ parted a b → is_under p b ≡ true
under-parted [] a b h l = refl
under-parted (c ∷ p) [] b h l = grind arith
under-parted (c ∷ p) (d ∷ a) [] h l = absurd (omega arith)
under-parted (c ∷ p) (d ∷ a) (e ∷ b) h l = go (nat_eq d e) refl l (and_parts _ _ h) (under-parted p a b) where
  go : (t : Bool) → nat_eq d e ≡ t → length (c ∷ p) ≤ cond t (1 + parted a b) 0 → ((nat_eq c d ≡ true) × (is_under p a ≡ true)) → (is_under p a ≡ true → length p ≤ parted a b → is_under p b ≡ true) → is_under (c ∷ p) (e ∷ b) ≡ true
  go true i l h rest = and_from (nat_eq c e) (is_under p b) (eq-eqb c e (eqb-true c d h.0 ∙ eqb-true d e i)) (rest h.1 (omega arith))
  go false i l h rest = absurd (omega arith)

-- ---- of leaves and directories

-- it stands below the bus with this path, under child i of it or a later one
pub record IsFrom (path : List ℕ) (i : ℕ) (p : List ℕ) : Type 0 where
  pub below : is_under path p ≡ true
  pub longer : length path < length p
  pub later : (j : ℕ) → j < i → is_under (path ++ j ∷ []) p ≡ false

pub from_child : (path : List ℕ) (i : ℕ) (p : List ℕ) → is_under (path ++ i ∷ []) p ≡ true → IsFrom path i p
from_child path i p h = record {
  below = under_child path p i h;
  longer = (let e : length (path ++ i ∷ []) ≡ length path + 1 = length-append path (i ∷ []) in omega (arith, e, under-length (path ++ i ∷ []) p h));
  later = λ j l. false_from_ne_true (is_under (path ++ j ∷ []) p) (λ k. (let e : j ≡ i = one_child path p j i k h in omega (arith, e, l)));
}

pub from_later : (path : List ℕ) (i : ℕ) (p : List ℕ) → IsFrom path (i + 1) p → IsFrom path i p
from_later path i p f = record { below = f.below; longer = f.longer; later = λ j l. f.later j (omega arith) }

mutual
  pub leaves_under : (c : Spot) (n : Node) → AllByRecursion (λ a. is_under (spot_path c) (leaf_path a) ≡ true) (leaves_in c n)
  leaves_under c (leaf_node v) = (under-itself (spot_path c), tt)
  leaves_under c (dir_node d ns) = each-weaker _ _ (λ a f. f.below) _ (placed_from (spot_path c) d 0 ns)

  pub placed_from : (path : List ℕ) (d : DirValue) (i : ℕ) (ns : Nodes) → AllByRecursion (λ a. IsFrom path i (leaf_path a)) (placed_leaves path d i ns)
  placed_from path d i no_nodes = tt
  placed_from path d i (more_nodes n ns) =
      each-append _ (leaves_in (spot_in path d i) n) _ (each-weaker _ _ (λ a h. from_child path i (leaf_path a) h) _ (leaves_under (spot_in path d i) n))
      (each-weaker _ _ (λ a f. from_later path i (leaf_path a) f) _ (placed_from path d (i + 1) ns))

mutual
  pub dirs_under : (c : Spot) (n : Node) → AllByRecursion (λ e. is_under (spot_path c) (dir_path e) ≡ true) (dirs_in c n)
  dirs_under c (leaf_node v) = tt
  dirs_under c (dir_node d ns) = (under-itself (spot_path c), each-weaker _ _ (λ e f. f.below) _ (dirs_from (spot_path c) d 0 ns))

  pub dirs_from : (path : List ℕ) (d : DirValue) (i : ℕ) (ns : Nodes) → AllByRecursion (λ e. IsFrom path i (dir_path e)) (placed_dirs path d i ns)
  dirs_from path d i no_nodes = tt
  dirs_from path d i (more_nodes n ns) =
      each-append _ (dirs_in (spot_in path d i) n) _ (each-weaker _ _ (λ e h. from_child path i (dir_path e) h) _ (dirs_under (spot_in path d i) n))
      (each-weaker _ _ (λ e f. from_later path i (dir_path e) f) _ (dirs_from path d (i + 1) ns))
