-- What two parts of a tree that are alike have in common, and a list of children while one after the other becomes a copy.
use Rattle.std.proofs.Common.{◌≡◌, ◌∙◌, ap, sym, refl, ℕ, zero, suc, ◌+◌, ◌-◌, min, ◌<◌, ◌≤◌, true, nat_eq, Some, subst, List, [], ◌∷◌, ◌++◌, length, map, get_or, set, take, drop, arith, add-one}
use Rattle.std.proofs.lemmas.Bool.{eqb-true}
use Rattle.std.proofs.lemmas.List.{append-nil, drop_all, take_all}
use Rattle.ddm_tree.specs.DdmTypes.declared.operations.Op.{Op}
use Rattle.ddm_tree.specs.DdmTypes.declared.sizes.TreeCounts.{TreeCounts}
use Rattle.ddm_tree.specs.DdmTypes.ItemTable.{item_count}
use Rattle.ddm_tree.specs.TreeModel.declared.Traffic.{Traffic}
use Rattle.ddm_tree.specs.TreeModel.State.Rooms.{all_within, all_within_among, dir_within}
use Rattle.ddm_tree.specs.TreeModel.State.Shape.{Skeleton, buses_of, frame_of, leaf_numbers_of, levels_of, skeleton, skeletons, tree_counts}
use Rattle.ddm_tree.specs.TreeModel.State.Values.{DirValue, LeafValue, MachineValue, Node, leaf_node, dir_node, nodes, root_of}
use Rattle.ddm_tree.specs.TreeModel.Turns.Children.{child_at}
use Rattle.ddm_tree.proofs.TreeModel.Tests.{and-first, and-second}
use Rattle.ddm_tree.specs.Copying.{AreAlike, copied}
use Rattle.ddm_tree.specs.Machine.{IsMachine, MachineState, machine_of}
use Rattle.ddm_tree.specs.Path.{path_to}
use Rattle.ddm_tree.proofs.TurnMade.{items-back}

-- ---- two parts that are alike

leaf-items : (n : ℕ) (v : LeafValue) → all_within n (leaf_node v) ≡ true → length v.ways ≡ n
leaf-items n v within = eqb-true _ _ (and-first (nat_eq (length v.ways) n) _ within)

dir-items : (n : ℕ) (d : DirValue) → dir_within n d ≡ true → length d.items ≡ n
dir-items n d within = eqb-true _ _ (and-first (nat_eq (length d.items) n) _ within)

pub alike-leaf_sizes : (v w : LeafValue) → AreAlike (leaf_node v) (leaf_node w) → v.sizes ≡ w.sizes
alike-leaf_sizes v w alike = let bones = alike.bones in cc

pub alike-leaf_items : (v w : LeafValue) → AreAlike (leaf_node v) (leaf_node w) → length v.ways ≡ length w.ways
alike-leaf_items v w alike = leaf-items alike.items v alike.within ∙ sym (leaf-items alike.items w alike.other_within)

module _ (d e : DirValue) (ns ms : List Node) (alike : AreAlike (dir_node d (nodes ns)) (dir_node e (nodes ms))) where
  pub alike-dir_sizes : d.sizes ≡ e.sizes
  alike-dir_sizes = let bones = alike.bones in cc

  pub alike-dir_items : length d.items ≡ length e.items
  alike-dir_items = dir-items alike.items d (and-first (dir_within alike.items d) _ alike.within) ∙ sym (dir-items alike.items e (and-first (dir_within alike.items e) _ alike.other_within))

  alike-bones : skeletons (nodes ns) ≡ skeletons (nodes ms)
  alike-bones = let bones = alike.bones in cc

  pub alike-count : length ns ≡ length ms
  alike-count = as-many ns ms alike-bones
    where
      as-many : (ns ms : List Node) → skeletons (nodes ns) ≡ skeletons (nodes ms) → length ns ≡ length ms
      as-many [] [] same = refl
      as-many [] (m ∷ ms) same = cc
      as-many (n ∷ ns) [] same = cc
      as-many (n ∷ ns) (m ∷ ms) same = ap suc (as-many ns ms (let bones = same in cc))

  pub alike-child : (i : ℕ) → i < length ms → AreAlike (child_at i ns) (child_at i ms)
  alike-child i inside = each i ns ms alike-bones (and-second (dir_within alike.items d) _ alike.within) (and-second (dir_within alike.items e) _ alike.other_within) inside
    where
      each : (i : ℕ) (ns ms : List Node) → skeletons (nodes ns) ≡ skeletons (nodes ms) → all_within_among alike.items (nodes ns) ≡ true → all_within_among alike.items (nodes ms) ≡ true → i < length ms → AreAlike (child_at i ns) (child_at i ms)
      each i ns [] same here there inside = absurd (omega (arith, inside))
      each i [] (m ∷ ms) same here there inside = cc
      each zero (n ∷ ns) (m ∷ ms) same here there inside = record {
        bones = cc;
        items = alike.items;
        within = and-first (all_within alike.items n) _ here;
        other_within = and-first (all_within alike.items m) _ there;
      }
      each (suc i) (n ∷ ns) (m ∷ ms) same here there inside =
          let rest : skeletons (nodes ns) ≡ skeletons (nodes ms) = cc in
          each i ns ms rest (and-second (all_within alike.items n) _ here) (and-second (all_within alike.items m) _ there) (omega (arith, inside))

-- ---- the first i of a list in place of the first i of another one

module _ {X : Type 0} (d : X) where
  pub copied-here : (i : ℕ) (xs ys : List X) → i < length ys → length xs ≡ length ys → get_or (take i ys ++ drop i xs) i d ≡ get_or xs i d
  copied-here i xs [] inside same = absurd (omega (arith, inside))
  copied-here i [] (y ∷ ys) inside same = absurd (omega (arith, same))
  copied-here zero (x ∷ xs) (y ∷ ys) inside same = refl
  copied-here (suc i) (x ∷ xs) (y ∷ ys) inside same = copied-here i xs ys (omega (arith, inside)) (omega (arith, same))

  next-copied : (i : ℕ) (xs ys : List X) → i < length ys → length xs ≡ length ys → set (take i ys ++ drop i xs) i (get_or ys i d) ≡ take (suc i) ys ++ drop (suc i) xs
  next-copied i xs [] inside same = absurd (omega (arith, inside))
  next-copied i [] (y ∷ ys) inside same = absurd (omega (arith, same))
  next-copied zero (x ∷ xs) (y ∷ ys) inside same = refl
  next-copied (suc i) (x ∷ xs) (y ∷ ys) inside same = ap (λ zs. y ∷ zs) (next-copied i xs ys (omega (arith, inside)) (omega (arith, same)))

  pub copied-next : (i : ℕ) (xs ys : List X) → i < length ys → length xs ≡ length ys → set (take i ys ++ drop i xs) i (get_or ys i d) ≡ take (i + 1) ys ++ drop (i + 1) xs
  copied-next i xs ys inside same = rw add-one (next-copied i xs ys inside same)

pub copied-all : {X : Type 0} (i : ℕ) (xs ys : List X) → length ys ≤ i → length xs ≡ length ys → take i ys ++ drop i xs ≡ ys
copied-all i xs ys past same = ap (λ zs. take i ys ++ zs) (drop_all i xs (omega (arith, past, same))) ∙ append-nil (take i ys) ∙ take_all i ys past

-- ---- two machines

same-machine : (m k : MachineValue) → m.code ≡ k.code → m.items ≡ k.items → m.top ≡ k.top → m.kids ≡ k.kids → m.ops ≡ k.ops → m.traffic ≡ k.traffic → m ≡ k
same-machine m k code items top kids ops traffic = rw (code, items, top, kids, ops, traffic) refl

module _ (m k : MachineValue) (frame : frame_of m ≡ frame_of k) where
  bones-same : skeleton (root_of m) ≡ skeleton (root_of k)
  bones-same = ap (λ f. f.bones) frame

  items-same : m.items ≡ k.items
  items-same = ap (λ f. f.items) frame

  pub traffic-same : length m.traffic ≡ length k.traffic
  traffic-same = ap (λ f. f.counted) frame

  pub roots-alike : all_within (item_count m.items) (root_of m) ≡ true → all_within (item_count k.items) (root_of k) ≡ true → AreAlike (root_of m) (root_of k)
  roots-alike within other_within = record {
    bones = bones-same;
    items = item_count m.items;
    within = within;
    other_within = subst (λ t. all_within (item_count t) (root_of k) ≡ true) (sym items-same) other_within;
  }

  pub counts-same : tree_counts k ≡ tree_counts m
  counts-same = ap counts_of_bones (sym bones-same)
    where
      counts_of_bones : Skeleton → TreeCounts
      counts_of_bones b = record { leaves = length (leaf_numbers_of b []); buses = length (buses_of b []); depth = levels_of b }

  -- with the paths of the one the other is a machine too
  pub copied-is_machine : (width turns other_turns : ℕ) (leaf_paths bus_paths other_leaf_paths other_bus_paths : List (List ℕ)) → IsMachine width m turns leaf_paths bus_paths → IsMachine width k other_turns other_leaf_paths other_bus_paths → IsMachine width k other_turns leaf_paths bus_paths
  copied-is_machine width turns other_turns leaf_paths bus_paths other_leaf_paths other_bus_paths here there = record {
    shaped = there.shaped;
    rules = there.rules;
    rooms = there.rooms;
    words = there.words;
    counts = there.counts;
    granted = there.granted;
    paths = λ name path leads. here.paths name path (subst (λ b. path_to name b ≡ Some path) (sym bones-same) leads);
  }

-- the parts of a machine after they became copies of those of another one with the same frame; the children were lent as a slice
pub copied-machine : {A : Type 0} (f : A → Node) (m k : MachineValue) → frame_of m ≡ frame_of k → (top : DirValue) (old new : List A) (len : ℕ) (ops : List Op) (traffic : List Traffic) → len ≡ length old → length new ≡ length old → top ≡ k.top → nodes (map f new) ≡ k.kids → ops ≡ k.ops → traffic ≡ k.traffic
    → machine_of m.code m.items top (map f (take len (new ++ drop (length new) old))) ops traffic ≡ k
copied-machine f m k frame top old new len ops traffic whole same top_is kids_are ops_are traffic_is =
    rw (items-back old new len whole same) (same-machine (machine_of m.code m.items top (map f new) ops traffic) k (ap (λ f. f.code) frame) (ap (λ f. f.items) frame) top_is kids_are ops_are traffic_is)

pub copied-state : (s from : MachineState) (m : MachineValue) (spare : ℕ) → m ≡ from.machine → spare ≡ min 4294967295 (length s.machine.ops + s.spare - length from.machine.ops) → (let made : MachineState = record { machine = m; spare = spare; turns = from.turns } in made) ≡ copied s from
copied-state s from m spare machine room = rw (machine, room) refl
