-- A machine taken apart, judged by the rules of time: the path to each leaf and bus is in its lists, and what is read at a path's end
-- is what the rules speak of.
-- Letters: m is a machine, o an operation.
use Rattle.std.proofs.Common.{◌≡◌, ℕ, ◌<◌, ◌≤◌, Bool, true, false, nat_eq, List, [], ◌∷◌, length, map, Some, refl, arith, true≢false}
use Rattle.std.proofs.lemmas.Bool.{eqb-true}
use Rattle.ddm_tree.specs.DdmTypes.declared.operations.Op.{Op}
use Rattle.ddm_tree.specs.TreeModel.State.Values.{MachineValue, root_of}
use Rattle.ddm_tree.specs.TreeModel.State.Shape.{IsShaped, are_below, buses_of, leaves_numbered, skeleton, traffic_counted, tree_counts}
use Rattle.ddm_tree.specs.TreeModel.Turns.Tree.{Name, leaf_of_number, bus_of_number, has_node}
use Rattle.ddm_tree.proofs.TreeModel.Tests.{and-first}
use Rattle.state_judging.specs.Judged.{is_key_of_leaf}
use Rattle.ddm_tree.specs.Machine.{has_path, is_part, listed_path}
use Rattle.ddm_tree.proofs.KeysJudged.{key-without_leaf}
use Rattle.ddm_tree.proofs.LeafList.{leaf-there}
use Rattle.ddm_tree.proofs.Names.{path-there}
use Rattle.ddm_tree.proofs.Numbered.{leaf-numbered}
use Rattle.ddm_tree.proofs.Reading.{listed-inside}

-- ---- paths

pub path-inside : {X : Type 0} (f : X → List ℕ) (xs ys : List X) (name : Name) (path : List ℕ) → listed_path name (map f xs) (map f ys) ≡ Some path → has_path name (length xs) (length ys)
path-inside f xs ys (leaf_of_number k) path e = listed-inside f xs k path e
path-inside f xs ys (bus_of_number k) path e = listed-inside f ys k path e

pub path-on : (path : List ℕ) → nat_eq (length path) 0 ≡ false → 0 < length path
path-on [] e = absurd (true≢false e)
path-on (i ∷ path) e = omega arith

-- ---- an operation whose hart has no leaf

no-leaf : (m : MachineValue) (k : ℕ) → IsShaped m → (tree_counts m).leaves ≤ k → has_node (leaf_of_number k) (root_of m) ≡ false
no-leaf m k shaped past = by (has_node (leaf_of_number k) (root_of m)) refl
  where
    by : (t : Bool) → has_node (leaf_of_number k) (root_of m) ≡ t → t ≡ false
    by true there =
        let found = path-there (leaf_of_number k) (root_of m) there in
        let below = leaf-numbered k (skeleton (root_of m)) found.0 (shaped.each leaves_numbered) found.1 in
        absurd (omega (arith, below, past))
    by false there = refl

pub passes-past : (m : MachineValue) (o : Op) → IsShaped m → (tree_counts m).leaves ≤ o.hart → true ≡ is_key_of_leaf m o
passes-past m o shaped past = key-without_leaf m o shaped (no-leaf m o.hart shaped past)

pub leaf-part : (m : MachineValue) (k leaves : ℕ) → IsShaped m → (tree_counts m).leaves ≡ leaves → k < leaves → is_part (leaf_of_number k) m ≡ true
leaf-part m k leaves shaped size below = leaf-there k m shaped (omega (arith, size, below))

-- ---- buses are as many as traffic is counted for

pub buses-counted : (m : MachineValue) → IsShaped m → (tree_counts m).buses ≡ length m.traffic
buses-counted m shaped =
    let ns = buses_of (skeleton (root_of m)) [] in
    eqb-true _ _ (and-first (nat_eq (length ns) (length m.traffic)) (are_below (length m.traffic) ns) (shaped.each traffic_counted))
