-- One step down a path: the child that it leads to, and what that child and its bus keep of what the machine keeps.
use Rattle.std.proofs.Common.{◌≡◌, ◌<◌, ◌≤◌, ◌^◌, ℕ, ◌+◌, zero, suc, Bool, true, false, List, [], ◌∷◌, length, Option, Some, refl, sym, ap, ◌∙◌, arith}
use Rattle.std.specs.Prelude.{nat_eq, nat_lt, nat_le, ◌&&◌, if◌then◌else◌}
use Rattle.std.proofs.lemmas.Bool.{eqb-true, leb-true, ltb-true}
use Rattle.ddm_tree.specs.TreeModel.State.Values.{DirValue, Node, Nodes, leaf_node, dir_node, no_nodes, more_nodes, children}
use Rattle.ddm_tree.specs.TreeModel.State.Place.{Where}
use Rattle.ddm_tree.specs.TreeModel.State.Rooms.{dir_within, all_within, all_within_among}
use Rattle.ddm_tree.specs.TreeModel.State.Shape.{skeleton, skeletons, widths_fit, widths_fit_among, bone_count}
use Rattle.ddm_tree.specs.TreeModel.Turns.Children.{child_at}
use Rattle.ddm_tree.specs.TreeModel.Turns.Tree.{Name}
use Rattle.ddm_tree.proofs.TreeModel.Tests.{and-first, and-second}
use Rattle.ddm_tree.proofs.TreeModel.DirRooms.{dir_within-facts}
use Rattle.ddm_tree.specs.ItemStates.Parts.{node_items}
use Rattle.ddm_tree.specs.Path.{is_bone, path_to, path_among}
use Rattle.ddm_tree.specs.Counts.{counts_within, counts_among}
use Rattle.ddm_tree.specs.Ready.{words_are, words_are_among, IsReady, Leads}
use Rattle.ddm_tree.proofs.Along.{leads-among}

-- ---- the path

no_steps : List ℕ
no_steps = []

steps-below : (own : Bool) (o : Option (List ℕ)) (i : ℕ) (rest : List ℕ) → (if own then Some [] else o) ≡ Some (i ∷ rest) → o ≡ Some (i ∷ rest)
steps-below true o i rest e = cc
steps-below false o i rest e = e

same-first : (i j : ℕ) (p q : List ℕ) → i ∷ p ≡ j ∷ q → i ≡ j
same-first i j p q e = cc

same-rest : (i j : ℕ) (p q : List ℕ) → i ∷ p ≡ j ∷ q → p ≡ q
same-rest i j p q e = cc

-- the child is there, and the rest of the path leads on from it
pub record LeadsOn (name : Name) (i : ℕ) (rest : List ℕ) (ns : List Node) : Type 0 where
  pub there : i < length ns
  pub leads : Leads name rest (child_at i ns)

pub leads-child : (name : Name) (d : DirValue) (ns : Nodes) (i : ℕ) (rest : List ℕ) → Leads name (i ∷ rest) (dir_node d ns) → LeadsOn name i rest (children ns)
leads-child name d ns i rest e =
    let below : path_among name 0 (skeletons ns) ≡ Some (i ∷ rest) = steps-below (is_bone name (skeleton (dir_node d ns))) _ i rest e in
    let found = leads-among name (λ (w : Where) (n : Node). n) (λ (w : Where) (n : Node). n) [] d 0 ns (i ∷ rest) below in
    let r = found.2 in
    let at : 0 + found.0 ≡ i = same-first _ _ _ _ (sym r.is) in
    let same : found.0 ≡ i = omega (arith, at) in
    let steps : found.1 ≡ rest = same-rest _ _ _ _ (sym r.is) in
    record { there = omega (arith, same, r.there); leads = ap (λ j. path_to name (skeleton (child_at j (children ns)))) (sym same) ∙ r.leads ∙ ap Some steps }

-- ---- what each child keeps

module _ (n : ℕ) where
  pub within-child : (ns : Nodes) (i : ℕ) → all_within_among n ns ≡ true → i < length (children ns) → all_within n (child_at i (children ns)) ≡ true
  within-child no_nodes i e l = absurd (omega arith)
  within-child (more_nodes m ns) zero e l = and-first _ (all_within_among n ns) e
  within-child (more_nodes m ns) (suc i) e l = within-child ns i (and-second (all_within n m) _ e) (omega arith)

  words-child : (ns : Nodes) (i : ℕ) → words_are_among n (skeletons ns) ≡ true → i < length (children ns) → words_are n (skeleton (child_at i (children ns))) ≡ true
  words-child no_nodes i e l = absurd (omega arith)
  words-child (more_nodes m ns) zero e l = and-first _ (words_are_among n (skeletons ns)) e
  words-child (more_nodes m ns) (suc i) e l = words-child ns i (and-second (words_are n (skeleton m)) _ e) (omega arith)

  counts-child : (ns : Nodes) (i : ℕ) → counts_among n ns ≡ true → i < length (children ns) → counts_within n (child_at i (children ns)) ≡ true
  counts-child no_nodes i e l = absurd (omega arith)
  counts-child (more_nodes m ns) zero e l = and-first _ (counts_among n ns) e
  counts-child (more_nodes m ns) (suc i) e l = counts-child ns i (and-second (counts_within n m) _ e) (omega arith)

pub buses-child : (ns : Nodes) (i : ℕ) → widths_fit_among (skeletons ns) ≡ true → i < length (children ns) → widths_fit (skeleton (child_at i (children ns))) ≡ true
buses-child no_nodes i e l = absurd (omega arith)
buses-child (more_nodes m ns) zero e l = and-first _ (widths_fit_among (skeletons ns)) e
buses-child (more_nodes m ns) (suc i) e l = buses-child ns i (and-second (widths_fit (skeleton m)) _ e) (omega arith)

pub bones-counted : (ns : Nodes) → bone_count (skeletons ns) ≡ length (children ns)
bones-counted no_nodes = refl
bones-counted (more_nodes n ns) =
    let rest = bones-counted ns in
    omega (arith, rest)

-- ---- a directory that is ready, its bus and its children

pub record IsReadyBus (items width : ℕ) (d : DirValue) (ns : List Node) : Type 0 where
  pub own : length d.items ≡ items
  pub sized : d.sizes.width ≡ width
  pub count : d.count + 1 < 2 ^ 32
  pub some : 0 < length ns
  pub few : length ns ≤ 16
  pub each : (i : ℕ) → i < length ns → IsReady items width (child_at i ns)

pub ready-bus : (items width : ℕ) (d : DirValue) (ns : Nodes) → IsReady items width (dir_node d ns) → IsReadyBus items width d (children ns)
ready-bus items width d ns r =
    let own = dir_within-facts items d (and-first _ (all_within_among items ns) r.rooms) in
    let kids = and-second (dir_within items d) _ r.rooms in
    let bound : d.count ≤ 4294967294 = leb-true _ _ (and-first _ (counts_among 4294967294 ns) r.counts) in
    let rest = and-second (nat_lt 0 (bone_count (skeletons ns))) _ r.buses in
    let some : 0 < bone_count (skeletons ns) = ltb-true _ _ (and-first _ (nat_le (bone_count (skeletons ns)) 16 && widths_fit_among (skeletons ns)) r.buses) in
    let few : bone_count (skeletons ns) ≤ 16 = leb-true _ _ (and-first _ (widths_fit_among (skeletons ns)) rest) in
    let count = bones-counted ns in
    record {
      own = own.items;
      sized = eqb-true _ _ (and-first _ (words_are_among width (skeletons ns)) r.words);
      count = omega (arith, bound);
      some = omega (arith, some, count);
      few = omega (arith, few, count);
      each = λ i l. record {
        fits = r.fits;
        rooms = within-child items ns i kids l;
        buses = buses-child ns i (and-second (nat_le (bone_count (skeletons ns)) 16) _ rest) l;
        words = words-child width ns i (and-second (nat_eq d.sizes.width width) _ r.words) l;
        counts = counts-child 4294967294 ns i (and-second (nat_le d.count 4294967294) _ r.counts) l;
      };
    }

pub ready-items : (items width : ℕ) (n : Node) → IsReady items width n → node_items n ≡ items
ready-items items width (leaf_node v) r = eqb-true _ _ (and-first _ _ r.rooms)
ready-items items width (dir_node d ns) r = (ready-bus items width d ns r).own
