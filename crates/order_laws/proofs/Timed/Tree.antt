-- A turn of a machine: the rules of time of the directories of each part of the tree that has the changed node, and the leaves
-- of that part pair by pair.
use Rattle.std.proofs.Common.{◌≡◌, ℕ, ◌+◌, ◌≤◌, Bool, true, List, [], ◌∷◌, length, refl, sym, subst, arith}
use Rattle.std.specs.List.{AllByRecursion}
use Rattle.std.proofs.lemmas.List.{length-append}
use Rattle.order_laws.specs.DdmTypes.declared.answers.TurnAnswer.{TurnAnswer}
use Rattle.order_laws.specs.DdmTypes.declared.turns.Turn.{Turn}
use Rattle.order_laws.specs.DdmTypes.declared.keys.Key.{Key}
use Rattle.order_laws.specs.DdmTypes.ItemTable.{ItemTable}
use Rattle.order_laws.specs.DdmTypes.CodeMap.{CodeWord}
use Rattle.order_laws.specs.TreeModel.declared.BusTurn.{BusTurn}
use Rattle.order_laws.specs.TreeModel.State.Values.{LeafValue, DirValue, Node, Nodes, leaf_node, dir_node, more_nodes, nodes, children, MachineValue}
use Rattle.order_laws.specs.TreeModel.State.Directory.{stamp_of}
use Rattle.order_laws.specs.TreeModel.State.Place.{spot_path, spot_in, Where, at_top, at_child, where_path, stamp_above, key_at_leaf}
use Rattle.order_laws.specs.TreeModel.Turns.Grant.{Judged, nothing_there, refused, granted, Outcome, outcome_of}
use Rattle.order_laws.specs.TreeModel.Turns.Bus.{bus_judged, bus_step}
use Rattle.order_laws.specs.TreeModel.Turns.HartTurn.{Deed, has_halted, waits_for, halts, completes, fetches, upgrades, finds_buffer_full, deed_of, leaf_after_deed, leaf_step}
use Rattle.order_laws.specs.TreeModel.Turns.Tree.{ChangedAt}
use Rattle.order_laws.specs.TreeModel.Turns.Machine.{bus_turn_of, victim_of, node_after}
use Rattle.order_laws.specs.TreeModel.Laws.{TurnsHere}
use Rattle.order_laws.proofs.TreeModel.Children.{nodes-children}
use Rattle.order_laws.proofs.TreeModel.Changed.{changed-holds}
use Rattle.order_laws.proofs.TreeModel.HartKeeps.{leaf_step-keeps}
use Rattle.order_laws.proofs.TreeModel.Rows.{row-of}
use Rattle.order_laws.specs.TreeRules.Order.Time.{stamp_ends}
use Rattle.order_laws.specs.TreeRules.Order.Places.{LeafAt, leaves_in, placed_leaves, DirAt, dirs_in, placed_dirs}
use Rattle.order_lists.proofs.Filters.{each-append, each-left, each-right}
use Rattle.order_laws.proofs.Timed.Rows.{BusTurned, row-turned}
use Rattle.order_laws.specs.Pairs.{Pairs}
use Rattle.order_laws.proofs.Pairs.{pairs-append, pairs-itself}
use Rattle.order_laws.proofs.Timed.Leaves.{LeafRisen, LeafRisen-same, hart-risen}
use Rattle.order_laws.proofs.Timed.Bus.{IsDirTimed, BusRises, stamp_of-ends, top-rises, child-timed, child-rises, kids-dirs, kids-leaves}

-- ---- a part of the tree where it stands; the top itself is no directory below a bus

abbrev pub dirs_below : Where → Node → List DirAt
dirs_below at_top (leaf_node v) = []
dirs_below at_top (dir_node d ns) = placed_dirs [] d 0 ns
dirs_below (at_child c) n = dirs_in c n

abbrev pub leaves_below : Where → Node → List LeafAt
leaves_below at_top (leaf_node v) = []
leaves_below at_top (dir_node d ns) = placed_leaves [] d 0 ns
leaves_below (at_child c) n = leaves_in c n

-- the present stamp above has numbers down to its own level alone; the top has taken over none
abbrev pub EndsAt : Where → Node → Type 0
EndsAt at_top (leaf_node v) = Unit {0}
EndsAt at_top (dir_node d ns) = (d.level ≡ 0) × (stamp_ends 0 d.epoch ≡ true)
EndsAt (at_child c) n = stamp_ends (length c.above + 1) c.present ≡ true

done-rises : (v : LeafValue) (d : Deed) → v.done ≤ (leaf_after_deed v d).done
done-rises v (has_halted cause) = omega arith
done-rises v (waits_for x) = omega arith
done-rises v (halts cause) = omega arith
done-rises v (completes c) = omega arith
done-rises v (fetches x state way) = omega arith
done-rises v (upgrades x words) = omega arith
done-rises v finds_buffer_full = omega arith

leaf_step-done : (code : List CodeWord) (items : ItemTable) (now : Key) (victim : ℕ) (v : LeafValue) → v.done ≤ (leaf_step code items now victim v).leaf.done
unfolding leaf_step
leaf_step-done code items now victim v = done-rises v (deed_of code items victim v)

module _ (strict : Bool) where
  abbrev Timed : List DirAt → Type 0
  Timed ds = AllByRecursion (IsDirTimed strict) ds

  pub record KeepsTime (w : Where) (n k : Node) : Type 0 where
    pub dirs : Timed (dirs_below w k)
    pub leaves : Pairs LeafRisen (leaves_below w n) (leaves_below w k)

  record KeepsRun (above : List ℕ) (d : DirValue) (i : ℕ) (ns ms : Nodes) : Type 0 where
    dirs : Timed (placed_dirs above d i ms)
    leaves : Pairs LeafRisen (placed_leaves above d i ns) (placed_leaves above d i ms)

  unchanged : (w : Where) (n : Node) → Timed (dirs_below w n) → KeepsTime w n n
  unchanged w n h = record { dirs = h; leaves = pairs-itself LeafRisen LeafRisen-same (leaves_below w n) }

  -- ---- the changed node

  bus-kept : (w : Where) (d q : DirValue) (ns : Nodes) (ks : List Node) → BusTurned (stamp_above w) d q (children ns) ks → EndsAt w (dir_node d ns) → Timed (dirs_below w (dir_node d ns)) → KeepsTime w (dir_node d ns) (dir_node q (nodes ks))
  bus-kept at_top d q ns ks b ends h =
      let rises : BusRises [] d q = top-rises _ d q ends.0 ends.1 b.parent in
      record { dirs = kids-dirs strict [] d q rises 0 ns ks b.kids h; leaves = kids-leaves strict [] d q rises 0 ns ks b.kids }
  bus-kept (at_child c) d q ns ks b ends h =
      let rises : BusRises (spot_path c) d q = child-rises strict c d q ends b.parent h.0 in
      record { dirs = (child-timed strict c d q ends b.parent h.0, kids-dirs strict (spot_path c) d q rises 0 ns ks b.kids h.1); leaves = kids-leaves strict (spot_path c) d q rises 0 ns ks b.kids }

  abbrev after : Outcome → Node
  after o = dir_node o.parent (nodes o.kids)

  judged-kept : (w : Where) (t : BusTurn) (d : DirValue) (ns : Nodes) → EndsAt w (dir_node d ns) → Timed (dirs_below w (dir_node d ns)) → (j : Judged) → bus_judged (stamp_above w) d (children ns) t ≡ j → KeepsTime w (dir_node d ns) (after (outcome_of d (children ns) j))
  judged-kept w t d ns ends h nothing_there e = subst (λ ms. KeepsTime w (dir_node d ns) (dir_node d ms)) (sym (nodes-children ns)) (unchanged w (dir_node d ns) h)
  judged-kept w t d ns ends h (refused cause) e = subst (λ ms. KeepsTime w (dir_node d ns) (dir_node d ms)) (sym (nodes-children ns)) (unchanged w (dir_node d ns) h)
  judged-kept w t d ns ends h (granted g) e = bus-kept w d g.parent ns g.kids (row-turned (stamp_above w) d (children ns) t g (row-of (stamp_above w) d (children ns) t g e)) ends h

  module _ (t : Turn) (m : MachineValue) where
    here-kept : (w : Where) (n : Node) → EndsAt w n → Timed (dirs_below w n) → KeepsTime w n (node_after m.code m.items t w n)
    unfolding bus_step
    here-kept at_top (leaf_node v) ends h = record { dirs = tt; leaves = tt }
    here-kept (at_child c) (leaf_node v) ends h = record { dirs = tt; leaves = (hart-risen c v _ (leaf_step-keeps m.code m.items (key_at_leaf (at_child c) v.done) (victim_of t) v).number (leaf_step-done m.code m.items (key_at_leaf (at_child c) v.done) (victim_of t) v), tt) }
    here-kept w (dir_node d ns) ends h = judged-kept w (bus_turn_of t) d ns ends h (bus_judged (stamp_above w) d (children ns) (bus_turn_of t)) refl

    -- ---- the parts over it

    abbrev KeepsPart : Where → Node → Node → Type 0
    KeepsPart w n k = EndsAt w n → Timed (dirs_below w n) → KeepsTime w n k

    abbrev KeepsAmong : List ℕ → DirValue → ℕ → Nodes → Nodes → Type 0
    KeepsAmong above d i ns ms = stamp_ends (length above + 1) (stamp_of d) ≡ true → Timed (placed_dirs above d i ns) → KeepsRun above d i ns ms

    below-kept : (w : Where) (d : DirValue) (ns ms : Nodes) → KeepsAmong (where_path w) d 0 ns ms → KeepsPart w (dir_node d ns) (dir_node d ms)
    below-kept at_top d ns ms kept ends h = let r : KeepsRun [] d 0 ns ms = kept (stamp_of-ends [] d ends.0 (omega arith) ends.1) h in record { dirs = r.dirs; leaves = r.leaves }
    below-kept (at_child c) d ns ms kept ends h =
        let r : KeepsRun (spot_path c) d 0 ns ms = kept (stamp_of-ends (spot_path c) d h.0.level h.0.deep (subst (λ l. stamp_ends l d.epoch ≡ true) (sym (length-append c.above (c.number ∷ []))) h.0.times.ends)) h.1 in
        record { dirs = (h.0, r.dirs); leaves = r.leaves }

    first-kept : (above : List ℕ) (d : DirValue) (i : ℕ) (n k : Node) (ns : Nodes) → KeepsPart (at_child (spot_in above d i)) n k → KeepsAmong above d i (more_nodes n ns) (more_nodes k ns)
    first-kept above d i n k ns kept ends h =
        let r : KeepsTime (at_child (spot_in above d i)) n k = kept ends (each-left _ (dirs_in (spot_in above d i) n) _ h) in
        record {
          dirs = each-append _ (dirs_in (spot_in above d i) k) (placed_dirs above d (i + 1) ns) r.dirs (each-right _ (dirs_in (spot_in above d i) n) _ h);
          leaves = pairs-append LeafRisen (leaves_in (spot_in above d i) n) (leaves_in (spot_in above d i) k) _ _ r.leaves (pairs-itself LeafRisen LeafRisen-same (placed_leaves above d (i + 1) ns));
        }

    later-kept : (above : List ℕ) (d : DirValue) (i : ℕ) (n : Node) (ns ms : Nodes) → KeepsAmong above d (i + 1) ns ms → KeepsAmong above d i (more_nodes n ns) (more_nodes n ms)
    later-kept above d i n ns ms kept ends h =
        let r : KeepsRun above d (i + 1) ns ms = kept ends (each-right _ (dirs_in (spot_in above d i) n) _ h) in
        record {
          dirs = each-append _ (dirs_in (spot_in above d i) n) (placed_dirs above d (i + 1) ms) (each-left _ (dirs_in (spot_in above d i) n) _ h) r.dirs;
          leaves = pairs-append LeafRisen (leaves_in (spot_in above d i) n) (leaves_in (spot_in above d i) n) _ _ (pairs-itself LeafRisen LeafRisen-same (leaves_in (spot_in above d i) n)) r.leaves;
        }

    pub part-kept : (a : TurnAnswer) (w : Where) (path : List ℕ) (n k : Node) → ChangedAt (TurnsHere t m a) w path n k → KeepsPart w n k
    part-kept a =
        changed-holds (TurnsHere t m a) (λ w path n k. KeepsPart w n k) (λ above d j i path ns ms. KeepsAmong above d j ns ms) (λ w n k r ends h. subst (λ j. KeepsTime w n j) (sym r.becomes) (here-kept w n ends h)) (λ w d i path ns ms kept. below-kept w d ns ms kept)
        (λ above d i path n k ns kept. first-kept above d i n k ns kept) (λ above d j i path n ns ms kept. later-kept above d j n ns ms kept)
