-- A turn counts one instruction or one grant at most: no count of a machine rises by more than one.
use Rattle.std.proofs.Common.{◌≡◌, ◌≤◌, ℕ, ◌+◌, Bool, true, false, List, [], ◌∷◌, map, Some, None, refl, sym, ap, subst, ◌∙◌, arith}
use Rattle.std.specs.Prelude.{◌&&◌, nat_le}
use Rattle.ddm_tree.specs.DdmTypes.declared.answers.TurnAnswer.{TurnAnswer}
use Rattle.ddm_tree.specs.DdmTypes.declared.keys.Stamp.{Stamp}
use Rattle.ddm_tree.specs.DdmTypes.declared.keys.Key.{Key}
use Rattle.ddm_tree.specs.DdmTypes.declared.turns.Turn.{Turn}
use Rattle.ddm_tree.specs.DdmTypes.ItemTable.{ItemTable}
use Rattle.ddm_tree.specs.DdmTypes.CodeMap.{CodeWord}
use Rattle.ddm_tree.specs.TreeModel.declared.BusTurn.{BusTurn}
use Rattle.ddm_tree.specs.TreeModel.State.States.{is_exclusive}
use Rattle.ddm_tree.specs.TreeModel.State.Values.{LeafValue, DirValue, Node, Nodes, leaf_node, dir_node, no_nodes, more_nodes, nodes, children, MachineValue, root_of}
use Rattle.ddm_tree.specs.TreeModel.State.Directory.{dir_hold}
use Rattle.ddm_tree.specs.TreeModel.State.Place.{Where, stamp_above, key_at_leaf, at_top}
use Rattle.ddm_tree.specs.TreeModel.Turns.Grant.{Grant, Judged, nothing_there, refused, granted, outcome_of}
use Rattle.ddm_tree.specs.TreeModel.Turns.RequestRead.{joins, read_of_child, read_of_parked, read_of_parent}
use Rattle.ddm_tree.specs.TreeModel.Turns.RequestErase.{erase_noted, erase_of_all}
use Rattle.ddm_tree.specs.TreeModel.Turns.Reply.{reply_to_readers, reply_to_parent}
use Rattle.ddm_tree.specs.TreeModel.Turns.Down.{exclusive_to, erase_of_children, read_by_child, read_by_parked, data_to_readers, inject_to_reader, inject_to_readers, inject_to_child, inject_parked}
use Rattle.ddm_tree.specs.TreeModel.Turns.Leave.{out_gone, leave_parked, leave_to}
use Rattle.ddm_tree.specs.TreeModel.Turns.Bus.{bus_judged, bus_step}
use Rattle.ddm_tree.specs.TreeModel.Turns.HartTurn.{Deed, has_halted, waits_for, halts, completes, fetches, upgrades, finds_buffer_full, deed_of, leaf_after_deed, leaf_step}
use Rattle.ddm_tree.specs.TreeModel.Turns.Machine.{named_by, answer_here, node_after, bus_turn_of, victim_of, turn_answer, turn_root, turn_of}
use Rattle.ddm_tree.specs.TreeModel.Laws.{TurnsHere, Kept, leaf_kept, dir_kept, kept_of}
use Rattle.std.proofs.lemmas.Bool.{leb-true, le-leb}
use Rattle.ddm_tree.proofs.TreeModel.Tests.{and-first, and-second, and-both}
use Rattle.ddm_tree.proofs.TreeModel.Changed.{changed-keeps}
use Rattle.ddm_tree.proofs.TreeModel.Children.{nodes-children}
use Rattle.ddm_tree.proofs.TreeModel.NamedNode.{turned}
use Rattle.ddm_tree.proofs.TreeModel.TurnChanges.{turn-root, turn-unanswered}
use Rattle.ddm_tree.proofs.TreeModel.BusKeeps.{bus_step-keeps}
use Rattle.ddm_tree.proofs.TreeModel.Rows.{Row, row_joins, row_read_of_child, row_read_of_parked, row_read_of_parent, row_erase_of_all, row_reply_to_readers, row_reply_to_parent, row_exclusive_to, row_erase_of_children, row_read_by_child, row_read_by_parked, row_data_to_readers, row_inject_to_reader, row_inject_to_readers, row_inject_to_child, row_inject_parked, row_out_gone, row_out_parked, row_leave_to, row_inject_up, row-of}
use Rattle.ddm_tree.specs.Counts.{counts_within, counts_among}

-- ---- a bus

module _ (above : Stamp) (p : DirValue) (ns : List Node) where
  erase_noted-count : (c x : ℕ) (exclusive : Bool) → (erase_noted above c x p ns exclusive).count ≡ p.count + 1
  erase_noted-count c x true = refl
  erase_noted-count c x false = refl

  row-counts : (t : BusTurn) (g : Grant) → Row above p ns t g → g.parent.count ≡ p.count + 1
  unfolding joins read_of_child read_of_parked read_of_parent erase_of_all reply_to_readers reply_to_parent exclusive_to erase_of_children read_by_child read_by_parked data_to_readers inject_to_reader inject_to_readers inject_to_child inject_parked out_gone leave_parked leave_to
  row-counts t g (row_joins c x _ _) = refl
  row-counts t g (row_read_of_child c x k _ _ _ _ _) = refl
  row-counts t g (row_read_of_parked c x words _ _ _ _ _ _) = refl
  row-counts t g (row_read_of_parent c x _ _ _ _) = refl
  row-counts t g (row_erase_of_all c x _ _ _ _) = erase_noted-count c x (is_exclusive (dir_hold x p))
  row-counts t g (row_reply_to_readers c x words first joined _ _ _) = refl
  row-counts t g (row_reply_to_parent c x words _ _ _ _) = refl
  row-counts t g (row_exclusive_to e rest d _ _ _ _) = refl
  row-counts t g (row_erase_of_children e rest _ _ _ _) = refl
  row-counts t g (row_read_by_child e rest k _ _ _ _ _) = refl
  row-counts t g (row_read_by_parked e rest words _ _ _ _ _ _) = refl
  row-counts t g (row_data_to_readers e rest first joined _ _ _ _) = refl
  row-counts t g (row_inject_to_reader e rest d joined _ _ _ _ _ _) = refl
  row-counts t g (row_inject_to_readers e rest first joined _ _ _ _ _) = refl
  row-counts t g (row_inject_to_child e rest k _ _ _ _ _) = refl
  row-counts t g (row_inject_parked e rest _ _ _ _ _ _ _) = refl
  row-counts t g (row_out_gone c choice x _ _ _ _ _) = refl
  row-counts t g (row_out_parked c choice x _ _ _ _ _ _ _ _) = refl
  row-counts t g (row_leave_to c choice x k _ _ _ _ _) = refl
  row-counts t g (row_inject_up c choice x _ _ _ _ _ _ _ _) = refl

  outcome-counts : (j : Judged) → ((g : Grant) → j ≡ granted g → g.parent.count ≡ p.count + 1) → (outcome_of p ns j).parent.count ≤ p.count + 1
  outcome-counts nothing_there counts = omega arith
  outcome-counts (refused cause) counts = omega arith
  outcome-counts (granted g) counts = omega (arith, counts g refl)

  bus_step-counts : (t : BusTurn) → (bus_step above t p ns).parent.count ≤ p.count + 1
  unfolding bus_step
  bus_step-counts t = outcome-counts (bus_judged above p ns t) (λ g e. row-counts t g (row-of above p ns t g e))

-- ---- a hart

deed-counts : (v : LeafValue) (d : Deed) → (leaf_after_deed v d).done ≤ v.done + 1
deed-counts v (has_halted cause) = omega arith
deed-counts v (waits_for x) = omega arith
deed-counts v (halts cause) = omega arith
deed-counts v (completes c) = omega arith
deed-counts v (fetches x state way) = omega arith
deed-counts v (upgrades x words) = omega arith
deed-counts v finds_buffer_full = omega arith

leaf_step-counts : (code : List CodeWord) (items : ItemTable) (now : Key) (victim : ℕ) (v : LeafValue) → (leaf_step code items now victim v).leaf.done ≤ v.done + 1
unfolding leaf_step
leaf_step-counts code items now victim v = deed-counts v (deed_of code items victim v)

-- ---- what is kept of a child has its counts

abbrev kept_counts : ℕ → Kept → Bool
kept_counts most (leaf_kept number sizes hart done) = nat_le done most
kept_counts most (dir_kept bus level sizes count epoch ns) = nat_le count most && counts_among most ns

abbrev all_kept_counts : ℕ → List Kept → Bool
all_kept_counts most [] = true
all_kept_counts most (k ∷ ks) = kept_counts most k && all_kept_counts most ks

counts-kept : (most : ℕ) (n : Node) → counts_within most n ≡ kept_counts most (kept_of n)
counts-kept most (leaf_node v) = refl
counts-kept most (dir_node d ns) = refl

all_counts-kept : (most : ℕ) (ns : List Node) → counts_among most (nodes ns) ≡ all_kept_counts most (map kept_of ns)
all_counts-kept most [] = refl
all_counts-kept most (n ∷ ns) = rw (counts-kept most n, all_counts-kept most ns) refl

-- ---- a higher bound

module _ (most : ℕ) where
  mutual
    counts-more : (n : Node) → counts_within most n ≡ true → counts_within (most + 1) n ≡ true
    counts-more (leaf_node v) within = le-leb _ _ (omega (arith, leb-true _ _ within))
    counts-more (dir_node d ns) within =
        let own : d.count ≤ most = leb-true _ _ (and-first _ (counts_among most ns) within) in
        and-both _ _ (le-leb _ _ (omega (arith, own))) (counts_among-more ns (and-second (nat_le d.count most) _ within))

    counts_among-more : (ns : Nodes) → counts_among most ns ≡ true → counts_among (most + 1) ns ≡ true
    counts_among-more no_nodes within = refl
    counts_among-more (more_nodes n ns) within = and-both _ _ (counts-more n (and-first _ (counts_among most ns) within)) (counts_among-more ns (and-second (counts_within most n) _ within))

  -- ---- a turn

  node_after-counts : (code : List CodeWord) (items : ItemTable) (t : Turn) (w : Where) (n : Node) → counts_within most n ≡ true → counts_within (most + 1) (node_after code items t w n) ≡ true
  node_after-counts code items t w (leaf_node v) within =
      le-leb _ _ (omega (arith, leb-true _ _ within, leaf_step-counts code items (key_at_leaf w v.done) (victim_of t) v))
  node_after-counts code items t w (dir_node d ns) within =
      let own : d.count ≤ most = leb-true _ _ (and-first _ (counts_among most ns) within) in
      let o = bus_step (stamp_above w) (bus_turn_of t) d (children ns) in
      let same : all_kept_counts (most + 1) (map kept_of o.kids) ≡ all_kept_counts (most + 1) (map kept_of (children ns)) = ap (all_kept_counts (most + 1)) (bus_step-keeps (stamp_above w) d (children ns) (bus_turn_of t)).kids in
      let kids : counts_among (most + 1) (nodes o.kids) ≡ counts_among (most + 1) ns = all_counts-kept (most + 1) o.kids ∙ same ∙ sym (all_counts-kept (most + 1) (children ns)) ∙ ap (counts_among (most + 1)) (nodes-children ns) in
      and-both _ _ (le-leb _ _ (omega (arith, own, bus_step-counts (stamp_above w) d (children ns) (bus_turn_of t)))) (kids ∙ counts_among-more ns (and-second (nat_le d.count most) _ within))

  turn_root-counts : (t : Turn) (m : MachineValue) (a : TurnAnswer) → turn_answer t m ≡ Some a → counts_within most (root_of m) ≡ true → counts_within (most + 1) (turn_root t m) ≡ true
  turn_root-counts t m a some =
      let at = turned (named_by t) (answer_here m.code m.items t) (node_after m.code m.items t) a at_top (root_of m) some in
      changed-keeps (TurnsHere t m a) (λ j k. counts_within most j ≡ true → counts_within (most + 1) k ≡ true) (λ ns ms. counts_among most ns ≡ true → counts_among (most + 1) ms ≡ true)
      (λ w j k r within. rw r.becomes (node_after-counts m.code m.items t w j within))
      (λ d ns ms kept within. and-both _ _ (le-leb _ _ (omega (arith, leb-true _ _ (and-first (nat_le d.count most) (counts_among most ns) within)))) (kept (and-second (nat_le d.count most) _ within)))
      (λ j k ns kept within. and-both _ _ (kept (and-first _ (counts_among most ns) within)) (counts_among-more ns (and-second (counts_within most j) _ within)))
      (λ j ns ms kept within. and-both _ _ (counts-more j (and-first _ (counts_among most ns) within)) (kept (and-second (counts_within most j) _ within))) at_top at.0 (root_of m) (turn_root t m) at.1

  pub turn-counts : (t : Turn) (m : MachineValue) → counts_within most (root_of m) ≡ true → counts_within (most + 1) (root_of (turn_of t m).machine) ≡ true
  turn-counts t m within =
      elim (turn_answer t m) as (λ o. turn_answer t m ≡ o → counts_within (most + 1) (root_of (turn_of t m).machine) ≡ true) [
        | None ↦ λ none. subst (λ o. counts_within (most + 1) (root_of o.machine) ≡ true) (sym (turn-unanswered t m none)) (counts-more (root_of m) within)
        | Some a ↦ λ some. subst (λ k. counts_within (most + 1) k ≡ true) (sym (turn-root t m a some)) (turn_root-counts t m a some within)
      ] refl
