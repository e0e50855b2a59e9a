-- Whether harts have halted, before and after a turn: but for an answer that says so, all of it stays.
-- Letters: t is a turn, m a machine, n and k nodes, w where a node stands, v a leaf, d a directory over the children ns.
use Rattle.std.proofs.Common.{◌≡◌, ◌∙◌, ℕ, Bool, true, false, ◌&&◌, List, [], ◌∷◌, map, Option, Some, None, Result, Ok, Err, refl, sym, ap}
use Rattle.std.specs.Prelude.{is_some}
use Rattle.std.specs.List.{list_all}
use Rattle.ddm_types.specs.declared.answers.TurnAnswer.{TurnAnswer}
use Rattle.ddm_types.specs.declared.keys.Key.{Key}
use Rattle.ddm_types.specs.declared.operations.HaltCause.{HaltCause}
use Rattle.ddm_types.specs.declared.sizes.LeafState.{LeafState}
use Rattle.ddm_types.specs.declared.turns.Turn.{Turn}
use Rattle.ddm_types.specs.CodeMap.{CodeWord}
use Rattle.ddm_types.specs.ItemTable.{ItemTable}
use Rattle.flat_model.specs.Flat.{Change}
use Rattle.flat_model.specs.Hart.{ask_of}
use Rattle.flat_model.proofs.Completing.{change_completes}
use Rattle.tree_model.specs.Laws.{Kept, TurnsHere, dir_kept, kept_of, leaf_kept}
use Rattle.tree_model.specs.State.Leaf.{buffer_full, free_way, waiting_item}
use Rattle.tree_model.specs.State.Place.{Where, at_top, key_at_leaf, stamp_above}
use Rattle.tree_model.specs.State.Values.{DirValue, LeafValue, MachineValue, Node, Nodes, children, dir_node, leaf_node, more_nodes, no_nodes, nodes, root_of}
use Rattle.tree_model.specs.Turns.Bus.{bus_step}
use Rattle.tree_model.specs.Turns.HartTurn.{Deed, Need, a_copy, answer_of_deed, change_here, deed_by_need, deed_of, deed_of_change, deed_to_fetch, deed_unless_halted, deed_unless_waiting, leaf_after_deed, leaf_step, need_of, no_need, no_other_copy, replaces, time, words_here}
use Rattle.tree_model.specs.Turns.Machine.{answer_here, bus_turn_of, leaves_among, leaves_of, machine_leaves, named_by, node_after, turn_answer, turn_of, turn_root, victim_of}
use Rattle.tree_model.proofs.BusKeeps.{bus_step-keeps}
use Rattle.tree_model.proofs.Changed.{changed-keeps}
use Rattle.tree_model.proofs.Children.{nodes-children}
use Rattle.tree_model.proofs.NamedNode.{turned}
use Rattle.tree_model.proofs.TurnChanges.{turn-answered, turn-root, turn-unanswered}
use Rattle.outcome_model.specs.Halted.{all_halted, has_halted}
use Rattle.recording.specs.Runs.{flags_of}

abbrev pub all_set : List Bool → Bool
all_set flags = list_all (λ (b : Bool). b) flags

all-set : (vs : List LeafValue) → list_all has_halted vs ≡ all_set (map has_halted vs)
all-set [] = refl
all-set (v ∷ vs) = ap (λ b. has_halted v && b) (all-set vs)

pub all-flags : (m : MachineValue) → all_halted m ≡ all_set (flags_of m)
unfolding all_halted
all-flags m = all-set (machine_leaves m)

-- ---- a leaf's turn

-- the answer doesn't say that the hart has halted
abbrev pub SaysNoHalt : TurnAnswer → Type 0
SaysNoHalt a = (cause : HaltCause) → a ≡ TurnAnswer.Halted cause → ⊥

module _ (code : List CodeWord) (items : ItemTable) (victim : ℕ) (now : Key) (v : LeafValue) where
  abbrev KeepsFlag : Deed → Type 0
  KeepsFlag d = SaysNoHalt (answer_of_deed now v d) → has_halted (leaf_after_deed v d) ≡ has_halted v

  change-keeps : (r : Result Change HaltCause) → change_here code items v ≡ r → KeepsFlag (deed_of_change r)
  unfolding change_here
  change-keeps (Ok c) is none = ap is_some (change_completes code items (record { hart = v.hart; reserved = v.reservation }) (words_here v) true (ask_of code items v.hart) c refl is).halt
  change-keeps (Err cause) is none = absurd (none cause refl)

  full-keeps : (x : ℕ) (state : LeafState) (way : ℕ) (full : Bool) → KeepsFlag (replaces x state way full)
  full-keeps x state way true none = refl
  full-keeps x state way false none = refl

  fetch-keeps : (x : ℕ) (state : LeafState) (o : Option ℕ) → KeepsFlag (deed_to_fetch x state victim v o)
  fetch-keeps x state (Some way) none = refl
  fetch-keeps x state None none = full-keeps x state _ (buffer_full v) none

  need-keeps : (n : Need) → KeepsFlag (deed_by_need code items victim v n)
  need-keeps no_need none = change-keeps (change_here code items v) refl none
  need-keeps (a_copy x state) none = fetch-keeps x state (free_way v.sizes x v.ways) none
  need-keeps (no_other_copy x words) none = refl
  need-keeps (time x) none = refl

  waiting-keeps : (o : Option ℕ) → KeepsFlag (deed_unless_waiting code items victim v o)
  waiting-keeps (Some x) none = refl
  waiting-keeps None none = need-keeps (need_of (ask_of code items v.hart) v) none

  halted-keeps : (o : Option HaltCause) → KeepsFlag (deed_unless_halted code items victim v o)
  halted-keeps (Some cause) none = refl
  halted-keeps None none = waiting-keeps (waiting_item v.ways v.buffer) none

  pub leaf-keeps : SaysNoHalt (leaf_step code items now victim v).answer → has_halted (leaf_step code items now victim v).leaf ≡ has_halted v
  unfolding leaf_step deed_of
  leaf-keeps none = halted-keeps v.hart.halt none

-- ---- the harts of a part of the tree

abbrev mutual
  flags_in : Node → List Bool → List Bool
  flags_in (leaf_node v) rest = has_halted v ∷ rest
  flags_in (dir_node d ns) rest = flags_among ns rest

  flags_among : Nodes → List Bool → List Bool
  flags_among no_nodes rest = rest
  flags_among (more_nodes n ns) rest = flags_in n (flags_among ns rest)

mutual
  flags-of-leaves : (n : Node) (rest : List LeafValue) → map has_halted (leaves_of n rest) ≡ flags_in n (map has_halted rest)
  flags-of-leaves (leaf_node v) rest = refl
  flags-of-leaves (dir_node d ns) rest = flags-among-leaves ns rest

  flags-among-leaves : (ns : Nodes) (rest : List LeafValue) → map has_halted (leaves_among ns rest) ≡ flags_among ns (map has_halted rest)
  flags-among-leaves no_nodes rest = refl
  flags-among-leaves (more_nodes n ns) rest = flags-of-leaves n (leaves_among ns rest) ∙ ap (flags_in n) (flags-among-leaves ns rest)

-- the harts of a child, from what no turn of its bus changes
abbrev kept_flags : Kept → List Bool → List Bool
kept_flags (leaf_kept number sizes hart done) rest = is_some hart.halt ∷ rest
kept_flags (dir_kept bus level sizes count epoch ns) rest = flags_among ns rest

abbrev kept_flags_among : List Kept → List Bool → List Bool
kept_flags_among [] rest = rest
kept_flags_among (k ∷ ks) rest = kept_flags k (kept_flags_among ks rest)

flags-kept : (n : Node) (rest : List Bool) → flags_in n rest ≡ kept_flags (kept_of n) rest
flags-kept (leaf_node v) rest = refl
flags-kept (dir_node d ns) rest = refl

flags-among-kept : (ns : List Node) (rest : List Bool) → flags_among (nodes ns) rest ≡ kept_flags_among (map kept_of ns) rest
flags-among-kept [] rest = refl
flags-among-kept (n ∷ ns) rest = flags-kept n (flags_among (nodes ns) rest) ∙ ap (kept_flags (kept_of n)) (flags-among-kept ns rest)

bus-flags : (t : Turn) (m : MachineValue) (w : Where) (d : DirValue) (ns : Nodes) (rest : List Bool) → flags_in (node_after m.code m.items t w (dir_node d ns)) rest ≡ flags_among ns rest
bus-flags t m w d ns rest =
    let keeps = bus_step-keeps (stamp_above w) d (children ns) (bus_turn_of t) in
    flags-among-kept (bus_step (stamp_above w) (bus_turn_of t) d (children ns)).kids rest ∙ ap (λ ks. kept_flags_among ks rest) keeps.kids ∙ sym (flags-among-kept (children ns) rest) ∙ ap (λ ms. flags_among ms rest) (nodes-children ns)

-- ---- the machine

module _ (t : Turn) (m : MachineValue) (a : TurnAnswer) (none : SaysNoHalt a) where
  abbrev Stays : Node → Node → Type 0
  Stays n k = (rest : List Bool) → flags_in k rest ≡ flags_in n rest

  abbrev StaysAmong : Nodes → Nodes → Type 0
  StaysAmong ns ms = (rest : List Bool) → flags_among ms rest ≡ flags_among ns rest

  here-stays : (w : Where) (n k : Node) → TurnsHere t m a w n k → Stays n k
  here-stays w (leaf_node v) k r rest =
      let flag = leaf-keeps m.code m.items (victim_of t) (key_at_leaf w v.done) v (λ cause e. none cause (sym r.reads ∙ e)) in
      ap (λ x. flags_in x rest) r.becomes ∙ ap (λ b. b ∷ rest) flag
  here-stays w (dir_node d ns) k r rest = ap (λ x. flags_in x rest) r.becomes ∙ bus-flags t m w d ns rest

  answered-stays : turn_answer t m ≡ Some a → Stays (root_of m) (turn_root t m)
  answered-stays some =
      let at = turned (named_by t) (answer_here m.code m.items t) (node_after m.code m.items t) a at_top (root_of m) some in
      changed-keeps (TurnsHere t m a) Stays StaysAmong here-stays (λ d ns ms same. same) (λ n k ns same rest. same (flags_among ns rest)) (λ n ns ms same rest. ap (flags_in n) (same rest)) at_top at.0 (root_of m) (turn_root t m) at.1

flags-are : (m : MachineValue) → flags_of m ≡ flags_in (root_of m) []
flags-are m = flags-of-leaves (root_of m) []

pub turn-flags : (t : Turn) (m : MachineValue) → SaysNoHalt (turn_of t m).answer → flags_of (turn_of t m).machine ≡ flags_of m
turn-flags t m none = elim (turn_answer t m) as (λ o. turn_answer t m ≡ o → flags_of (turn_of t m).machine ≡ flags_of m) [
  | None ↦ λ is. ap (λ o. flags_of o.machine) (turn-unanswered t m is)
  | Some a ↦ λ is.
      let answer = ap (λ o. o.answer) (turn-answered t m a is) in
      flags-are (turn_of t m).machine ∙ ap (λ n. flags_in n []) (turn-root t m a is) ∙ answered-stays t m a (λ cause e. none cause (answer ∙ e)) is [] ∙ sym (flags-are m)
] refl
