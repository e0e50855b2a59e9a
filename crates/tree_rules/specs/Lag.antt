-- Why the rules of order speak of claims and clocks. A bus keeps the last stamp that it took over, and a bus two levels below
-- may still keep an older one. Each state here keeps all rules but one, and after one turn another rule is broken.
use Rattle.std.specs.Prelude.{◌≡◌, ℕ, Bool, true, false, List, [], ◌∷◌, map, replicate}
use Rattle.tree_rules.specs.DdmTypes.declared.answers.TxKind.{TxKind}
use Rattle.tree_rules.specs.DdmTypes.declared.sizes.Hold.{Hold}
use Rattle.tree_rules.specs.DdmTypes.declared.sizes.LeafState.{LeafState}
use Rattle.tree_rules.specs.DdmTypes.declared.keys.Stamp.{Stamp}
use Rattle.tree_rules.specs.DdmTypes.declared.operations.Effect.{Effect}
use Rattle.tree_rules.specs.DdmTypes.declared.operations.Op.{Op}
use Rattle.tree_rules.specs.DdmTypes.declared.turns.Turn.{Turn}
use Rattle.tree_rules.specs.FlatModel.Flat.{FlatMachine}
use Rattle.tree_model.specs.State.Values.{DownValue, Note, no_note, up_erase, Node, leaf_node, dir_node, nodes, MachineValue}
use Rattle.tree_model.specs.Turns.Machine.{turn_of}
use Rattle.tree_rules.specs.Statements.{test_of}
use Rattle.tree_rules.specs.Bus.Rules.{machine_holds}
use Rattle.tree_rules.specs.Order.Rules.{is_timed, copy_rule, copy_rules, written_rule, written_rules}
use Rattle.tree_rules.specs.Refused.{core_tests}
use Rattle.tree_rules.specs.Small.{all_but, entry, leaf_value, dir_value, machine, flat}

abbrev pub stamp : ℕ → ℕ → Stamp
stamp s0 s1 = record { s0 = s0; s1 = s1; s2 = 0; s3 = 0 }

-- a leaf that has completed so many instructions, in this state of the item
abbrev pub leaf_at : ℕ → ℕ → ℕ → LeafState → ℕ → Node
leaf_at number pc done state word = leaf_node (leaf_value number pc done (entry state word) [])

abbrev pub bus_over : ℕ → ℕ → Hold → Note → List DownValue → Stamp → ℕ → Node → Node
bus_over bus level hold note down epoch count below = dir_node (dir_value bus level hold note false down epoch count) (nodes (below ∷ []))

abbrev pub told : TxKind → Stamp → List DownValue
told kind s = record { kind = kind; item = 0; words = 0 ∷ []; stamp = s } ∷ []

abbrev pub copy_tests : FlatMachine → MachineValue → List Bool
copy_tests s m = map (λ r. test_of (copy_rule r s m 0)) copy_rules

abbrev pub written_tests : MachineValue → List Bool
written_tests m = map (λ r. test_of (written_rule r m 0)) written_rules

-- ---- claims: an exclusive that is older than the end of a copy elsewhere

-- Leaf 0 is about to get the item Exclusive with the stamp (5, 3), but the copy of leaf 1 ends at 7 only. Bus 1 has taken over
-- the stamp 9 since.
abbrev pub late_exclusive : MachineValue
late_exclusive = machine (
    bus_over 1 1 Hold.Exclusive no_note [] (stamp 9 0) 1
    (bus_over 3 2 Hold.Exclusive (up_erase 0) (told TxKind.ExclusiveTx (stamp 5 3)) (stamp 5 2) 4
    (leaf_at 0 0x10000 0 LeafState.Waiting 5))
    ∷ bus_over 2 1 Hold.Invalid no_note (told TxKind.EraseTx (stamp 7 0)) (stamp 1 0) 1
    (bus_over 4 2 Hold.Shared no_note [] (stamp 1 1) 1 (leaf_at 1 0x10004 0 LeafState.Shared 5)) ∷ []) []

abbrev pub late_start : FlatMachine
late_start = flat 0x10000 0x10004

pub record LateExclusive : Type 0 where
  pub bus : machine_holds late_exclusive ≡ true
  pub time : is_timed late_exclusive ≡ true
  pub core : core_tests late_start late_exclusive ≡ replicate 7 true
  pub written : written_tests late_exclusive ≡ replicate 7 true
  -- the rule of claims on copies alone refuses it
  pub copies : copy_tests late_start late_exclusive ≡ all_but 2 4
  -- once leaf 0 has the item it is before the end of the other copy
  pub next : written_tests (turn_of (Turn.Down 3) late_exclusive).machine ≡ all_but 1 7

-- ---- clocks: a new word at a leaf whose key would be before the store

abbrev pub store : Op
store = record {
  key = record { s0 = 5; c0 = 1; s1 = 1; c1 = 0; s2 = 1; c2 = 0; s3 = 0; c3 = 0; i = 0 };
  hart = 1;
  pc = 0x10000;
  effect = Effect.Store 0x20000 5 7;
}

-- Leaf 1 has stored 7 with a key that begins with 5, and leaf 0 has that word, but bus 3 has taken over the stamp (3, 0) last.
-- Bus 1 has taken over the stamp 9.
abbrev pub early_word : MachineValue
early_word = machine (
    bus_over 1 1 Hold.Shared no_note [] (stamp 9 0) 1
    (bus_over 3 2 Hold.Shared no_note [] (stamp 3 0) 1 (leaf_at 0 0x10004 0 LeafState.Shared 7))
    ∷ bus_over 2 1 Hold.Shared no_note [] (stamp 5 0) 1
    (bus_over 4 2 Hold.Shared no_note [] (stamp 5 1) 1 (leaf_at 1 0x10004 1 LeafState.Shared 7)) ∷ [])
    (store ∷ [])

abbrev pub early_start : FlatMachine
early_start = flat 0x10004 0x10000

pub record EarlyWord : Type 0 where
  pub bus : machine_holds early_word ≡ true
  pub time : is_timed early_word ≡ true
  pub core : core_tests early_start early_word ≡ replicate 7 true
  pub written : written_tests early_word ≡ replicate 7 true
  -- the rule of clocks alone refuses it
  pub copies : copy_tests early_start early_word ≡ all_but 3 4
  -- leaf 0 loads 7 with a key before the store: the operations in the order of their keys aren't legal
  pub next : core_tests early_start (turn_of (Turn.Hart 0 0) early_word).machine ≡ true ∷ true ∷ false ∷ false ∷ true ∷ true ∷ true ∷ []
