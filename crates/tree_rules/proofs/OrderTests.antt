-- The tests of the rules of order tell just what the facts say.
use Rattle.std.specs.Prelude.{◌≡◌, ℕ, Bool, true, ◌&&◌}
use Rattle.std.specs.List.{list_all, range_with_len}
use Rattle.std.proofs.lemmas.Bool.{and_parts}
use Rattle.std.specs.Cmp.Derive.{both_true}
use Rattle.tree_rules.specs.FlatModel.Flat.{FlatMachine}
use Rattle.tree_model.specs.State.Values.{MachineValue}
use Rattle.tree_rules.specs.Statements.{test_of}
use Rattle.tree_rules.specs.Bus.Rules.{items_of_machine}
use Rattle.tree_rules.specs.Order.Rules.{TimeRule, keys_differ, ops_of_leaves, keys_end, keys_have_paths, keys_are_past, taken_is_past, stamps_between, stamps_rise, stamps_end, epochs_end, time_rule, time_rules, IsTimed, is_timed, CoreRule, commands_past_taken, reservations_kept, legal, harts_follow, counts_follow, halts_follow, own_order, core_rule, core_rules, CopyRule, words_right, claims_after_ops, claims_after_copies, clocks_know, copy_rule, copy_rules, IsCore, is_core, WrittenRule, ends_later, writer_alone, writer_latest, ops_beside, copies_beside, leaf_knows, dirs_know, written_rule, written_rules, IsWritten, is_written, IsInOrder, order_holds}
use Rattle.tree_rules.proofs.Statements.{Holds-from_test, test-from_Holds}
use Rattle.tree_rules.proofs.Lists.{passes-at, all-pass, each-from_range, range-from_each}

-- ---- each rule of a list

time-at : (r : TimeRule) (m : MachineValue) → list_all (λ q. test_of (time_rule q m)) time_rules ≡ true → test_of (time_rule r m) ≡ true
time-at keys_differ m h = passes-at (λ q. test_of (time_rule q m)) time_rules 0 h
time-at ops_of_leaves m h = passes-at (λ q. test_of (time_rule q m)) time_rules 1 h
time-at keys_end m h = passes-at (λ q. test_of (time_rule q m)) time_rules 2 h
time-at keys_have_paths m h = passes-at (λ q. test_of (time_rule q m)) time_rules 3 h
time-at keys_are_past m h = passes-at (λ q. test_of (time_rule q m)) time_rules 4 h
time-at taken_is_past m h = passes-at (λ q. test_of (time_rule q m)) time_rules 5 h
time-at stamps_between m h = passes-at (λ q. test_of (time_rule q m)) time_rules 6 h
time-at stamps_rise m h = passes-at (λ q. test_of (time_rule q m)) time_rules 7 h
time-at stamps_end m h = passes-at (λ q. test_of (time_rule q m)) time_rules 8 h
time-at epochs_end m h = passes-at (λ q. test_of (time_rule q m)) time_rules 9 h

core-at : (r : CoreRule) (s : FlatMachine) (m : MachineValue) → list_all (λ q. test_of (core_rule q s m)) core_rules ≡ true → test_of (core_rule r s m) ≡ true
core-at commands_past_taken s m h = passes-at (λ q. test_of (core_rule q s m)) core_rules 0 h
core-at reservations_kept s m h = passes-at (λ q. test_of (core_rule q s m)) core_rules 1 h
core-at legal s m h = passes-at (λ q. test_of (core_rule q s m)) core_rules 2 h
core-at harts_follow s m h = passes-at (λ q. test_of (core_rule q s m)) core_rules 3 h
core-at counts_follow s m h = passes-at (λ q. test_of (core_rule q s m)) core_rules 4 h
core-at halts_follow s m h = passes-at (λ q. test_of (core_rule q s m)) core_rules 5 h
core-at own_order s m h = passes-at (λ q. test_of (core_rule q s m)) core_rules 6 h

copy-at : (r : CopyRule) (s : FlatMachine) (m : MachineValue) (x : ℕ) → list_all (λ q. test_of (copy_rule q s m x)) copy_rules ≡ true → test_of (copy_rule r s m x) ≡ true
copy-at words_right s m x h = passes-at (λ q. test_of (copy_rule q s m x)) copy_rules 0 h
copy-at claims_after_ops s m x h = passes-at (λ q. test_of (copy_rule q s m x)) copy_rules 1 h
copy-at claims_after_copies s m x h = passes-at (λ q. test_of (copy_rule q s m x)) copy_rules 2 h
copy-at clocks_know s m x h = passes-at (λ q. test_of (copy_rule q s m x)) copy_rules 3 h

written-at : (r : WrittenRule) (m : MachineValue) (x : ℕ) → list_all (λ q. test_of (written_rule q m x)) written_rules ≡ true → test_of (written_rule r m x) ≡ true
written-at ends_later m x h = passes-at (λ q. test_of (written_rule q m x)) written_rules 0 h
written-at writer_alone m x h = passes-at (λ q. test_of (written_rule q m x)) written_rules 1 h
written-at writer_latest m x h = passes-at (λ q. test_of (written_rule q m x)) written_rules 2 h
written-at ops_beside m x h = passes-at (λ q. test_of (written_rule q m x)) written_rules 3 h
written-at copies_beside m x h = passes-at (λ q. test_of (written_rule q m x)) written_rules 4 h
written-at leaf_knows m x h = passes-at (λ q. test_of (written_rule q m x)) written_rules 5 h
written-at dirs_know m x h = passes-at (λ q. test_of (written_rule q m x)) written_rules 6 h

-- ---- time

pub IsTimed-from_test : (m : MachineValue) → is_timed m ≡ true → IsTimed m
IsTimed-from_test m h = record { each = λ r. Holds-from_test (time_rule r m) (time-at r m h) }

pub test-from_IsTimed : (m : MachineValue) → IsTimed m → is_timed m ≡ true
test-from_IsTimed m t = all-pass (λ q. test_of (time_rule q m)) time_rules (λ q. test-from_Holds (time_rule q m) (t.each q))

-- ---- the core

abbrev copies_pass : FlatMachine → MachineValue → ℕ → Bool
copies_pass s m x = list_all (λ q. test_of (copy_rule q s m x)) copy_rules

pub IsCore-from_test : (s : FlatMachine) (m : MachineValue) → is_core s m ≡ true → IsCore s m
IsCore-from_test s m h =
    let parts : (list_all (λ q. test_of (core_rule q s m)) core_rules ≡ true) × (list_all (copies_pass s m) (range_with_len 0 (items_of_machine m)) ≡ true) = and_parts _ _ h in
    record {
      each = λ r. Holds-from_test (core_rule r s m) (core-at r s m parts.0);
      copies = λ x high r. Holds-from_test (copy_rule r s m x) (copy-at r s m x (each-from_range (copies_pass s m) (items_of_machine m) parts.1 x high));
    }

pub test-from_IsCore : (s : FlatMachine) (m : MachineValue) → IsCore s m → is_core s m ≡ true
test-from_IsCore s m c =
    both_true (all-pass (λ q. test_of (core_rule q s m)) core_rules (λ q. test-from_Holds (core_rule q s m) (c.each q)))
    (range-from_each (copies_pass s m) (items_of_machine m) (λ x high. all-pass (λ q. test_of (copy_rule q s m x)) copy_rules (λ q. test-from_Holds (copy_rule q s m x) (c.copies x high q))))

-- ---- what follows

abbrev written_pass : MachineValue → ℕ → Bool
written_pass m x = list_all (λ q. test_of (written_rule q m x)) written_rules

pub IsWritten-from_test : (m : MachineValue) → is_written m ≡ true → IsWritten m
IsWritten-from_test m h = record { each = λ x high r. Holds-from_test (written_rule r m x) (written-at r m x (each-from_range (written_pass m) (items_of_machine m) h x high)) }

pub test-from_IsWritten : (m : MachineValue) → IsWritten m → is_written m ≡ true
test-from_IsWritten m w = range-from_each (written_pass m) (items_of_machine m) (λ x high. all-pass (λ q. test_of (written_rule q m x)) written_rules (λ q. test-from_Holds (written_rule q m x) (w.each x high q)))

-- ---- all of them

pub IsInOrder-from_test : (s : FlatMachine) (m : MachineValue) → order_holds s m ≡ true → IsInOrder s m
IsInOrder-from_test s m h =
    let parts : (is_timed m ≡ true) × ((is_core s m && is_written m) ≡ true) = and_parts _ _ h in
    let rest : (is_core s m ≡ true) × (is_written m ≡ true) = and_parts _ _ parts.1 in
    record { timed = IsTimed-from_test m parts.0; core = IsCore-from_test s m rest.0; written = IsWritten-from_test m rest.1 }

pub test-from_IsInOrder : (s : FlatMachine) (m : MachineValue) → IsInOrder s m → order_holds s m ≡ true
test-from_IsInOrder s m r = both_true (test-from_IsTimed m r.timed) (both_true (test-from_IsCore s m r.core) (test-from_IsWritten m r.written))
