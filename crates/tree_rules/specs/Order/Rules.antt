-- The rules of order: a relation between a start, which is the harts and words of the flat machine, and a machine with its
-- operations. It holds between turns. With it the operations in the order of their keys are legal for the start.
-- Three parts: time, which needs no start; the core, which one turn after the other keeps; and what follows from these.
-- To be believed where a rule is relied on; the order of the witness needs no reader here.
use Rattle.std.specs.Prelude.{ℕ, ◌<◌, Bool, ◌&&◌, List, [], ◌∷◌, is_some}
use Rattle.std.specs.List.{list_all, range_with_len}
use Rattle.tree_rules.specs.DdmTypes.declared.turns.Turn.{Turn}
use Rattle.tree_rules.specs.FlatModel.Flat.{FlatMachine}
use Rattle.tree_rules.specs.FlatModel.Legal.{legal_run}
use Rattle.tree_model.specs.State.Values.{MachineValue}
use Rattle.tree_model.specs.State.Shape.{depth_of}
use Rattle.tree_model.specs.Turns.Machine.{turn_of}
use Rattle.tree_rules.specs.Statements.{Statement, is_so, Holds, test_of, each, each_pair}
use Rattle.tree_rules.specs.Bus.Rules.{items_of_machine}
use Rattle.tree_rules.specs.Order.Places.{leaves_at, dirs_at}
use Rattle.tree_rules.specs.Order.Copies.{copies_of}
use Rattle.tree_rules.specs.Order.Claims.{claims_of}
use Rattle.tree_model.specs.Turns.Witness.{sorted_ops}
use Rattle.tree_rules.specs.Order.Ops.{flat_now}
use Rattle.tree_rules.specs.Order.Time as time
use Rattle.tree_rules.specs.Order.Core as core
use Rattle.tree_rules.specs.Order.Written as written

-- ---- time

pub data TimeRule : Type 0 where
  -- 1: the keys of the operations differ
  keys_differ : TimeRule
  -- 1: there is a leaf of each operation's hart
  ops_of_leaves : TimeRule
  -- 1: a key has numbers for the levels of the tree alone
  keys_end : TimeRule
  -- 1: it has the path of its leaf
  keys_have_paths : TimeRule
  -- 1: and is less than the present one there
  keys_are_past : TimeRule
  -- 2: a directory's own bus hasn't taken over a stamp past the present one above
  taken_is_past : TimeRule
  -- 2: the stamps of its down list lie between the two
  stamps_between : TimeRule
  -- 2: they never fall, and that of a read, an erase or an inject is greater than all before it
  stamps_rise : TimeRule
  -- 2: they have numbers for the levels above the directory's own bus alone
  stamps_end : TimeRule
  epochs_end : TimeRule

abbrev pub time_rule : TimeRule → MachineValue → Statement
time_rule keys_differ m = each_pair time.keys_differ m.ops
time_rule ops_of_leaves m = each (time.has_leaf (leaves_at m)) m.ops
time_rule keys_end m = each (time.has_ending_key (depth_of m)) m.ops
time_rule keys_have_paths m = each (λ o. each (time.has_leaf_path (depth_of m) o) (leaves_at m)) m.ops
time_rule keys_are_past m = each (λ o. each (time.is_before_now (depth_of m) o) (leaves_at m)) m.ops
time_rule taken_is_past m = each time.takes_past (dirs_at m)
time_rule stamps_between m = each (λ c. each (time.lies_between c) c.dir.down) (dirs_at m)
time_rule stamps_rise m = each (λ c. each_pair (time.may_stand_behind c) c.dir.down) (dirs_at m)
time_rule stamps_end m = each (λ c. each (time.entry_ends c) c.dir.down) (dirs_at m)
time_rule epochs_end m = each time.epoch_ends (dirs_at m)

abbrev pub time_rules : List TimeRule
time_rules =
    keys_differ ∷ ops_of_leaves ∷ keys_end ∷ keys_have_paths ∷ keys_are_past ∷ taken_is_past ∷ stamps_between
    ∷ stamps_rise ∷ stamps_end ∷ epochs_end ∷ []

pub record IsTimed (m : MachineValue) : Type 0 where
  pub each : (r : TimeRule) → Holds (time_rule r m)

abbrev pub is_timed : MachineValue → Bool
is_timed m = list_all (λ r. test_of (time_rule r m)) time_rules

-- ---- the core

pub data CoreRule : Type 0 where
  -- 10: a read, an erase or an inject in a down list has a greater stamp than the last that its own bus took over
  commands_past_taken : CoreRule
  -- 7: a leaf that has reserved an item has words of it, and the flat machine has it reserved for its hart at this moment
  reservations_kept : CoreRule
  -- 8: the operations in the order of their keys are legal
  legal : CoreRule
  -- 8: each hart is that of the flat machine after them, which hasn't halted
  harts_follow : CoreRule
  -- 8: and has counted its operations
  counts_follow : CoreRule
  -- 8: a hart that halted is one whose next step there is that halt
  halts_follow : CoreRule
  -- 13: of one hart, an operation's key is less than those of its later operations
  own_order : CoreRule

abbrev pub core_rule : CoreRule → FlatMachine → MachineValue → Statement
core_rule commands_past_taken s m = each (λ c. each (core.is_past_taken c) c.dir.down) (dirs_at m)
core_rule reservations_kept s m = each (core.keeps_reservation s (depth_of m) m.items m.ops) (leaves_at m)
core_rule legal s m = is_so (is_some (legal_run m.code m.items s (sorted_ops m.ops)))
core_rule harts_follow s m = each (core.has_flat_hart (flat_now s m)) (leaves_at m)
core_rule counts_follow s m = each (core.has_counted m.ops) (leaves_at m)
core_rule halts_follow s m = each (core.halts_as_flat m.code m.items (flat_now s m)) (leaves_at m)
core_rule own_order s m = each_pair core.is_in_own_order m.ops

abbrev pub core_rules : List CoreRule
core_rules = commands_past_taken ∷ reservations_kept ∷ legal ∷ harts_follow ∷ counts_follow ∷ halts_follow ∷ own_order ∷ []

-- of one item
pub data CopyRule : Type 0 where
  -- 3: a copy has the words after all operations, or, where it has an end, after those before the end
  words_right : CopyRule
  -- 11: a claim is after each operation on its item under another child of its bus
  claims_after_ops : CopyRule
  -- 11: a copy under another child of that bus has an end, and the claim is after it
  claims_after_copies : CopyRule
  -- 12: a change that isn't under a copy's place is before the copy's clock, on the bus where they part, or after its end
  clocks_know : CopyRule

abbrev pub copy_rule : CopyRule → FlatMachine → MachineValue → ℕ → Statement
copy_rule words_right s m x = each (core.has_right_words s (depth_of m) m.items m.ops x) (copies_of x m)
copy_rule claims_after_ops s m x = each (λ t. each (core.claim_is_after_op (depth_of m) m.items x t) m.ops) (claims_of x m)
copy_rule claims_after_copies s m x = each (λ t. each (core.claim_is_after_copy t) (copies_of x m)) (claims_of x m)
copy_rule clocks_know s m x = each (λ k. each (core.knows_change (depth_of m) m.items x k) m.ops) (copies_of x m)

abbrev pub copy_rules : List CopyRule
copy_rules = words_right ∷ claims_after_ops ∷ claims_after_copies ∷ clocks_know ∷ []

pub record IsCore (s : FlatMachine) (m : MachineValue) : Type 0 where
  pub each : (r : CoreRule) → Holds (core_rule r s m)
  pub copies : (x : ℕ) → x < items_of_machine m → (r : CopyRule) → Holds (copy_rule r s m x)

abbrev pub is_core : FlatMachine → MachineValue → Bool
is_core s m =
    list_all (λ r. test_of (core_rule r s m)) core_rules
    && list_all (λ x. list_all (λ r. test_of (copy_rule r s m x)) copy_rules)
    (range_with_len 0 (items_of_machine m))

-- ---- what follows, of one item

pub data WrittenRule : Type 0 where
  -- 4: a leaf whose entry has an end is before that end; a reply beside it has the same end
  ends_later : WrittenRule
  -- 5: where a leaf holds the item Exclusive, each other copy has an end, and the leaf isn't before it
  writer_alone : WrittenRule
  -- 5: and each operation on the item has a lesser key than the leaf's present one
  writer_latest : WrittenRule
  -- 6: where a directory holds the item Exclusive, what was done to it beside the directory is before the moment since which
  -- it does
  ops_beside : WrittenRule
  -- 6: and so are the ends of the copies that are left there
  copies_beside : WrittenRule
  -- 9: a leaf that has words of the item knows each change by a leaf beside it
  leaf_knows : WrittenRule
  -- 9: at each directory over a copy a change from beside is known there, or the copy ended before it
  dirs_know : WrittenRule

abbrev pub written_rule : WrittenRule → MachineValue → ℕ → Statement
written_rule ends_later m x = each (λ a. each (written.is_before_end a) (copies_of x m)) (leaves_at m)
written_rule writer_alone m x = each (written.writer_outlives x (copies_of x m)) (leaves_at m)
written_rule writer_latest m x = each (written.writer_is_latest (depth_of m) m.items m.ops x) (leaves_at m)
written_rule ops_beside m x = each (written.beside_ops_are_before (depth_of m) m.items m.ops x) (dirs_at m)
written_rule copies_beside m x = each (written.beside_copies_end x (copies_of x m)) (dirs_at m)
written_rule leaf_knows m x = each (written.leaf_knows_changes (depth_of m) m.items m.ops x) (leaves_at m)
written_rule dirs_know m x = each (λ k. each (written.dir_knows_changes (depth_of m) m.items m.ops x k) (dirs_at m)) (copies_of x m)

abbrev pub written_rules : List WrittenRule
written_rules = ends_later ∷ writer_alone ∷ writer_latest ∷ ops_beside ∷ copies_beside ∷ leaf_knows ∷ dirs_know ∷ []

pub record IsWritten (m : MachineValue) : Type 0 where
  pub each : (x : ℕ) → x < items_of_machine m → (r : WrittenRule) → Holds (written_rule r m x)

abbrev pub is_written : MachineValue → Bool
is_written m = list_all (λ x. list_all (λ r. test_of (written_rule r m x)) written_rules) (range_with_len 0 (items_of_machine m))

-- ---- all of them

pub record IsInOrder (s : FlatMachine) (m : MachineValue) : Type 0 where
  pub timed : IsTimed m
  pub core : IsCore s m
  pub written : IsWritten m

abbrev pub order_holds : FlatMachine → MachineValue → Bool
order_holds s m = is_timed m && (is_core s m && is_written m)

-- in the machine and after every turn of a run
unfoldable pub run_in_order : FlatMachine → List Turn → MachineValue → Bool
run_in_order s [] m = order_holds s m
run_in_order s (t ∷ ts) m = order_holds s m && run_in_order s ts (turn_of t m).machine
