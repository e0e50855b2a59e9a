-- A machine without its operations keeps what it kept with them.
use Rattle.std.proofs.Common.{ℕ, List}
use Rattle.ddm_tree.specs.TreeModel.State.Values.{MachineValue}
use Rattle.ddm_tree.specs.TreeRules.Statements.{Holds}
use Rattle.ddm_tree.specs.TreeRules.Order.Places.{dirs_at}
use Rattle.ddm_tree.specs.TreeRules.Order.Rules.{TimeRule, keys_differ, ops_of_leaves, keys_end, keys_have_paths, keys_are_past, taken_is_past, stamps_between, stamps_rise, stamps_end, epochs_end, time_rule, IsTimed}
use Rattle.ddm_tree.specs.Machine.{IsMachine, without_ops}
use Rattle.ddm_tree.specs.Rules.{KeepsRules}
use Rattle.ddm_tree.proofs.RulesKept.{rules-of, rules-buses, rules-timed}

without-timed : (m : MachineValue) → IsTimed m → IsTimed (without_ops m)
unfolding dirs_at
without-timed m timed = record { each = rule } where
  rule : (r : TimeRule) → Holds (time_rule r (without_ops m))
  rule keys_differ = tt
  rule ops_of_leaves = tt
  rule keys_end = tt
  rule keys_have_paths = tt
  rule keys_are_past = tt
  rule taken_is_past = timed.each taken_is_past
  rule stamps_between = timed.each stamps_between
  rule stamps_rise = timed.each stamps_rise
  rule stamps_end = timed.each stamps_end
  rule epochs_end = timed.each epochs_end

without-rules : (m : MachineValue) → KeepsRules m → KeepsRules (without_ops m)
without-rules m rules =
    let buses = rules-buses m rules in
    rules-of (without_ops m) (record { tree = buses.tree; top = buses.top; held = buses.held }) (without-timed m (rules-timed m rules))

pub without-keeps : (width turns : ℕ) (leaf_paths bus_paths : List (List ℕ)) (m : MachineValue) → IsMachine width m turns leaf_paths bus_paths → IsMachine width (without_ops m) turns leaf_paths bus_paths
without-keeps width turns leaf_paths bus_paths m is = record {
  shaped = record { each = is.shaped.each };
  rules = without-rules m is.rules;
  rooms = is.rooms;
  words = is.words;
  counts = is.counts;
  granted = is.granted;
  paths = is.paths;
}
