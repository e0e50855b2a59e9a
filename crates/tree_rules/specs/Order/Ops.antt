-- Lists of completed instructions: their keys, and what they leave of the flat machine from a start.
-- To be believed: it is what is claimed of every run.
use Rattle.std.specs.Prelude.{ℕ, Bool, List, length, filter}
use Rattle.tree_rules.specs.DdmTypes.declared.operations.Op.{Op}
use Rattle.tree_rules.specs.DdmTypes.Keys.{key_numbers}
use Rattle.tree_rules.specs.DdmTypes.ItemTable.{ItemTable}
use Rattle.tree_rules.specs.FlatModel.Flat.{FlatMachine, item_words}
use Rattle.tree_rules.specs.FlatModel.Legal.{is_of, words_after, flat_after}
use Rattle.tree_model.specs.State.Values.{MachineValue}
use Rattle.tree_model.specs.Turns.Witness.{sorted_ops}
use Rattle.tree_rules.specs.Order.Moments.{key_path}

-- the numbers of an operation's key in a tree of this depth, and its leaf's path
abbrev pub op_key : ℕ → Op → List ℕ
op_key depth o = key_numbers depth o.key

abbrev pub op_path : ℕ → Op → List ℕ
op_path depth o = key_path (op_key depth o)

-- how many operations are of a hart
abbrev pub op_count : ℕ → List Op → ℕ
op_count h ops = length (filter (is_of h) ops)

-- ---- what they leave

-- the words of item x after those operations, in the order of their keys, that pass
abbrev pub words_where : FlatMachine → ItemTable → List Op → ℕ → (Op → Bool) → List ℕ
words_where s items ops x test = words_after items x (item_words s x) (filter test (sorted_ops ops))

-- the flat machine after all of them
abbrev pub flat_now : FlatMachine → MachineValue → FlatMachine
flat_now s m = flat_after m.code m.items s (sorted_ops m.ops)
