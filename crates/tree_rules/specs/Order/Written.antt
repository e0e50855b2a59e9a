-- Rules 4, 5, 6 and 9 of order, which follow from the others: what a leaf or directory that has a copy knows of the rest.
-- To be believed where a rule is relied on; the order of the witness needs no reader here.
use Rattle.std.specs.Prelude.{ℕ, Bool, not, ◌&&◌, nat_lt, List, length, unwrap_or, if◌then◌else◌}
use Rattle.tree_rules.specs.DdmTypes.declared.operations.Op.{Op}
use Rattle.tree_rules.specs.DdmTypes.ItemTable.{ItemTable}
use Rattle.tree_rules.specs.FlatModel.Legal.{on_item, changes_item}
use Rattle.tree_model.specs.State.States.{is_held, is_exclusive}
use Rattle.tree_model.specs.State.Leaf.{leaf_hold}
use Rattle.tree_model.specs.State.Directory.{dir_hold, queue_of}
use Rattle.tree_rules.specs.Statements.{Statement, is_so, is_not, either, where_so, where_not, each, if_there, there_and}
use Rattle.tree_rules.specs.Order.Moments.{less, before, is_under, same_numbers}
use Rattle.tree_rules.specs.Order.Places.{LeafAt, leaf_path, leaf_now, DirAt, dir_path, taken_moment}
use Rattle.tree_rules.specs.Order.Copies.{CopyAt}
use Rattle.tree_rules.specs.Order.Claims.{last_exclusive}
use Rattle.tree_rules.specs.Order.Ops.{op_key, op_path}
use Rattle.tree_rules.specs.Order.Core.{ended_before}

-- ---- 4: a leaf whose entry has an end is before that end

abbrev pub is_before_end : LeafAt → CopyAt → Statement
is_before_end a k = where_so (same_numbers k.place (leaf_path a)) (if_there (λ e. is_so (before (leaf_now a) e)) k.end)

-- ---- 5: a leaf that holds the item Exclusive

-- each other copy has an end, and the leaf isn't before it
abbrev pub other_copy_ends : LeafAt → CopyAt → Statement
other_copy_ends b k = where_not (same_numbers k.place (leaf_path b)) (there_and (λ e. is_not (before (leaf_now b) e)) k.end)

abbrev pub writer_outlives : ℕ → List CopyAt → LeafAt → Statement
writer_outlives x copies b = where_so (is_exclusive (leaf_hold x b.leaf)) (each (other_copy_ends b) copies)

-- each operation on the item has a lesser key than the leaf's present one
abbrev pub op_is_less : ℕ → ItemTable → ℕ → LeafAt → Op → Statement
op_is_less depth items x b o = where_so (on_item items x o.effect) (is_so (less (op_key depth o) (leaf_now b)))

abbrev pub writer_is_latest : ℕ → ItemTable → List Op → ℕ → LeafAt → Statement
writer_is_latest depth items ops x b = where_so (is_exclusive (leaf_hold x b.leaf)) (each (op_is_less depth items x b) ops)

-- ---- 6: a directory that holds the item Exclusive

-- the moment of the last exclusive or inject of the item in its down list, else of the last stamp that its bus took over
abbrev pub exclusive_since : ℕ → DirAt → List ℕ
exclusive_since x c = unwrap_or (last_exclusive c.spot.above (queue_of x c.dir.down)) (taken_moment c)

-- a path is under another child of the bus above
abbrev pub is_beside : DirAt → List ℕ → Bool
is_beside c path = is_under c.spot.above path && (not (is_under (dir_path c) path) && nat_lt (length c.spot.above) (length path))

-- under the other children of the bus above each operation on the item is before that moment, and each copy ends before it
abbrev pub beside_op_is_before : ℕ → ItemTable → ℕ → DirAt → Op → Statement
beside_op_is_before depth items x c o =
    where_so (on_item items x o.effect)
    (where_so (is_beside c (op_path depth o)) (is_so (before (op_key depth o) (exclusive_since x c))))

abbrev pub beside_copy_ends : ℕ → DirAt → CopyAt → Statement
beside_copy_ends x c k = where_so (is_beside c k.place) (there_and (λ e. is_so (before e (exclusive_since x c))) k.end)

abbrev pub beside_ops_are_before : ℕ → ItemTable → List Op → ℕ → DirAt → Statement
beside_ops_are_before depth items ops x c = where_so (is_exclusive (dir_hold x c.dir)) (each (beside_op_is_before depth items x c) ops)

abbrev pub beside_copies_end : ℕ → List CopyAt → DirAt → Statement
beside_copies_end x copies c = where_so (is_exclusive (dir_hold x c.dir)) (each (beside_copy_ends x c) copies)

-- ---- 9: what is known of changes

-- an operation of another leaf of the leaf's bus that changes the item has a lesser key than the leaf's present one
abbrev pub knows_beside : ℕ → ItemTable → ℕ → LeafAt → Op → Statement
knows_beside depth items x a o =
    where_so (changes_item items x o.effect)
    (where_so (is_under a.spot.above (op_path depth o))
    (where_not (same_numbers (leaf_path a) (op_path depth o)) (is_so (less (op_key depth o) (leaf_now a)))))

abbrev pub leaf_knows_changes : ℕ → ItemTable → List Op → ℕ → LeafAt → Statement
leaf_knows_changes depth items ops x a = where_so (is_held (leaf_hold x a.leaf)) (each (knows_beside depth items x a) ops)

-- since when a directory over a copy knows of it: the copy's clock where it stands at the directory itself
abbrev pub known_until : CopyAt → DirAt → List ℕ
known_until k c = if same_numbers k.place (dir_path c) then k.clock else taken_moment c

-- at a directory over a copy: a change under another child of the bus above is known there, or the copy ended before it
abbrev pub beside_change_is_known : ℕ → ItemTable → ℕ → CopyAt → DirAt → Op → Statement
beside_change_is_known depth items x k c o =
    where_so (changes_item items x o.effect)
    (where_so (is_beside c (op_path depth o))
    (either (is_so (before (op_key depth o) (known_until k c))) (ended_before k (op_key depth o))))

abbrev pub dir_knows_changes : ℕ → ItemTable → List Op → ℕ → CopyAt → DirAt → Statement
dir_knows_changes depth items ops x k c = where_so (is_under (dir_path c) k.place) (each (beside_change_is_known depth items x k c) ops)
