-- The rules of order that need no start: the keys of operations, and the stamps of down lists (rules 1 and 2).
-- To be believed where a rule is relied on; the order of the witness needs no reader here.
use Rattle.std.specs.Prelude.{ℕ, ◌*◌, Bool, true, false, nat_eq, List, ◌∷◌, [], drop, length}
use Rattle.std.specs.List.{list_any}
use Rattle.tree_rules.specs.DdmTypes.declared.answers.TxKind.{TxKind}
use Rattle.tree_rules.specs.DdmTypes.declared.answers.TxKind.TheVariants.{ReadTx, DataTx, EraseTx, ExclusiveTx, InjectTx, OutTx}
use Rattle.tree_rules.specs.DdmTypes.declared.keys.Stamp.{Stamp}
use Rattle.tree_rules.specs.DdmTypes.declared.keys.Key.{Key}
use Rattle.tree_rules.specs.DdmTypes.declared.operations.Op.{Op}
use Rattle.tree_rules.specs.DdmTypes.Keys.{stamp_numbers, key_less}
use Rattle.tree_model.specs.State.Values.{DownValue}
use Rattle.tree_rules.specs.Bus.Own.{are_zero}
use Rattle.tree_rules.specs.Statements.{Statement, is_so, is_not, both, either, where_so}
use Rattle.tree_rules.specs.Order.Moments.{less, moment_at, same_numbers}
use Rattle.tree_rules.specs.Order.Places.{LeafAt, leaf_path, leaf_now, DirAt, dir_path, taken_moment, present_moment}
use Rattle.tree_rules.specs.Order.Ops.{op_key, op_path}

-- ---- 1: keys

abbrev pub keys_differ : Op → Op → Statement
keys_differ o p = either (is_so (key_less o.key p.key)) (is_so (key_less p.key o.key))

abbrev pub is_leaf_of : Op → LeafAt → Bool
is_leaf_of o a = nat_eq o.hart a.leaf.number

-- there is a leaf of the operation's hart
abbrev pub has_leaf : List LeafAt → Op → Statement
has_leaf leaves o = is_so (list_any (is_leaf_of o) leaves)

-- the numbers of levels that the tree doesn't have are 0
abbrev pub key_ends : ℕ → Key → Bool
key_ends depth k = are_zero (drop (2 * depth) (k.s0 ∷ k.c0 ∷ k.s1 ∷ k.c1 ∷ k.s2 ∷ k.c2 ∷ k.s3 ∷ k.c3 ∷ []))

abbrev pub has_ending_key : ℕ → Op → Statement
has_ending_key depth o = is_so (key_ends depth o.key)

-- its key has the path of its leaf
abbrev pub has_leaf_path : ℕ → Op → LeafAt → Statement
has_leaf_path depth o a = where_so (is_leaf_of o a) (is_so (same_numbers (op_path depth o) (leaf_path a)))

-- and is less than the leaf's present one
abbrev pub is_before_now : ℕ → Op → LeafAt → Statement
is_before_now depth o a = where_so (is_leaf_of o a) (is_so (less (op_key depth o) (leaf_now a)))

-- ---- 2: stamps of down lists

-- the stamp of an entry of a directory's down list, as a moment on the bus above it
abbrev pub entry_moment : DirAt → DownValue → List ℕ
entry_moment c e = moment_at c.spot.above e.stamp

-- a kind whose stamp is greater than that of any entry before it
abbrev pub comes_later : TxKind → Bool
comes_later ReadTx = true
comes_later EraseTx = true
comes_later InjectTx = true
comes_later DataTx = false
comes_later ExclusiveTx = false
comes_later OutTx = false

-- a directory's own bus hasn't taken over a stamp past the present one above
abbrev pub takes_past : DirAt → Statement
takes_past c = is_not (less (present_moment c) (taken_moment c))

abbrev pub lies_between : DirAt → DownValue → Statement
lies_between c e = both (is_not (less (entry_moment c e) (taken_moment c))) (is_not (less (present_moment c) (entry_moment c e)))

-- an entry that stands behind another has no lesser stamp, and that of a read, an erase or an inject is greater
abbrev pub may_stand_behind : DirAt → DownValue → DownValue → Statement
may_stand_behind c e f =
    both (is_not (less (entry_moment c f) (entry_moment c e)))
    (where_so (comes_later f.kind) (is_so (less (entry_moment c e) (entry_moment c f))))

-- the numbers of a stamp from this level on are 0
abbrev pub stamp_ends : ℕ → Stamp → Bool
stamp_ends level stamp = are_zero (drop level (stamp_numbers 3 stamp))

-- stamps have numbers for the levels above the directory's own bus alone
abbrev pub entry_ends : DirAt → DownValue → Statement
entry_ends c e = is_so (stamp_ends (length (dir_path c)) e.stamp)

abbrev pub epoch_ends : DirAt → Statement
epoch_ends c = is_so (stamp_ends (length (dir_path c)) c.dir.epoch)
