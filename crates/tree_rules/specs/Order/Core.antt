-- The rules of order that tie a machine to a start: commands of down lists, words and claims of copies, clocks, reservations,
-- and the flat machine after the operations (rules 3, 7, 8 and 10 to 13).
-- To be believed where a rule is relied on; the order of the witness needs no reader here.
use Rattle.std.specs.Prelude.{ℕ, ◌-◌, Bool, true, false, ◌&&◌, nat_eq, nat_lt, nat_le, List, length, filter, Option}
use Rattle.std.specs.Prelude.{Some, None, is_none, Ok, Err}
use Rattle.tree_rules.specs.DdmTypes.declared.operations.HaltCause.{HaltCause}
use Rattle.tree_rules.specs.DdmTypes.declared.operations.HaltCause.TheVariants.{Exit, Illegal, Breakpoint}
use Rattle.tree_rules.specs.DdmTypes.declared.operations.HaltCause.TheVariants.{UnknownCall, MisalignedTarget}
use Rattle.tree_rules.specs.DdmTypes.declared.operations.HaltCause.TheVariants.{FetchOutside, MisalignedAccess}
use Rattle.tree_rules.specs.DdmTypes.declared.operations.HaltCause.TheVariants.{LoadOutside, StoreOutside}
use Rattle.tree_rules.specs.DdmTypes.declared.operations.Op.{Op}
use Rattle.tree_rules.specs.DdmTypes.Keys.{key_less}
use Rattle.tree_rules.specs.DdmTypes.ItemTable.{ItemTable}
use Rattle.tree_rules.specs.DdmTypes.CodeMap.{CodeWord}
use Rattle.tree_rules.specs.FlatModel.Hart.{HartValue}
use Rattle.tree_rules.specs.FlatModel.Flat.{FlatMachine, FlatStepped, flat_hart, flat_step, has_reserved}
use Rattle.tree_rules.specs.FlatModel.Legal.{on_item, changes_item, is_of, reservation}
use Rattle.tree_model.specs.State.States.{is_held}
use Rattle.tree_model.specs.State.Values.{DownValue}
use Rattle.tree_model.specs.State.Leaf.{leaf_hold}
use Rattle.tree_rules.specs.Statements.{Statement, is_so, both, either, where_so, where_not, if_there, there_and}
use Rattle.tree_rules.specs.Order.Moments.{less, less_at, moment_length, before, past, parted, is_under, same_numbers}
use Rattle.tree_rules.specs.Order.Places.{LeafAt, leaf_now, DirAt, taken_moment}
use Rattle.tree_rules.specs.Order.Copies.{CopyAt}
use Rattle.tree_rules.specs.Order.Claims.{ClaimAt}
use Rattle.tree_model.specs.Turns.Witness.{sorted_ops}
use Rattle.tree_rules.specs.Order.Ops.{op_key, op_path, op_count, words_where}
use Rattle.tree_rules.specs.Order.Time.{entry_moment, comes_later}

-- the end of a copy is past for a key
abbrev pub ended_before : CopyAt → List ℕ → Statement
ended_before k key = there_and (λ e. is_so (past e key)) k.end

-- ---- 10: a read, an erase or an inject has a greater stamp than the last that the directory's own bus took over

abbrev pub is_past_taken : DirAt → DownValue → Statement
is_past_taken c e = where_so (comes_later e.kind) (is_so (less (taken_moment c) (entry_moment c e)))

-- ---- 13: each hart's order

-- of one hart, an operation's key is less than that of a later one
abbrev pub is_in_own_order : Op → Op → Statement
is_in_own_order o p = where_so (is_of o.hart p) (is_so (key_less o.key p.key))

-- ---- 3: words

abbrev pub any_op : Op → Bool
any_op o = true

abbrev pub words_until : FlatMachine → ℕ → ItemTable → List Op → ℕ → Option (List ℕ) → List ℕ
words_until s depth items ops x None = words_where s items ops x any_op
words_until s depth items ops x (Some e) = words_where s items ops x (λ o. before (op_key depth o) e)

-- a copy has the words after all operations, or, where it has an end, after those before the end
abbrev pub has_right_words : FlatMachine → ℕ → ItemTable → List Op → ℕ → CopyAt → Statement
has_right_words s depth items ops x k = is_so (same_numbers k.words (words_until s depth items ops x k.end))

-- ---- 12: clocks

-- a change that isn't under the copy's place: on the bus where the paths part, the copy's clock is after it; or the copy ended
-- before it
abbrev pub knows_change : ℕ → ItemTable → ℕ → CopyAt → Op → Statement
knows_change depth items x k o =
    where_so (changes_item items x o.effect)
    (where_not (is_under k.place (op_path depth o))
    (either (is_so (less_at (moment_length (parted k.place (op_path depth o))) (op_key depth o) k.clock))
    (ended_before k (op_key depth o))))

-- ---- 11: claims

-- how many buses are above that of a claim's child
abbrev pub claim_level : ClaimAt → ℕ
claim_level t = length t.child - 1

-- this path is under another child of its bus
abbrev pub parts_at_claim : ClaimAt → List ℕ → Bool
parts_at_claim t place = nat_eq (parted t.child place) (claim_level t) && nat_lt (claim_level t) (length place)

-- a claim is after each operation on the item under another child of its bus
abbrev pub claim_is_after_op : ℕ → ItemTable → ℕ → ClaimAt → Op → Statement
claim_is_after_op depth items x t o =
    where_so (on_item items x o.effect)
    (where_so (parts_at_claim t (op_path depth o))
    (is_so (less_at (moment_length (claim_level t)) (op_key depth o) t.moment)))

-- a copy under another child of its bus has an end there, and the claim is after it
abbrev pub claim_is_after_end : ClaimAt → List ℕ → Statement
claim_is_after_end t e =
    both (is_so (nat_le (moment_length (claim_level t)) (length e)))
    (is_so (less_at (moment_length (claim_level t)) e t.moment))

abbrev pub claim_is_after_copy : ClaimAt → CopyAt → Statement
claim_is_after_copy t k = where_so (parts_at_claim t k.place) (there_and (claim_is_after_end t) k.end)

-- ---- 7: reservations

-- the item that a hart has reserved after the operations with keys less than this
abbrev pub reserved_until : FlatMachine → ℕ → ItemTable → List Op → ℕ → List ℕ → Option ℕ
reserved_until s depth items ops h now =
    reservation items h (flat_hart s h).reserved (filter (λ o. less (op_key depth o) now) (sorted_ops ops))

-- a leaf that has reserved an item has words of it, and the flat machine has it reserved for the leaf's hart at this moment
abbrev pub keeps_reserved : FlatMachine → ℕ → ItemTable → List Op → LeafAt → ℕ → Statement
keeps_reserved s depth items ops a x =
    both (is_so (is_held (leaf_hold x a.leaf)))
    (is_so (has_reserved (reserved_until s depth items ops a.leaf.number (leaf_now a)) x))

abbrev pub keeps_reservation : FlatMachine → ℕ → ItemTable → List Op → LeafAt → Statement
keeps_reservation s depth items ops a = if_there (keeps_reserved s depth items ops a) a.leaf.reservation

-- ---- 8: the flat machine after all operations, which is z

-- the same registers and pc, and no halt cause there
abbrev pub is_running_as : HartValue → HartValue → Statement
is_running_as h g = both (is_so (same_numbers g.registers h.registers)) (both (is_so (nat_eq g.pc h.pc)) (is_so (is_none g.halt)))

-- a leaf's hart is that of the flat machine, which hasn't halted
abbrev pub has_flat_hart : FlatMachine → LeafAt → Statement
has_flat_hart z a = is_running_as a.leaf.hart (flat_hart z a.leaf.number).hart

-- and has counted its operations
abbrev pub has_counted : List Op → LeafAt → Statement
has_counted ops a = is_so (nat_eq a.leaf.done (op_count a.leaf.number ops))

abbrev pub same_halt : HaltCause → HaltCause → Bool
same_halt (Exit a) (Exit b) = nat_eq a b
same_halt (Illegal a) (Illegal b) = nat_eq a b
same_halt Breakpoint Breakpoint = true
same_halt (UnknownCall a) (UnknownCall b) = nat_eq a b
same_halt (MisalignedTarget a) (MisalignedTarget b) = nat_eq a b
same_halt (FetchOutside a) (FetchOutside b) = nat_eq a b
same_halt (MisalignedAccess a) (MisalignedAccess b) = nat_eq a b
same_halt (LoadOutside a) (LoadOutside b) = nat_eq a b
same_halt (StoreOutside a) (StoreOutside b) = nat_eq a b
same_halt _ _ = false

abbrev pub halts_with : HaltCause → FlatStepped → Bool
halts_with cause (Ok x) = false
halts_with cause (Err other) = same_halt other cause

-- its next step there is this halt, whether or not an SC stores
abbrev pub halts_next : List CodeWord → ItemTable → FlatMachine → ℕ → HaltCause → Statement
halts_next code items z h cause =
    both (is_so (halts_with cause (flat_step code items z h true)))
    (is_so (halts_with cause (flat_step code items z h false)))

-- a hart that halted is one whose next step is that halt
abbrev pub halts_as_flat : List CodeWord → ItemTable → FlatMachine → LeafAt → Statement
halts_as_flat code items z a = if_there (halts_next code items z a.leaf.number) a.leaf.hart.halt
