-- States that the rules of a bus refuse, each beside one that differs little and is kept; and for each rule that is easily
-- forgotten a state that breaks it alone.
use Rattle.std.specs.Prelude.{◌≡◌, ℕ, zero, suc, ◌+◌, Bool, true, false, not, List, [], ◌∷◌, map, replicate, reverse, Some, None}
use Rattle.tree_rules.specs.DdmTypes.declared.answers.TxKind.{TxKind}
use Rattle.tree_rules.specs.DdmTypes.declared.answers.TxKind.TheVariants.{ReadTx, DataTx, ExclusiveTx}
use Rattle.tree_rules.specs.DdmTypes.declared.sizes.Hold.{Hold}
use Rattle.tree_rules.specs.DdmTypes.declared.sizes.LeafState.{LeafState}
use Rattle.tree_rules.specs.DdmTypes.declared.turns.Turn.{Turn}
use Rattle.tree_rules.specs.DdmTypes.Keys.{stamp_zero}
use Rattle.tree_rules.specs.DdmTypes.declared.operations.HaltCause.{HaltCause}
use Rattle.tree_rules.specs.FlatModel.Flat.{FlatMachine, FlatHart}
use Rattle.tree_model.specs.State.Lists.{has_some}
use Rattle.tree_model.specs.State.Values.{Note, no_note, local, up_read, up_erase, LeafValue, DirValue, Node, dir_node, nodes, MachineValue}
use Rattle.tree_model.specs.State.Shape.{shape_test, shape_rules, frame_of}
use Rattle.tree_model.specs.Turns.Machine.{no_traffic, turn_of}
use Rattle.tree_rules.specs.Statements.{test_of}
use Rattle.tree_rules.specs.Bus.Faces.{ChildFace, ParentFace, parent_face, faces_of}
use Rattle.tree_rules.specs.Bus.Own.{leaf_test, leaf_rules, top_test, top_rules}
use Rattle.tree_rules.specs.Bus.Item.{implies, asked_below, bits_of, item_test, item_rules}
use Rattle.tree_rules.specs.Bus.Rules.{bus_holds}
use Rattle.tree_rules.specs.Order.Rules.{core_rule, core_rules, is_timed, is_written}
use Rattle.tree_rules.specs.Examples.{two_writers_flat, two_writers_start, two_writers_after}
use Rattle.tree_rules.specs.Small.{all_but, entry, leaf_sizes, leaf_value, leaf_with, dir_value, dir_with, machine}

-- ---- a reply that two wait for

-- leaf 0 reads, and leaf 1 holds the item Shared and has it in its replies
abbrev pub reader_and_giver : List Node
reader_and_giver =
    leaf_with 0 (entry LeafState.Reading 0) []
    ∷ leaf_with 1 (entry LeafState.Shared 5) (record { item = 0; words = 5 ∷ [] } ∷ []) ∷ []

-- the parent notes leaf 0's read, and is answering besides
abbrev pub noted_and_answering : DirValue
noted_and_answering = dir_with Hold.Shared (local 0 0) true

abbrev pub tests_of : ParentFace → List ChildFace → List Bool
tests_of p cs = map (λ r. item_test r p (bits_of p cs)) item_rules

pub record AskedTwice : Type 0 where
  -- one rule alone refuses it: the note is Local although a child was asked for the parent
  pub alone : tests_of (parent_face 0 noted_and_answering) (faces_of 0 reader_and_giver) ≡ all_but 21 25
  pub refused : bus_holds 1 noted_and_answering reader_and_giver ≡ false
  -- the same rule without the words on the note would let it pass
  pub without : implies (asked_below (parent_face 0 noted_and_answering)) (not (has_some (parent_face 0 noted_and_answering).queue)) ≡ true
  -- where the parent isn't answering all rules hold
  pub kept : bus_holds 1 (dir_with Hold.Shared (local 0 0) false) reader_and_giver ≡ true

-- ---- exclusive children

pub record ExclusiveChildren : Type 0 where
  pub two :
      bus_holds 1 (dir_with Hold.Exclusive no_note false)
      (leaf_with 0 (entry LeafState.Exclusive 5) [] ∷ leaf_with 1 (entry LeafState.Exclusive 5) [] ∷ [])
      ≡ false
  pub one :
      bus_holds 1 (dir_with Hold.Exclusive no_note false)
      (leaf_with 0 (entry LeafState.Exclusive 5) [] ∷ leaf_with 1 None [] ∷ [])
      ≡ true
  -- under a parent that holds the item Shared
  pub uncovered :
      bus_holds 1 (dir_with Hold.Shared no_note false)
      (leaf_with 0 (entry LeafState.Exclusive 5) [] ∷ leaf_with 1 None [] ∷ [])
      ≡ false
  -- a child that waits for data which nobody was asked for
  pub unnoted :
      bus_holds 1 (dir_with Hold.Invalid no_note false)
      (leaf_with 0 (entry LeafState.Reading 0) [] ∷ leaf_with 1 None [] ∷ [])
      ≡ false

-- ---- faces

abbrev pub parent : Hold → Note → List TxKind → List TxKind → ParentFace
parent hold note queue requests = record { hold = hold; note = note; answering = false; queue = queue; requests = requests; parked = false }

abbrev pub child : Hold → Bool → Bool → ℕ → ChildFace
child hold reads erases replies = record { hold = hold; reads = reads; erases = erases; replies = replies; answers = false }

pub record FacesRefused : Type 0 where
  -- a child with a granted read that holds the item
  pub reads_and_holds :
      tests_of (parent Hold.Shared (local 0 0) [] [])
      (child Hold.Shared true false 0 ∷ child Hold.Shared false false 1 ∷ [])
      ≡ all_but 16 25
  -- two exclusives come down
  pub two_exclusives :
      tests_of (parent Hold.Exclusive (up_erase 0) (ExclusiveTx ∷ ExclusiveTx ∷ []) [])
      (child Hold.Shared false true 0 ∷ [])
      ≡ all_but 4 25
  -- a read is asked for twice
  pub two_requests :
      tests_of (parent Hold.Invalid (up_read 0 0) [] (ReadTx ∷ ReadTx ∷ []))
      (child Hold.Invalid true false 0 ∷ [])
      ≡ all_but 22 25
  -- data is asked for
  pub data_asked : tests_of (parent Hold.Invalid (up_read 0 0) [] (DataTx ∷ [])) (child Hold.Invalid true false 0 ∷ []) ≡ all_but 22 25

-- ---- a leaf and the top by themselves

abbrev pub leaf_tests : ℕ → LeafValue → List Bool
leaf_tests n v = map (λ r. leaf_test r n v) leaf_rules

abbrev pub without_ways : LeafValue
without_ways = record (leaf_value 0 0 0 None []) { sizes = record leaf_sizes { way_count = 0 } }

-- two entries of which each waits
abbrev pub waiting_twice : LeafValue
waiting_twice =
    record (leaf_value 0 0 0 None []) {
      sizes = record leaf_sizes { way_count = 2 };
      ways = entry LeafState.Reading 0 ∷ Some (record { way = 1; state = LeafState.Waiting; words = 5 ∷ [] })
          ∷ [];
    }

-- an exclusive that comes down to the top with a stamp
abbrev pub stamped_top : DirValue
stamped_top =
    dir_value 0 0 Hold.Exclusive (up_erase 0) false
    (record { kind = ExclusiveTx; item = 0; words = 0 ∷ []; stamp = record stamp_zero { s0 = 1 } } ∷ [])
    stamp_zero 9

pub record OwnRefused : Type 0 where
  pub no_way : leaf_tests 1 without_ways ≡ all_but 0 10
  pub waits_twice : leaf_tests 2 waiting_twice ≡ all_but 6 10
  pub top_stamp : map (λ r. top_test r stamped_top) top_rules ≡ all_but 8 9

-- ---- shapes

abbrev pub shape_tests : MachineValue → List Bool
shape_tests m = map (λ r. shape_test r (frame_of m)) shape_rules

-- so many leaves on the top's bus, with this number first
abbrev pub leaves_from : ℕ → ℕ → List Node
leaves_from number zero = []
leaves_from number (suc count) = leaf_with number None [] ∷ leaves_from (number + 1) count

-- the machine of these children of the top, with this many buses
abbrev pub machine_of : ℕ → List Node → MachineValue
machine_of buses kids = record (machine kids []) { traffic = replicate buses no_traffic }

-- a leaf under a bus of this number and level and those below it, of one child each
abbrev pub chain : ℕ → ℕ → List Node
chain level zero = leaf_with 0 None [] ∷ []
chain level (suc count) = dir_node (dir_value level level Hold.Invalid no_note false [] stamp_zero 0) (nodes (chain (level + 1) count)) ∷ []

pub record ShapesRefused : Type 0 where
  pub kept : shape_tests (machine_of 4 (chain 1 3)) ≡ replicate 6 true
  pub five_levels : shape_tests (machine_of 5 (chain 1 4)) ≡ all_but 0 6
  pub no_child : shape_tests (machine_of 1 []) ≡ all_but 1 6
  pub sixteen_children : shape_tests (machine_of 1 (leaves_from 0 16)) ≡ replicate 6 true
  pub seventeen_children : shape_tests (machine_of 1 (leaves_from 0 17)) ≡ all_but 1 6
  pub traffic_missing : shape_tests (machine_of 0 (leaves_from 0 1)) ≡ all_but 3 6
  pub odd_address :
      shape_tests (record (machine_of 1 (leaves_from 0 1))
      { items = record { size = 4; rows = record { address = 2; writable = true } ∷ [] } })
      ≡ all_but 5 6

-- ---- order

abbrev pub core_tests : FlatMachine → MachineValue → List Bool
core_tests s m = map (λ r. test_of (core_rule r s m)) core_rules

-- after the two writers have completed their first instructions, with the operations in another order
abbrev pub turned_round : MachineValue
turned_round = let m = two_writers_after 6 in record m { ops = reverse m.ops }

-- a start whose harts have the registers and the pc of the machine's, and have halted
abbrev pub halted_hart : FlatHart → FlatHart
halted_hart g = record g { hart = record g.hart { halt = Some HaltCause.Breakpoint } }

abbrev pub halted_start : FlatMachine
halted_start = record two_writers_flat { harts = map halted_hart two_writers_flat.harts }

pub record OrderRefused : Type 0 where
  -- of one hart, later operations with lesser keys: that rule alone refuses them
  pub turned_time : is_timed turned_round ≡ true
  pub turned_core : core_tests two_writers_flat turned_round ≡ all_but 6 7
  pub turned_written : is_written turned_round ≡ true
  -- a flat hart that has halted beside one that goes on
  pub halted_core : core_tests halted_start two_writers_start ≡ all_but 3 7
  -- its next operation isn't legal
  pub halted_next :
      core_tests halted_start (turn_of (Turn.Hart 0 0) two_writers_start).machine
      ≡ true ∷ true ∷ false ∷ false ∷ true ∷ true ∷ true ∷ []
