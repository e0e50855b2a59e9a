-- A test of whether two machines are in one state: it compares all that they are but their time, and the bytes that their harts have
-- put out.
-- Letters: m and n are machines, a, b, c and d are values as a proof stores them.
use Rattle.std.specs.Prelude.{ℕ, Bool, true, false, ◌&&◌, nat_eq, List}
use Rattle.std.specs.Coded.{Coded, codes}
use base.Stored.{Gv, gnil, gnum, gcons}
use Rattle.state_keys.specs.DdmTypes.CodeMap.{CodeWord}
use Rattle.state_keys.specs.DdmTypes.ItemTable.{ItemTable}
use Rattle.state_keys.specs.TreeModel.declared.Traffic.{Traffic}
use Rattle.state_keys.specs.TreeModel.State.Codes.{stored_node}
use Rattle.state_keys.specs.TreeModel.State.Values.{MachineValue, root_of}
use Rattle.time_laws.specs.Forget.{forget, puts_of}

-- the code, the table of items, the tree as it is stored, the traffic, and what each hart has put out
pub data StateParts : Type 0 where
  state_parts : List CodeWord → ItemTable → Gv → List Traffic → List (List ℕ) → StateParts

pub parts_code : Coded StateParts
parts_code = hlevel codes

abbrev pub stored_state : MachineValue → Gv
stored_state m =
    parts_code.code (state_parts (forget m).code (forget m).items (stored_node (root_of (forget m)))
    (forget m).traffic (puts_of m))

abbrev pub same_stored : Gv → Gv → Bool
same_stored gnil gnil = true
same_stored gnil (gnum b) = false
same_stored gnil (gcons b d) = false
same_stored (gnum a) gnil = false
same_stored (gnum a) (gnum b) = nat_eq a b
same_stored (gnum a) (gcons b d) = false
same_stored (gcons a c) gnil = false
same_stored (gcons a c) (gnum b) = false
same_stored (gcons a c) (gcons b d) = same_stored a b && same_stored c d

unfoldable pub same_state : MachineValue → MachineValue → Bool
same_state m n = same_stored (stored_state m) (stored_state n)
