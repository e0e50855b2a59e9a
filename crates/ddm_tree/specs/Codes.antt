-- How a proof stores a machine: as the tree under the top, and the rest beside it.
use Rattle.std.specs.Prelude.{◌≡◌, ℕ, List, refl}
use Rattle.std.proofs.Common.{ap}
use Rattle.std.specs.Coded.{Coded, codes}
use base.Stored.{Gv}
use Rattle.ddm_tree.specs.DdmTypes.declared.operations.Op.{Op}
use Rattle.ddm_tree.specs.DdmTypes.ItemTable.{ItemTable}
use Rattle.ddm_tree.specs.DdmTypes.CodeMap.{CodeWord}
use Rattle.ddm_tree.specs.TreeModel.declared.Traffic.{Traffic}
use Rattle.ddm_tree.specs.TreeModel.State.Values.{DirValue, Nodes, dir_node, root_of, MachineValue}
use Rattle.ddm_tree.specs.TreeModel.State.Codes.{stored_node, stored_node-injective}
use Rattle.ddm_tree.specs.Machine.{MachineState}

-- the tree as it is stored
pub data MachineParts : Type 0 where
  machine_parts : Gv → List CodeWord → ItemTable → List Op → List Traffic → ℕ → ℕ → MachineParts

pub parts_code : Coded MachineParts
parts_code = hlevel codes

abbrev pub stored_machine : MachineState → Gv
stored_machine s =
    parts_code.code (machine_parts (stored_node (root_of s.machine)) s.machine.code s.machine.items s.machine.ops
    s.machine.traffic s.spare s.turns)

-- a machine of its parts
abbrev made_of : List CodeWord → ItemTable → DirValue → Nodes → List Op → List Traffic → ℕ → ℕ → MachineState
made_of code items top kids ops traffic spare turns = record {
  machine = record { code = code; items = items; top = top; kids = kids; ops = ops; traffic = traffic };
  spare = spare;
  turns = turns;
}

same_parts : (a b : List CodeWord) (c d : ItemTable) (e f : DirValue) (g h : Nodes) (i j : List Op) (k l : List Traffic) (m n o p : ℕ)
    → a ≡ b → c ≡ d → e ≡ f → g ≡ h → i ≡ j → k ≡ l → m ≡ n → o ≡ p → made_of a c e g i k m o ≡ made_of b d f h j l n p
same_parts a b c d e f g h i j k l m n o p code items top kids ops traffic spare turns =
    rw (code, items, top, kids, ops, traffic, spare, turns) refl

top_same : (d e : DirValue) (ns ms : Nodes) → dir_node d ns ≡ dir_node e ms → d ≡ e
top_same d e ns ms same = cc

kids_same : (d e : DirValue) (ns ms : Nodes) → dir_node d ns ≡ dir_node e ms → ns ≡ ms
kids_same d e ns ms same = cc

-- machines that are stored alike are equal
pub stored_machine-injective : (x y : MachineState) → stored_machine x ≡ stored_machine y → x ≡ y
stored_machine-injective x y e =
    let parts = parts_code.inj _ _ e in
    let tree : stored_node (root_of x.machine) ≡ stored_node (root_of y.machine) = cc in
    let root = stored_node-injective (root_of x.machine) (root_of y.machine) tree in
    let top = top_same x.machine.top y.machine.top x.machine.kids y.machine.kids root in
    let kids = kids_same x.machine.top y.machine.top x.machine.kids y.machine.kids root in
    let code : x.machine.code ≡ y.machine.code = cc in
    let items : x.machine.items ≡ y.machine.items = cc in
    let ops : x.machine.ops ≡ y.machine.ops = cc in
    let traffic : x.machine.traffic ≡ y.machine.traffic = cc in
    let spare : x.spare ≡ y.spare = cc in
    let turns : x.turns ≡ y.turns = cc in
    same_parts x.machine.code y.machine.code x.machine.items y.machine.items x.machine.top y.machine.top x.machine.kids y.machine.kids
    x.machine.ops y.machine.ops x.machine.traffic y.machine.traffic x.spare y.spare x.turns y.turns
    code items top kids ops traffic spare turns

abbrev pub machine_code : Coded MachineState
machine_code = record { code = stored_machine; inj = stored_machine-injective }

-- the tables' machine alone
abbrev pub alone : MachineValue → MachineState
alone m = record { machine = m; spare = 0; turns = 0 }

abbrev pub stored_value : MachineValue → Gv
stored_value m = stored_machine (alone m)

pub stored_value-injective : (x y : MachineValue) → stored_value x ≡ stored_value y → x ≡ y
stored_value-injective x y e = ap (λ (s : MachineState). s.machine) (stored_machine-injective (alone x) (alone y) e)

abbrev pub value_code : Coded MachineValue
value_code = record { code = stored_value; inj = stored_value-injective }
