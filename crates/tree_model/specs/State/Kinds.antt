-- The kinds of transactions. Source: the transactions of the DDM protocol.
-- To be believed: it is what the machine is.
use Rattle.std.specs.Prelude.{ℕ, Bool, true, false, List, nat_eq}
use Rattle.std.specs.List.{list_any}
use Rattle.tree_model.specs.DdmTypes.declared.answers.TxKind.{TxKind}

abbrev pub kind_number : TxKind → ℕ
kind_number TxKind.ReadTx = 1
kind_number TxKind.DataTx = 2
kind_number TxKind.EraseTx = 3
kind_number TxKind.ExclusiveTx = 4
kind_number TxKind.InjectTx = 5
kind_number TxKind.OutTx = 6

abbrev pub is_kind : TxKind → TxKind → Bool
is_kind a b = nat_eq (kind_number a) (kind_number b)

abbrev pub has_kind : TxKind → List TxKind → Bool
has_kind kind ks = list_any (is_kind kind) ks

-- an entry of this kind brings a copy down
abbrev pub brings_copy : TxKind → Bool
brings_copy TxKind.ReadTx = false
brings_copy TxKind.DataTx = true
brings_copy TxKind.EraseTx = false
brings_copy TxKind.ExclusiveTx = false
brings_copy TxKind.InjectTx = true
brings_copy TxKind.OutTx = false

-- a kind that is asked for
abbrev pub goes_up : TxKind → Bool
goes_up TxKind.ReadTx = true
goes_up TxKind.DataTx = false
goes_up TxKind.EraseTx = true
goes_up TxKind.ExclusiveTx = false
goes_up TxKind.InjectTx = false
goes_up TxKind.OutTx = false
