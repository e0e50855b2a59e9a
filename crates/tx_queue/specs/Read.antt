-- The entries of lists as what is read of a checkpoint has them.
-- To be believed: contracts of code speak of it.
use Rattle.std.specs.Prelude.{ℕ, List}
use Rattle.tx_queue.specs.DdmTypes.declared.answers.TxKind.{TxKind}
use Rattle.tx_queue.specs.TreeModel.State.Values.{RequestValue, CopyValue}

abbrev pub request_value : TxKind × ℕ → RequestValue
request_value r = record { kind = r.0; item = r.1 }

abbrev pub copy_value : ℕ × List ℕ → CopyValue
copy_value c = record { item = c.0; words = c.1 }
