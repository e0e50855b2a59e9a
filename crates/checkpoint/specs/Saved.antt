-- The bytes of a checkpoint of a machine, after turns that came to these counts.
-- To be believed: it is the written format.
use Rattle.std.specs.Prelude.{ℕ, List}
use Rattle.checkpoint.specs.TreeModel.State.Values.{MachineValue}
use Rattle.checkpoint.specs.TextModel.declared.RunCounts.{RunCounts}
use Rattle.checkpoint.specs.StateWords.Machine.{checkpoint_bytes}

abbrev pub saved : MachineValue → RunCounts → List ℕ
saved m c = checkpoint_bytes m c.turns c.retired c.granted c.busy
