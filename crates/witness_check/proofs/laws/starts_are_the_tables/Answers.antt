use Rattle.std.proofs.Common.{refl}
use Rattle.witness_check.specs.TreeModel.Start.Memory.{start_items, start_words}
use Rattle.start_memory.specs.Memory.{memory_items, memory_words}
use Rattle.witness_check.proofs.Starts.{start_refusal-tables}
use Rattle.witness_check.proofs.laws.starts_are_the_tables.Goals as goal

pub returns-clause-items : goal.returns-clause-items
unfolding start_items memory_items
returns-clause-items c t i = refl

pub returns-clause-machine : goal.returns-clause-machine
unfolding start_items start_words memory_items memory_words
returns-clause-machine c t i = refl

pub returns-clause-refusal : goal.returns-clause-refusal
returns-clause-refusal c = start_refusal-tables
