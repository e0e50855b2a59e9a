-- The rule of commands, by itself: it needs no start.
-- To be believed with the laws: it is what they speak of.
use Rattle.order_lists.specs.TreeModel.State.Values.{MachineValue}
use Rattle.tree_rules.specs.Statements.{Holds, each}
use Rattle.tree_rules.specs.Order.Places.{dirs_at}
use Rattle.tree_rules.specs.Order.Core.{is_past_taken}

-- a read, an erase or an inject in a down list has a greater stamp than the last that the directory's own bus took over
abbrev pub CommandsArePastTaken : MachineValue → Type 0
CommandsArePastTaken m = Holds (each (λ c. each (is_past_taken c) c.dir.down) (dirs_at m))
