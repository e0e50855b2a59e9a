use Rattle.std.proofs.Common.{◌≡◌, map}
use Rattle.split_bus.specs.TreeModel.Turns.Children.{reader_takes}
use Rattle.split_bus.specs.Children.{note_of_readers}
use Rattle.split_bus.proofs.Loops.{map_first}
use Rattle.split_bus.proofs.told.take_data.Given as goal

abbrev pub invariant-loop-i : goal.invariant-loop-i
invariant-loop-i g l =
    map g.C.Agent.value l.children ≡ map_first (reader_takes (note_of_readers l.readers) l.item l.words l.stamp) l.i 0 (map g.C.Agent.value l.initial.children)
