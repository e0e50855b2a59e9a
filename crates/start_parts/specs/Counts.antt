-- How many leaves, buses and levels of buses a tree has.
-- To be believed with the contracts: they speak of it.
use Rattle.std.specs.Prelude.{length}
use Rattle.start_parts.specs.DdmTypes.declared.sizes.TreeCounts.{TreeCounts}
use Rattle.start_parts.specs.TreeModel.Start.Sources.{TreeValue, leaf_count, bus_widths}

abbrev pub counts_of : TreeValue → TreeCounts
counts_of t = record { leaves = leaf_count t; buses = length (bus_widths t); depth = length t.levels }
