-- The still of a machine: all that it has at one moment, part by part. Two states of one machine have the same keys in the same
-- order.
-- Letters: m is a machine, x an item.
-- To be believed: it is the written format.
use Rattle.std.specs.Prelude.{ℕ, List, [], ◌++◌, length, flat_map, map, Option, Some, None, codes}
use Rattle.std.specs.List.{range_with_len}
use Rattle.film_model.specs.DdmTypes.ItemTable.{item_count}
use Rattle.film_model.specs.TreeModel.declared.CopyPlace.{CopyPlace}
use Rattle.film_model.specs.TreeModel.declared.CopyPlace.TheVariants.{LeafWay, LeafBuffer, Parking, DownList}
use Rattle.film_model.specs.TreeModel.State.Values.{MachineValue}
use Rattle.film_model.specs.TreeModel.Turns.Machine.{ask_bus, machine_leaves}
use Rattle.film_model.specs.TreeModel.Turns.Found.{found_place}
use Rattle.film_model.specs.Part.{Part, key_of, number_text}
use Rattle.film_model.specs.Leaf.{leaf_parts}
use Rattle.film_model.specs.Directory.{dir_parts}

-- ---- buses

abbrev pub parts_or_none : Option (List Part) → List Part
parts_or_none None = []
parts_or_none (Some parts) = parts

-- of the directory over the bus of this number
unfoldable pub bus_parts : MachineValue → ℕ → List Part
bus_parts m bus = parts_or_none (ask_bus bus (λ w d ns. dir_parts (length ns) d) [] m)

-- ---- where the current copies are

-- without the place in the leaf or in the list, which moves when other items do
unfoldable pub place_text : Option CopyPlace → List ℕ
place_text None = []
place_text (Some (LeafWay leaf way)) = codes " leaf" ++ number_text leaf
place_text (Some (LeafBuffer leaf place)) = codes " leaf" ++ number_text leaf
place_text (Some (Parking bus place)) = codes " bus" ++ number_text bus ++ codes " parking"
place_text (Some (DownList bus place)) = codes " bus" ++ number_text bus ++ codes " down"

unfoldable pub place_part : MachineValue → ℕ → Part
place_part m x = record { key = key_of (codes "copy") x; value = place_text (found_place x m) }

-- ---- the whole: leaves from left to right, buses and items by number

unfoldable pub still : MachineValue → List Part
still m =
    flat_map leaf_parts (machine_leaves m) ++ flat_map (bus_parts m) (range_with_len 0 (length m.traffic))
    ++ map (place_part m) (range_with_len 0 (item_count m.items))
