-- The film of a run: the machine, its still before the first turn, what each turn answers and changes in the still, and the report.
-- Letters: m is a machine, t a turn.
-- To be believed: it is the written format.
use Rattle.std.specs.Prelude.{ℕ, ◌+◌, Bool, List, [], ◌∷◌, ◌++◌, length, flat_map, codes, if◌then◌else◌}
use Rattle.film_model.specs.DdmText.Hex.{hex8}
use Rattle.film_model.specs.DdmTypes.declared.sizes.TreeSizes.{TreeSizes}
use Rattle.film_model.specs.DdmTypes.declared.turns.Turn.{Turn}
use Rattle.film_model.specs.DdmTypes.ItemTable.{ItemRow}
use Rattle.film_model.specs.TreeModel.State.Values.{MachineValue}
use Rattle.film_model.specs.TreeModel.Start.Sources.{TreeValue, bus_widths}
use Rattle.film_model.specs.TreeModel.Turns.Machine.{turn_of}
use Rattle.text_model.specs.Trace.{trace_line}
use Rattle.text_model.specs.Run.{report_text_of}
use Rattle.film_model.specs.Part.{number_text, valued, changed}
use Rattle.film_model.specs.Still.{still}

-- ---- the head: what no turn changes

-- the number of levels, and of each bus by number how many children it has
unfoldable pub tree_line : TreeValue → List ℕ
tree_line tree = codes "tree" ++ number_text (length tree.levels) ++ flat_map number_text (bus_widths tree) ++ codes "\n"

-- the numbers of a tree file in the order of its keys
abbrev size_numbers : ℕ → TreeSizes → ℕ → List ℕ
size_numbers ways s item_bytes = ways ∷ s.sets ∷ s.buffer ∷ s.parking ∷ s.down ∷ s.requests ∷ s.replies ∷ item_bytes ∷ []

unfoldable pub sizes_line : TreeValue → List ℕ
sizes_line tree = codes "sizes" ++ flat_map number_text (size_numbers tree.way_count tree.sizes tree.item_bytes) ++ codes "\n"

-- `w` for one that may be written
unfoldable pub writable_text : Bool → List ℕ
writable_text writable = if writable then codes " w" else []

unfoldable pub item_line : ℕ → ItemRow → List ℕ
item_line x row = codes "item" ++ number_text x ++ codes " " ++ hex8 row.address ++ writable_text row.writable ++ codes "\n"

-- of items from a number on
unfoldable pub item_lines : ℕ → List ItemRow → List ℕ
item_lines x [] = []
item_lines x (row ∷ rows) = item_line x row ++ item_lines (x + 1) rows

unfoldable pub head_of : TreeValue → MachineValue → List ℕ
head_of tree m = codes "film 1\n" ++ tree_line tree ++ sizes_line tree ++ item_lines 0 m.items.rows

-- ---- turns

-- the line of the trace, and the parts that are different after it
unfoldable pub turn_film : ℕ → Turn → MachineValue → List ℕ
turn_film number t m = let now = turn_of t m in trace_line number t now.answer ++ changed (still m) (still now.machine)

-- of turns from a number on
unfoldable pub turns_film : ℕ → List Turn → MachineValue → List ℕ
turns_film number [] m = []
turns_film number (t ∷ ts) m = turn_film number t m ++ turns_film (number + 1) ts (turn_of t m).machine

-- ---- the whole, of a machine of the tree

unfoldable pub film_of : TreeValue → List Turn → MachineValue → List ℕ
film_of tree turns m = head_of tree m ++ valued (still m) ++ turns_film 0 turns m ++ report_text_of (length tree.levels) turns m
