-- What the start of a machine needs of its tree.
-- To be believed where a rule is relied on; the order of the witness needs no reader here.
use Rattle.std.specs.Prelude.{◌≡◌, ℕ, ◌<◌, ◌≤◌, Bool, ◌&&◌, nat_le, List, [], ◌∷◌, length, sum, IsTrue}
use Rattle.std.specs.List.{list_all}
use Rattle.bus_laws.specs.DdmTypes.ItemTable.{IsItemSize}
use Rattle.bus_laws.specs.TreeModel.Start.Sources.{TreeValue, bus_widths}

-- a number of children that a bus may have
abbrev pub is_width : ℕ → Bool
is_width n = nat_le 1 n && nat_le n 16

-- the first level has this many buses, and each next one as many as the level above it has children
abbrev pub AreUnder : ℕ → List (List ℕ) → Type 0
AreUnder n [] = Unit {0}
AreUnder n (l ∷ ls) = (length l ≡ n) × AreUnder (sum l) ls

pub record IsTree (t : TreeValue) : Type 0 where
  -- one to four levels of buses, the first of them one bus, and each of 1 to 16 children
  pub some : 1 ≤ length t.levels
  pub depth : length t.levels ≤ 4
  pub under : AreUnder 1 t.levels
  pub widths : IsTrue (list_all is_width (bus_widths t))
  -- a leaf has a set, with a way in it
  pub sets : 0 < t.sizes.sets
  pub ways : 0 < t.way_count
  -- items are of whole words
  pub item_bytes : IsItemSize t.item_bytes
