-- What the top's value is of the parts that keep it, and what these have to be.
-- To be believed: contracts of code speak of it.
use Rattle.std.specs.Prelude.{◌≡◌, ℕ, ◌<◌, ◌^◌, List, []}
use Rattle.top_node.specs.DdmTypes.Keys.{stamp_zero}
use Rattle.top_node.specs.TreeModel.State.Values.{DownValue, DirItem, DirValue}
use Rattle.top_node.specs.TreeModel.Start.Nodes.{top_sizes}

-- the top with this of each item, this down list and its room, and so many grants
abbrev pub top_value : ℕ → List DirItem → List DownValue → ℕ → ℕ → DirValue
top_value width items down room count = record {
  bus = 0;
  level = 0;
  sizes = top_sizes room width;
  items = items;
  down = down;
  requests = [];
  replies = [];
  parked = [];
  reserved = 0;
  count = count;
  epoch = stamp_zero;
}

-- its down list is of the items that there are, which a word can count
pub record IsTop (width items down_items : ℕ) : Type 0 where
  pub words_fit : width < 2 ^ 32
  pub few : items < 2 ^ 32
  pub down : down_items ≡ items
