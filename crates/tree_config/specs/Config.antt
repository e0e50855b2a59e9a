-- A tree's value, from the fields of a `TreeConfig`.
use Rattle.tree_model.specs.Start.Sources.{TreeValue}
use Rattle.tree_config.specs.declared.config.TreeConfig.TheInside.{Inside}

abbrev pub value_of : Inside → TreeValue
value_of c = record {
  levels = c.nodes;
  way_count = c.ways;
  sizes = record { sets = c.sets; buffer = c.buffer; parking = c.parking; down = c.down; requests = c.requests; replies = c.replies };
  stack_base = c.stack_base;
  stack_bytes = c.stack_bytes;
  item_bytes = c.item_bytes;
}
