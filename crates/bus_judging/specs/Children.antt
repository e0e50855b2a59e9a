-- What the rules of a bus ask of its children, of one item, in a form that grows child by child.
-- Letters: cs are the faces of children, c is one more, note is that of the bus.
-- To be believed: contracts of code speak of it.
use Rattle.std.specs.Prelude.{ℕ, ◌+◌, Bool, true, not, ◌&&◌, ◌||◌, List, length, if◌then◌else◌}
use Rattle.std.specs.List.{list_any, list_all}
use Rattle.bus_judging.specs.TreeModel.State.Lists.{all_from}
use Rattle.bus_judging.specs.TreeModel.State.Values.{Note}
use Rattle.tree_rules.specs.Bus.Faces.{ChildFace}
use Rattle.tree_rules.specs.Bus.Item.{Bits, holds_it, holds_exclusive, one_holds, gives_none, gives_one, one_gives}
use Rattle.tree_rules.specs.Bus.Item.{giver_holds, reader_is_granted, reader_is_noted, eraser_is_noted}
use Rattle.tree_rules.specs.Bus.Item.{eraser_is_granted, may_erase, implies}

pub record ChildrenFacts : Type 0 where
  pub count : ℕ
  -- there is a holder among them; there is just one; one holds the item Exclusive
  pub held : Bool
  pub sole : Bool
  pub exclusive : Bool
  -- the rest as the bits of a bus
  pub one_gift : Bool
  pub no_gift : Bool
  pub givers : Bool
  pub readers : Bool
  pub eraser : Bool
  pub reads : Bool
  pub erases : Bool

abbrev pub facts_among : Note → List ChildFace → ChildrenFacts
facts_among note cs = record {
  count = length cs;
  held = list_any holds_it cs;
  sole = one_holds cs;
  exclusive = list_any holds_exclusive cs;
  one_gift = one_gives cs;
  no_gift = list_all gives_none cs;
  givers = list_all giver_holds cs;
  readers = all_from (reader_is_granted note) 0 cs;
  eraser = eraser_is_granted note cs;
  reads = all_from (reader_is_noted note) 0 cs;
  erases = all_from (eraser_is_noted note) 0 cs;
}

-- The bits of a bus, where its parent has a parked copy or has none. What was granted is taken to fit: of a child that is a directory
-- the rules of its own bus say so, and of a leaf its states do.
abbrev pub bits_with : Bool → ChildrenFacts → Bits
bits_with parked f = record {
  held = parked || f.held;
  sole = if parked then not f.held else f.sole;
  exclusive = f.exclusive;
  one_gift = f.one_gift;
  no_gift = f.no_gift;
  givers = f.givers;
  granted = true;
  readers = f.readers;
  eraser = f.eraser;
  reads = f.reads;
  erases = f.erases;
}

-- ---- one child more, as a step, where it is a reader of the note or isn't, and its eraser or isn't; proofs alone need it

abbrev pub with_child : Bool → Bool → ChildFace → ChildrenFacts → ChildrenFacts
with_child reader eraser c f = record {
  count = f.count + 1;
  held = f.held || holds_it c;
  sole = if holds_it c then not f.held else f.sole;
  exclusive = f.exclusive || holds_exclusive c;
  one_gift = if gives_none c then f.one_gift else gives_one c && f.no_gift;
  no_gift = f.no_gift && gives_none c;
  givers = f.givers && giver_holds c;
  readers = f.readers && implies reader c.reads;
  eraser = if eraser then may_erase c else f.eraser;
  reads = f.reads && implies c.reads reader;
  erases = f.erases && implies c.erases eraser;
}
