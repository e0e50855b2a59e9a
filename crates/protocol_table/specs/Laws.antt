-- What is claimed of a turn of a bus and the table: the turn is what the first row says that speaks of its situation.
-- Letters: p is the parent of the bus, ns are its children, t is a turn, s its situation.
use Rattle.std.specs.Prelude.{◌≡◌, Bool, true, not, ◌&&◌, List, [], ◌∷◌, ◌++◌, Some, None}
use Rattle.protocol_table.specs.DdmTypes.declared.keys.Stamp.{Stamp}
use Rattle.tree_model.specs.declared.BusTurn.{BusTurn}
use Rattle.tree_model.specs.State.Values.{DirValue, Node}
use Rattle.tree_model.specs.Turns.Grant.{Judged, nothing_there, outcome_of}
use Rattle.tree_model.specs.Turns.Bus.{bus_step}
use Rattle.protocol_table.specs.Situation.{Situation, situation_of}
use Rattle.protocol_table.specs.Row.{Row, speaks, row_says}
use Rattle.protocol_table.specs.Table.{table}

-- none of the rows speaks
abbrev pub silent : List Row → Situation → Bool
silent [] s = true
silent (row ∷ rows) s = not (speaks row s) && silent rows s

-- the turn comes to this
abbrev pub ComesTo : Stamp → DirValue → List Node → BusTurn → Judged → Type 0
ComesTo above p ns t j = bus_step above t p ns ≡ outcome_of p ns j

-- a row speaks, and none before it does
pub record IsFirst (row : Row) (before after : List Row) (s : Situation) : Type 0 where
  pub rows : table ≡ before ++ row ∷ after
  pub quiet : silent before s ≡ true
  pub heard : speaks row s ≡ true

abbrev pub FirstRowDecides : Type 0
FirstRowDecides =
    (above : Stamp) (p : DirValue) (ns : List Node) (t : BusTurn) (s : Situation) (row : Row) (before after : List Row)
    → situation_of above p ns t ≡ Some s → IsFirst row before after s → ComesTo above p ns t (row_says row s)

-- where no row speaks, or nothing is asked, the turn is empty and changes nothing
abbrev pub NoRowIsEmpty : Type 0
NoRowIsEmpty =
    (above : Stamp) (p : DirValue) (ns : List Node) (t : BusTurn) (s : Situation)
    → situation_of above p ns t ≡ Some s → silent table s ≡ true → ComesTo above p ns t nothing_there

abbrev pub NothingIsEmpty : Type 0
NothingIsEmpty =
    (above : Stamp) (p : DirValue) (ns : List Node) (t : BusTurn)
    → situation_of above p ns t ≡ None → ComesTo above p ns t nothing_there
