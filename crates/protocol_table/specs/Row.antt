-- A row of the table, and what the first row that applies says of a situation. The words in which the rows are written
-- come after it.
-- Letters: s is a situation, r a row, k a child number.
use Rattle.std.specs.Prelude.{ℕ, Bool, true, ◌&&◌, List, [], ◌∷◌, Option, Some, None, is_some}
use Rattle.std.specs.Prelude.{option_map, unwrap_or, if◌then◌else◌}
use Rattle.protocol_table.specs.DdmTypes.declared.answers.TxKind.{TxKind}
use Rattle.protocol_table.specs.DdmTypes.declared.answers.Place.{Place}
use Rattle.protocol_table.specs.DdmTypes.declared.answers.QueueName.{QueueName}
use Rattle.protocol_table.specs.DdmTypes.declared.answers.BusyCause.{BusyCause}
use Rattle.protocol_table.specs.DdmTypes.declared.answers.BusyCause.TheVariants.{QueueFull, ParkingFull}
use Rattle.protocol_table.specs.DdmTypes.declared.keys.Stamp.{Stamp}
use Rattle.protocol_table.specs.DdmTypes.declared.sizes.Hold.{Hold}
use Rattle.tree_model.specs.State.Lists.{map_from, find_from, first_given, some_if}
use Rattle.tree_model.specs.State.Values.{Note, no_note, local, up_read, up_erase, DirValue, Node}
use Rattle.tree_model.specs.State.Directory.{dir_hold, dir_note, parking_full, stamp_of}
use Rattle.tree_model.specs.State.Child.{child_full_for}
use Rattle.tree_model.specs.Turns.Grant.{Grant, Judged, nothing_there, refused, granted}
use Rattle.tree_model.specs.Turns.Grant.{own_down_full, own_requests_full, own_replies_full, data_taker}
use Rattle.tree_model.specs.Turns.Children.{child_at, reader_full}
use Rattle.protocol_table.specs.Situation.{Asked, Situation}

-- a row that grants
pub record Granting : Type 0 where
  -- what is asked
  pub asked : Asked → Bool
  -- when the row applies
  pub applies : Situation → Bool
  -- the places that it needs: the first of them that isn't there
  pub needs : Situation → Option BusyCause
  -- which transaction goes to whom
  pub kind : TxKind
  pub to : Situation → Place
  -- what becomes of the children and of the parent
  pub children : Situation → List Node
  pub parent : Situation → DirValue

-- a row that refuses, wherever it has a cause
pub record Refusing : Type 0 where
  pub asked : Asked → Bool
  pub cause : Situation → Option BusyCause

pub data Row : Type 0 where
  grants : Granting → Row
  refuses : Refusing → Row

-- ---- what a table says

abbrev pub grant_of : Granting → Situation → Grant
grant_of r s = record {
  kind = r.kind;
  item = s.item;
  source = s.source;
  taker = r.to s;
  parent = r.parent s;
  kids = r.children s;
}

-- a grant, save where a place is missing
abbrev pub unless_missing : Option BusyCause → Grant → Judged
unless_missing None g = granted g
unless_missing (Some cause) g = refused cause

abbrev pub refused_for : Option BusyCause → Judged
refused_for None = nothing_there
refused_for (Some cause) = refused cause

-- the row has something to say of the situation
abbrev pub speaks : Row → Situation → Bool
speaks (grants r) s = r.asked s.asked && r.applies s
speaks (refuses r) s = r.asked s.asked && is_some (r.cause s)

abbrev pub row_says : Row → Situation → Judged
row_says (grants r) s = unless_missing (r.needs s) (grant_of r s)
row_says (refuses r) s = refused_for (r.cause s)

-- the first row that speaks; where none does, nothing is there
abbrev pub says : List Row → Situation → Judged
says [] s = nothing_there
says (row ∷ rows) s = if speaks row s then row_says row s else says rows s

-- ---- the words of the rows: when they apply

abbrev pub note : Situation → Note
note s = dir_note s.item s.parent

-- what the parent holds of the item
abbrev pub hold : Situation → Hold
hold s = dir_hold s.item s.parent

abbrev pub always : Situation → Bool
always s = true

-- there is a child that passes, and the lowest of them
abbrev pub some_child : (ℕ → Node → Bool) → Situation → Bool
some_child t s = is_some (find_from t 0 s.children)

abbrev pub lowest : (ℕ → Node → Bool) → Situation → ℕ
lowest t s = unwrap_or (find_from t 0 s.children) 0

-- the child that reads first, or that erases
abbrev pub named_child : Note → ℕ
named_child no_note = 0
named_child (local first joined) = first
named_child (up_read first joined) = first
named_child (up_erase d) = d

-- the set of those that joined the read
abbrev pub joined_set : Note → ℕ
joined_set no_note = 0
joined_set (local first joined) = joined
joined_set (up_read first joined) = joined
joined_set (up_erase d) = 0

-- ---- the words of the rows: the places that they need

abbrev pub none : Situation → Option BusyCause
none s = None

abbrev pub full : Option QueueName → Option BusyCause
full list = option_map (λ q. QueueFull q) list

-- in the list of child k that must have a place before it is told this
abbrev pub at_child : TxKind → ℕ → Situation → Option BusyCause
at_child kind k s = full (child_full_for kind s.item (child_at k s.children))

-- in that of each reader
abbrev pub at_readers : Situation → Option BusyCause
at_readers s = full (first_given (reader_full (note s) s.item) 0 s.children)

-- in the parent's own lists
abbrev pub own_down : Situation → Option BusyCause
own_down s = full (own_down_full s.turned)

abbrev pub own_requests : Situation → Option BusyCause
own_requests s = full (own_requests_full s.turned)

abbrev pub own_replies : Situation → Option BusyCause
own_replies s = full (own_replies_full s.turned)

abbrev pub own_parking : Situation → Option BusyCause
own_parking s = some_if (parking_full s.parent) (ParkingFull s.parent.bus)

-- ---- the words of the rows: who is told what

abbrev pub readers : Situation → Place
readers s = data_taker (named_child (note s)) (joined_set (note s))

-- what becomes of each child, by its number
abbrev pub each : (ℕ → Node → Node) → Situation → List Node
each f s = map_from f 0 s.children

abbrev pub unchanged : Situation → List Node
unchanged s = s.children

-- the stamp that goes with what a child is told
abbrev pub stamp : Situation → Stamp
stamp s = stamp_of s.turned
