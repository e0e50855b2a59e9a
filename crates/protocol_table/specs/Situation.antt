-- What a turn of a bus finds: what is asked of the bus, and all that the rows of the table look at.
-- Letters: s is a situation, p the parent of the bus, ns its children, c a child number, x an item.
use Rattle.std.specs.Prelude.{ℕ, Bool, true, false, List, [], ◌∷◌, Option, Some, None}
use Rattle.protocol_table.specs.DdmTypes.declared.answers.TxKind.{TxKind}
use Rattle.protocol_table.specs.DdmTypes.declared.answers.Place.{Place}
use Rattle.protocol_table.specs.DdmTypes.declared.keys.Stamp.{Stamp}
use Rattle.tree_model.specs.declared.BusTurn.{BusTurn}
use Rattle.tree_model.specs.State.Kinds.{is_kind}
use Rattle.tree_model.specs.State.Values.{RequestValue, CopyValue, DownValue, DirValue, Node}
use Rattle.tree_model.specs.State.Directory.{counted, front_taken}
use Rattle.tree_model.specs.State.Child.{child_request, child_reply, child_leaving}
use Rattle.tree_model.specs.Turns.Children.{child_at}

-- What is asked of a bus: a child's first request, a child's first reply, the first entry of the parent's down list, or
-- that a copy leaves a child.
pub data Asked : Type 0 where
  request : TxKind → Asked
  reply : Asked
  entry : TxKind → Asked
  leave : Asked

pub record Situation : Type 0 where
  pub asked : Asked
  pub source : Place
  -- the child that asks, replies or lets a copy go; 0 for an entry of the down list
  pub child : ℕ
  pub item : ℕ
  -- what the reply or the entry carries
  pub words : List ℕ
  -- the parent before the turn, and as each granted turn leaves it: counted, and without the entry that it took
  pub parent : DirValue
  pub turned : DirValue
  pub children : List Node
  -- the present stamp of the bus above
  pub above : Stamp

-- ---- what a row may ask for

abbrev pub is_request : TxKind → Asked → Bool
is_request kind (request k) = is_kind kind k
is_request kind reply = false
is_request kind (entry k) = false
is_request kind leave = false

abbrev pub is_reply : Asked → Bool
is_reply (request k) = false
is_reply reply = true
is_reply (entry k) = false
is_reply leave = false

abbrev pub is_entry : TxKind → Asked → Bool
is_entry kind (request k) = false
is_entry kind reply = false
is_entry kind (entry k) = is_kind kind k
is_entry kind leave = false

abbrev pub is_any_entry : Asked → Bool
is_any_entry (request k) = false
is_any_entry reply = false
is_any_entry (entry k) = true
is_any_entry leave = false

abbrev pub is_leave : Asked → Bool
is_leave (request k) = false
is_leave reply = false
is_leave (entry k) = false
is_leave leave = true

-- ---- the situation of a turn, if there is something for it to do

module _ (above : Stamp) (p : DirValue) (ns : List Node) where
  -- child c asks for this of item x
  abbrev pub of_child : Asked → ℕ → ℕ → List ℕ → Situation
  of_child asked c x words = record {
    asked = asked;
    source = Place.Child c;
    child = c;
    item = x;
    words = words;
    parent = p;
    turned = counted p;
    children = ns;
    above = above;
  }

  abbrev pub of_request : ℕ → Option RequestValue → Option Situation
  of_request c None = None
  of_request c (Some r) = Some (of_child (request r.kind) c r.item [])

  abbrev pub of_reply : ℕ → Option CopyValue → Option Situation
  of_reply c None = None
  of_reply c (Some r) = Some (of_child reply c r.item r.words)

  -- the first entry of the down list, of item x, with these words and this stamp; the rest of the list comes after it
  abbrev pub of_entry : TxKind → ℕ → List ℕ → Stamp → List DownValue → Situation
  of_entry kind x words stamp rest = record {
    asked = entry kind;
    source = Place.Parent;
    child = 0;
    item = x;
    words = words;
    parent = p;
    turned = front_taken stamp rest p;
    children = ns;
    above = above;
  }

  abbrev pub of_down : List DownValue → Option Situation
  of_down [] = None
  of_down (e ∷ rest) = Some (of_entry e.kind e.item e.words e.stamp rest)

  abbrev pub of_leave : ℕ → Option ℕ → Option Situation
  of_leave c None = None
  of_leave c (Some x) = Some (of_child leave c x [])

  abbrev pub situation_of : BusTurn → Option Situation
  situation_of BusTurn.Down = of_down p.down
  situation_of (BusTurn.Request c) = of_request c (child_request (child_at c ns))
  situation_of (BusTurn.Reply c) = of_reply c (child_reply (child_at c ns))
  situation_of (BusTurn.Leave c choice) = of_leave c (child_leaving choice (child_at c ns))
