-- What a turn of a bus comes to: nothing is there, it is refused, or something is granted. Only a grant changes anything.
-- Letters: p is the parent, ns are its children, g is a grant, j what was judged.
-- To be believed: it is what the machine is.
use Rattle.std.specs.Prelude.{ℕ, List, Option, Some, None, nat_eq, if◌then◌else◌}
use Rattle.tree_model.specs.DdmTypes.declared.answers.TxKind.{TxKind}
use Rattle.tree_model.specs.DdmTypes.declared.answers.PendingWhy.{PendingWhy}
use Rattle.tree_model.specs.DdmTypes.declared.answers.QueueName.{QueueName}
use Rattle.tree_model.specs.DdmTypes.declared.answers.BusyCause.{BusyCause}
use Rattle.tree_model.specs.DdmTypes.declared.answers.BusyCause.TheVariants.{ItemPending, QueueFull}
use Rattle.tree_model.specs.DdmTypes.declared.answers.Place.{Place}
use Rattle.tree_model.specs.DdmTypes.declared.answers.TurnAnswer.{TurnAnswer}
use Rattle.tree_model.specs.DdmTypes.declared.answers.TurnAnswer.TheVariants.{Granted, Empty, Busy}
use Rattle.tree_model.specs.State.Lists.{some_if}
use Rattle.tree_model.specs.State.Values.{DirValue, Node}
use Rattle.tree_model.specs.State.Directory.{down_full, requests_full, replies_full}

-- this kind of this item went from a source to a taker, and left the parent and the children so
pub record Grant : Type 0 where
  pub kind : TxKind
  pub item : ℕ
  pub source : Place
  pub taker : Place
  pub parent : DirValue
  pub kids : List Node

pub data Judged : Type 0 where
  nothing_there : Judged
  refused : BusyCause → Judged
  granted : Grant → Judged

-- the item is pending on this bus
abbrev pub is_pending : ℕ → ℕ → PendingWhy → Judged
is_pending bus x why = refused (ItemPending bus x why)

-- a grant, save where a list that needs a place is full
unfoldable pub unless_full : Option QueueName → Grant → Judged
unless_full None g = granted g
unless_full (Some list) g = refused (QueueFull list)

-- ---- what a turn answers and leaves

pub record Outcome : Type 0 where
  pub answer : TurnAnswer
  pub parent : DirValue
  pub kids : List Node

abbrev pub bus_answer : ℕ → Judged → TurnAnswer
bus_answer bus nothing_there = Empty
bus_answer bus (refused cause) = Busy cause
bus_answer bus (granted g) = Granted (record { bus = bus; kind = g.kind; item = g.item; source = g.source; taker = g.taker })

abbrev pub parent_after : DirValue → Judged → DirValue
parent_after p nothing_there = p
parent_after p (refused cause) = p
parent_after p (granted g) = g.parent

abbrev pub kids_after : List Node → Judged → List Node
kids_after ns nothing_there = ns
kids_after ns (refused cause) = ns
kids_after ns (granted g) = g.kids

abbrev pub outcome_of : DirValue → List Node → Judged → Outcome
outcome_of p ns j = record { answer = bus_answer p.bus j; parent = parent_after p j; kids = kids_after ns j }

-- ---- the parent's own lists

abbrev pub own_down_full : DirValue → Option QueueName
own_down_full p = some_if (down_full p) (QueueName.Down p.bus)

abbrev pub own_requests_full : DirValue → Option QueueName
own_requests_full p = some_if (requests_full p) (QueueName.Requests p.bus)

abbrev pub own_replies_full : DirValue → Option QueueName
own_replies_full p = some_if (replies_full p) (QueueName.Replies p.bus)

-- the taker of data: the first reader where nobody joined it
abbrev pub data_taker : ℕ → ℕ → Place
data_taker first joined = if nat_eq joined 0 then Place.Child first else Place.Readers
