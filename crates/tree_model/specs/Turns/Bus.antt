-- One turn of a bus, over the value of its parent and the list of its children's values. Source: the transactions of the
-- DDM protocol (read, data, erase, exclusive, inject, out), with combined reads.
-- A turn is judged in the order: nothing there, the item pending, full places (children in order of number, then the
-- parent's own list). A granted turn begins with the count of the bus; what it tells a child carries the stamp that the bus
-- has then, and what it puts into the parent's own down list carries the present stamp of the bus above.
-- Letters: p is the parent, ns are its children, c is a child number, x an item, r a request or a reply, t a turn.
-- To be believed: it is what the machine is.
use Rattle.std.specs.Prelude.{ℕ, List, Option, Some, None}
use Rattle.tree_model.specs.DdmTypes.declared.answers.TxKind.{TxKind}
use Rattle.tree_model.specs.DdmTypes.declared.answers.TxKind.TheVariants.{ReadTx, DataTx, EraseTx, ExclusiveTx, InjectTx, OutTx}
use Rattle.tree_model.specs.DdmTypes.declared.keys.Stamp.{Stamp}
use Rattle.tree_model.specs.declared.BusTurn.{BusTurn}
use Rattle.tree_model.specs.State.Values.{RequestValue, CopyValue, DirValue, Node}
use Rattle.tree_model.specs.State.Directory.{dir_note, pending}
use Rattle.tree_model.specs.State.Child.{child_request, child_reply, child_leaving}
use Rattle.tree_model.specs.Turns.Grant.{Judged, nothing_there, Outcome, outcome_of}
use Rattle.tree_model.specs.Turns.Children.{child_at}
use Rattle.tree_model.specs.Turns.RequestRead.{request_read}
use Rattle.tree_model.specs.Turns.RequestErase.{request_erase}
use Rattle.tree_model.specs.Turns.Reply.{reply_by_note}
use Rattle.tree_model.specs.Turns.Down.{down_turn}
use Rattle.tree_model.specs.Turns.Leave.{leave_of}

module _ (above : Stamp) (p : DirValue) (ns : List Node) where
  -- a request is a read or an erase
  abbrev pub request_by_kind : ℕ → ℕ → TxKind → Judged
  request_by_kind c x ReadTx = request_read c x p ns above (dir_note x p)
  request_by_kind c x DataTx = nothing_there
  request_by_kind c x EraseTx = request_erase above c x p ns (pending x p)
  request_by_kind c x ExclusiveTx = nothing_there
  request_by_kind c x InjectTx = nothing_there
  request_by_kind c x OutTx = nothing_there

  abbrev pub request_turn : ℕ → Option RequestValue → Judged
  request_turn c None = nothing_there
  request_turn c (Some r) = request_by_kind c r.item r.kind

  abbrev pub reply_turn : ℕ → Option CopyValue → Judged
  reply_turn c None = nothing_there
  reply_turn c (Some r) = reply_by_note c r.item r.words p ns (dir_note r.item p)

  abbrev pub leave_turn : ℕ → Option ℕ → Judged
  leave_turn c None = nothing_there
  leave_turn c (Some x) = leave_of c x p ns

  abbrev pub bus_judged : BusTurn → Judged
  bus_judged BusTurn.Down = down_turn p ns p.down
  bus_judged (BusTurn.Request c) = request_turn c (child_request (child_at c ns))
  bus_judged (BusTurn.Reply c) = reply_turn c (child_reply (child_at c ns))
  bus_judged (BusTurn.Leave c choice) = leave_turn c (child_leaving choice (child_at c ns))

-- one turn of a bus; `above` is the present stamp of the bus above
unfoldable pub bus_step : Stamp → BusTurn → DirValue → List Node → Outcome
bus_step above t p ns = outcome_of p ns (bus_judged above p ns t)
