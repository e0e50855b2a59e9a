-- One turn of a bus keeps its rules, those of each child, and what the bus above sees of the parent. By rows.
use Rattle.std.proofs.Common.{◌≡◌, ℕ, List, refl}
use Rattle.std.specs.List.{AllByRecursion}
use Rattle.bus_laws.specs.DdmTypes.declared.answers.TurnAnswer.{TurnAnswer}
use Rattle.bus_laws.specs.DdmTypes.declared.keys.Stamp.{Stamp}
use Rattle.bus_laws.specs.TreeModel.declared.BusTurn.{BusTurn}
use Rattle.bus_laws.specs.TreeModel.State.Values.{DirValue, Node}
use Rattle.bus_laws.specs.TreeModel.Turns.Grant.{Grant, Judged, nothing_there, refused, granted, bus_answer, outcome_of}
use Rattle.bus_laws.specs.TreeModel.Turns.RequestRead.{joins, read_of_child, read_of_parked, read_of_parent}
use Rattle.bus_laws.specs.TreeModel.Turns.RequestErase.{erase_of_all}
use Rattle.bus_laws.specs.TreeModel.Turns.Reply.{reply_to_readers, reply_to_parent}
use Rattle.bus_laws.specs.TreeModel.Turns.Down.{exclusive_to, erase_of_children, read_by_child, read_by_parked, data_to_readers, inject_to_reader, inject_to_readers, inject_to_child, inject_parked}
use Rattle.bus_laws.specs.TreeModel.Turns.Leave.{out_gone, leave_parked, leave_to}
use Rattle.bus_laws.specs.TreeModel.Turns.Bus.{bus_judged, bus_step}
use Rattle.bus_laws.proofs.TreeModel.Rows.{Row, row_joins, row_read_of_child, row_read_of_parked, row_read_of_parent, row_erase_of_all, row_reply_to_readers, row_reply_to_parent, row_exclusive_to, row_erase_of_children, row_read_by_child, row_read_by_parked, row_data_to_readers, row_inject_to_reader, row_inject_to_readers, row_inject_to_child, row_inject_parked, row_out_gone, row_out_parked, row_leave_to, row_inject_up, row-of}
use Rattle.tree_rules.specs.Bus.Rules.{IsBusOk, IsChildOk}
use Rattle.bus_laws.specs.KeepsBus.{as_before, KeepsBus}
use Rattle.bus_laws.proofs.Joins.{joins-keeps}
use Rattle.bus_laws.proofs.RequestRead.{read_of_child-keeps, read_of_parked-keeps, read_of_parent-keeps}
use Rattle.bus_laws.proofs.RequestErase.{request_erase-keeps}
use Rattle.bus_laws.proofs.Reply.{reply_to_readers-keeps, reply_to_parent-keeps}
use Rattle.bus_laws.proofs.DownExclusive.{exclusive-keeps}
use Rattle.bus_laws.proofs.DownErase.{erase-keeps}
use Rattle.bus_laws.proofs.DownRead.{read_by_child-keeps, read_by_parked-keeps}
use Rattle.bus_laws.proofs.DownData.{data_to_readers-keeps, inject_to_readers-keeps}
use Rattle.bus_laws.proofs.DownInject.{inject_to_reader-keeps, inject_to_child-keeps, inject_parked-keeps}
use Rattle.bus_laws.proofs.Leave.{out_gone-keeps, out_parked-keeps, leave_to-keeps, inject_up-keeps}

module _ (n : ℕ) (above : Stamp) (p : DirValue) (ns : List Node) (bus : IsBusOk n p ns) (kids : AllByRecursion (IsChildOk n) ns) where
  granted-keeps : (t : BusTurn) (g : Grant) (a : TurnAnswer) → Row above p ns t g → KeepsBus n above p ns (record { answer = a; parent = g.parent; kids = g.kids })
  unfolding joins read_of_child read_of_parked read_of_parent erase_of_all reply_to_readers reply_to_parent exclusive_to erase_of_children read_by_child read_by_parked data_to_readers inject_to_reader inject_to_readers inject_to_child inject_parked out_gone leave_parked leave_to
  granted-keeps t g a (row_joins c x asks read) = joins-keeps n c x above p ns bus kids asks read a
  granted-keeps t g a (row_read_of_child c x k asks free held found room) = read_of_child-keeps n c x above p ns bus kids asks free k held found room a
  granted-keeps t g a (row_read_of_parked c x words asks free held none parked room) = read_of_parked-keeps n c x above p ns bus kids asks free a words held none parked room
  granted-keeps t g a (row_read_of_parent c x asks free absent room) = read_of_parent-keeps n c x above p ns bus kids asks free a absent room
  granted-keeps t g a (row_erase_of_all c x asks free room own) = request_erase-keeps n c x above p ns bus kids asks free room a own
  granted-keeps t g a (row_reply_to_readers c x words first joined has note room) = reply_to_readers-keeps n c x words above p ns bus kids has first joined note room a
  granted-keeps t g a (row_reply_to_parent c x words has other answering room) = reply_to_parent-keeps n c x words above p ns bus kids has other answering room a
  granted-keeps t g a (row_exclusive_to e rest d front kind note room) = exclusive-keeps n above p ns bus kids a e rest d front kind note room
  granted-keeps t g a (row_erase_of_children e rest front kind other room) = erase-keeps n above p ns bus kids a e rest front kind other room
  granted-keeps t g a (row_read_by_child e rest k front kind other found room) = read_by_child-keeps n above p ns bus kids a e rest front kind other k found room
  granted-keeps t g a (row_read_by_parked e rest words front kind other none parked room) = read_by_parked-keeps n above p ns bus kids a e rest front kind other words parked room
  granted-keeps t g a (row_data_to_readers e rest first joined front kind note room) = data_to_readers-keeps n above p ns bus kids a e rest first joined front kind note room
  granted-keeps t g a (row_inject_to_reader e rest d joined front kind note alone place room) = inject_to_reader-keeps n above p ns bus kids a e rest front kind d joined note alone place room
  granted-keeps t g a (row_inject_to_readers e rest first joined front kind note several room) = inject_to_readers-keeps n above p ns bus kids a e rest first joined front kind note room
  granted-keeps t g a (row_inject_to_child e rest k front kind other unread taker) = inject_to_child-keeps n above p ns bus kids a e rest front kind other unread k taker
  granted-keeps t g a (row_inject_parked e rest front kind other unread none free kept) = inject_parked-keeps n above p ns bus kids a e rest front kind other unread kept
  granted-keeps t g a (row_out_gone c choice x leaves free below shared copy) = out_gone-keeps n choice c x above p ns bus kids leaves free below a shared copy
  granted-keeps t g a (row_out_parked c choice x leaves free below shared copy parent parked room) = out_parked-keeps n choice c x above p ns bus kids leaves free below a copy parent room
  granted-keeps t g a (row_leave_to c choice x k leaves free below neither taker) = leave_to-keeps n choice c x above p ns bus kids leaves free below a k neither taker
  granted-keeps t g a (row_inject_up c choice x leaves free below neither none below_top parked room) = inject_up-keeps n choice c x above p ns bus kids leaves free below a neither below_top room

  -- ---- an outcome

  unchanged : (a : TurnAnswer) → KeepsBus n above p ns (record { answer = a; parent = p; kids = ns })
  unchanged a = record { bus = bus; kids = kids; seen = λ x. as_before refl; top = λ zero top. top }

  judged-keeps : (t : BusTurn) (j : Judged) → ((g : Grant) → j ≡ granted g → Row above p ns t g) → KeepsBus n above p ns (outcome_of p ns j)
  judged-keeps t nothing_there rows = unchanged (bus_answer p.bus nothing_there)
  judged-keeps t (refused cause) rows = unchanged (bus_answer p.bus (refused cause))
  judged-keeps t (granted g) rows = granted-keeps t g (bus_answer p.bus (granted g)) (rows g refl)

-- every turn, whatever its answer
pub bus-keeps : (n : ℕ) (above : Stamp) (t : BusTurn) (p : DirValue) (ns : List Node) → IsBusOk n p ns → AllByRecursion (IsChildOk n) ns → KeepsBus n above p ns (bus_step above t p ns)
unfolding bus_step
bus-keeps n above t p ns bus kids = judged-keeps n above p ns bus kids t (bus_judged above p ns t) (row-of above p ns t)
