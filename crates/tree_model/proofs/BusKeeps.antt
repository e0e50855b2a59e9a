-- One turn of a bus, whatever the state: its parent keeps its bus, level and sizes, and each child what no turn of its bus
-- changes. By rows.
use Rattle.std.proofs.Common.{◌≡◌, ℕ, Bool, true, false, List, map, refl, ap}
use Rattle.tree_model.specs.DdmTypes.declared.keys.Stamp.{Stamp}
use Rattle.tree_model.specs.declared.BusTurn.{BusTurn}
use Rattle.tree_model.specs.State.Lists.{map_from}
use Rattle.tree_model.specs.State.States.{is_exclusive}
use Rattle.tree_model.specs.State.Values.{local, up_read, DirSizes, DirValue, Node}
use Rattle.tree_model.specs.State.Directory.{dir_hold, stamp_of, counted, front_taken}
use Rattle.tree_model.specs.State.Child.{child_request_taken, child_reply_taken, child_given}
use Rattle.tree_model.specs.Turns.Grant.{Grant, Judged, nothing_there, refused, granted, outcome_of}
use Rattle.tree_model.specs.Turns.Children.{child_at, only}
use Rattle.tree_model.specs.Turns.RequestRead.{joins, read_of_child, read_of_parked, read_of_parent}
use Rattle.tree_model.specs.Turns.RequestErase.{erase_noted, erase_of_all}
use Rattle.tree_model.specs.Turns.Reply.{reply_to_readers, reply_to_parent}
use Rattle.tree_model.specs.Turns.Down.{exclusive_to, erase_of_children, read_by_child, read_by_parked, data_to_readers, inject_to_reader, inject_to_readers, inject_to_child, inject_parked}
use Rattle.tree_model.specs.Turns.Leave.{out_gone, leave_parked, leave_to}
use Rattle.tree_model.specs.Turns.Bus.{bus_judged, bus_step}
use Rattle.tree_model.specs.Laws.{kept_of, KeepsParts}
use Rattle.tree_model.proofs.Rows.{Row, row_joins, row_read_of_child, row_read_of_parked, row_read_of_parent, row_erase_of_all, row_reply_to_readers, row_reply_to_parent, row_exclusive_to, row_erase_of_children, row_read_by_child, row_read_by_parked, row_data_to_readers, row_inject_to_reader, row_inject_to_readers, row_inject_to_child, row_inject_parked, row_out_gone, row_out_parked, row_leave_to, row_inject_up, row-of}
use Rattle.tree_model.proofs.Children.{map_from-keeps}
use Rattle.tree_model.proofs.Kept.{child_take_exclusive-kept, child_answer-kept, child_take_inject-kept, child_request_taken-kept, child_reply_taken-kept, child_give_up-kept, only-kept, read_from-kept, erased_by-kept, loses-kept, reader_takes-kept, replied_by-kept, passed_on-kept}

-- what is kept of a parent
record Header : Type 0 where
  pub bus : ℕ
  pub level : ℕ
  pub sizes : DirSizes

abbrev header : DirValue → Header
header d = record { bus = d.bus; level = d.level; sizes = d.sizes }

record GrantKeeps (p : DirValue) (ns : List Node) (g : Grant) : Type 0 where
  parent : header g.parent ≡ header p
  kids : map kept_of g.kids ≡ map kept_of ns

module _ (above : Stamp) (p : DirValue) (ns : List Node) where
  -- one child is changed
  one : (c : ℕ) (f : Node → Node) → ((n : Node) → kept_of (f n) ≡ kept_of n) → map kept_of (map_from (only c f) 0 ns) ≡ map kept_of ns
  one c f kept = map_from-keeps (only c f) kept_of (only-kept c f kept) 0 ns

  erase_noted-header : (c x : ℕ) (exclusive : Bool) → header (erase_noted above c x p ns exclusive) ≡ header p
  erase_noted-header c x true = refl
  erase_noted-header c x false = refl

  row-keeps : (t : BusTurn) (g : Grant) → Row above p ns t g → GrantKeeps p ns g
  unfolding joins read_of_child read_of_parked read_of_parent erase_of_all reply_to_readers reply_to_parent exclusive_to erase_of_children read_by_child read_by_parked data_to_readers inject_to_reader inject_to_readers inject_to_child inject_parked out_gone leave_parked leave_to
  row-keeps t g (row_joins c x _ _) = record { parent = refl; kids = one c child_request_taken child_request_taken-kept }
  row-keeps t g (row_read_of_child c x k _ _ _ _ _) = record { parent = refl; kids = map_from-keeps _ kept_of (read_from-kept c k x (stamp_of (counted p))) 0 ns }
  row-keeps t g (row_read_of_parked c x words _ _ _ _ _ _) = record { parent = refl; kids = one c child_request_taken child_request_taken-kept }
  row-keeps t g (row_read_of_parent c x _ _ _ _) = record { parent = refl; kids = one c child_request_taken child_request_taken-kept }
  row-keeps t g (row_erase_of_all c x _ _ _ _) = record { parent = erase_noted-header c x (is_exclusive (dir_hold x p)); kids = map_from-keeps _ kept_of (erased_by-kept c x (stamp_of (counted p))) 0 ns }
  row-keeps t g (row_reply_to_readers c x words first joined _ _ _) = record { parent = refl; kids = map_from-keeps _ kept_of (replied_by-kept c (local first joined) x words (stamp_of (counted p))) 0 ns }
  row-keeps t g (row_reply_to_parent c x words _ _ _ _) = record { parent = refl; kids = one c child_reply_taken child_reply_taken-kept }
  row-keeps t g (row_exclusive_to e rest d _ _ _ _) = record { parent = refl; kids = one d _ (child_take_exclusive-kept e.item (stamp_of (front_taken e.stamp rest p))) }
  row-keeps t g (row_erase_of_children e rest _ _ _ _) = record { parent = refl; kids = map_from-keeps _ kept_of (loses-kept e.item (stamp_of (front_taken e.stamp rest p))) 0 ns }
  row-keeps t g (row_read_by_child e rest k _ _ _ _ _) = record { parent = refl; kids = one k _ (child_answer-kept e.item (stamp_of (front_taken e.stamp rest p))) }
  row-keeps t g (row_read_by_parked e rest words _ _ _ _ _ _) = record { parent = refl; kids = refl }
  row-keeps t g (row_data_to_readers e rest first joined _ _ _ _) = record { parent = refl; kids = map_from-keeps _ kept_of (reader_takes-kept (up_read first joined) e.item e.words (stamp_of (front_taken e.stamp rest p))) 0 ns }
  row-keeps t g (row_inject_to_reader e rest d joined _ _ _ _ _ _) = record { parent = refl; kids = one d _ (child_take_inject-kept e.item e.words (stamp_of (front_taken e.stamp rest p))) }
  row-keeps t g (row_inject_to_readers e rest first joined _ _ _ _ _) = record { parent = refl; kids = map_from-keeps _ kept_of (reader_takes-kept (up_read first joined) e.item e.words (stamp_of (front_taken e.stamp rest p))) 0 ns }
  row-keeps t g (row_inject_to_child e rest k _ _ _ _ _) = record { parent = refl; kids = one k _ (child_take_inject-kept e.item e.words (stamp_of (front_taken e.stamp rest p))) }
  row-keeps t g (row_inject_parked e rest _ _ _ _ _ _ _) = record { parent = refl; kids = refl }
  row-keeps t g (row_out_gone c choice x _ _ _ _ _) = record { parent = refl; kids = one c _ (child_give_up-kept x) }
  row-keeps t g (row_out_parked c choice x _ _ _ _ _ _ _ _) = record { parent = refl; kids = one c _ (child_give_up-kept x) }
  row-keeps t g (row_leave_to c choice x k _ _ _ _ _) = record { parent = refl; kids = map_from-keeps _ kept_of (passed_on-kept c k x (child_given x (child_at c ns)) (stamp_of (counted p))) 0 ns }
  row-keeps t g (row_inject_up c choice x _ _ _ _ _ _ _ _) = record { parent = refl; kids = one c _ (child_give_up-kept x) }

  -- ---- an outcome

  outcome-keeps : (j : Judged) → ((g : Grant) → j ≡ granted g → GrantKeeps p ns g) → KeepsParts p ns (outcome_of p ns j)
  outcome-keeps nothing_there kept = record { bus = refl; level = refl; sizes = refl; kids = refl }
  outcome-keeps (refused cause) kept = record { bus = refl; level = refl; sizes = refl; kids = refl }
  outcome-keeps (granted g) kept =
      let k = kept g refl in
      record { bus = ap (λ h. h.bus) k.parent; level = ap (λ h. h.level) k.parent; sizes = ap (λ h. h.sizes) k.parent; kids = k.kids }

  pub bus_step-keeps : (t : BusTurn) → KeepsParts p ns (bus_step above t p ns)
  unfolding bus_step
  bus_step-keeps t = outcome-keeps (bus_judged above p ns t) (λ g e. row-keeps t g (row-of above p ns t g e))
