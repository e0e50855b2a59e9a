-- The top keeps its own rules where it is changed for one item.
use Rattle.std.proofs.Common.{◌≡◌, ℕ, true, false, List, ◌∷◌, ap, subst}
use Rattle.std.specs.Prelude.{not, nat_eq}
use Rattle.std.specs.List.{list_all}
use Rattle.std.specs.Cmp.Derive.{both_true}
use Rattle.bus_laws.specs.DdmTypes.declared.answers.TxKind.{TxKind}
use Rattle.bus_laws.specs.DdmTypes.declared.keys.Stamp.{Stamp}
use Rattle.bus_laws.specs.DdmTypes.Keys.{stamp_zero, stamp_numbers}
use Rattle.bus_laws.specs.TreeModel.State.Lists.{has_some}
use Rattle.bus_laws.specs.TreeModel.State.States.{is_exclusive}
use Rattle.bus_laws.specs.TreeModel.State.Values.{DownValue, Note, DirValue}
use Rattle.bus_laws.specs.TreeModel.State.Directory.{dir_hold, is_answering, is_top, with_note, pushed_down, counted, front_taken}
use Rattle.tree_rules.specs.Bus.Own.{are_zero, top_item, has_no_stamp, TopRule, top_bus, top_level, top_items, no_requests, no_replies, none_parked, no_places, no_epoch, no_stamps, top_test, IsTopOk}
use Rattle.bus_laws.proofs.Lists.{pass-set, pass-pushed, pass-behind}

-- what the top keeps by itself, by names
record TopParts (d : DirValue) : Type 0 where
  bus : nat_eq d.bus 0 ≡ true
  level : nat_eq d.level 0 ≡ true
  items : list_all top_item d.items ≡ true
  requests : not (has_some d.requests) ≡ true
  replies : not (has_some d.replies) ≡ true
  parked : not (has_some d.parked) ≡ true
  places : nat_eq d.reserved 0 ≡ true
  epoch : are_zero (stamp_numbers 3 d.epoch) ≡ true
  stamps : list_all has_no_stamp d.down ≡ true

each-part : (d : DirValue) → TopParts d → (r : TopRule) → top_test r d ≡ true
each-part d p top_bus = p.bus
each-part d p top_level = p.level
each-part d p top_items = p.items
each-part d p no_requests = p.requests
each-part d p no_replies = p.replies
each-part d p none_parked = p.parked
each-part d p no_places = p.places
each-part d p no_epoch = p.epoch
each-part d p no_stamps = p.stamps

module _ (q : DirValue) (top : IsTopOk q) where
  pub top-counted : IsTopOk (counted q)
  top-counted = record { each = each-part (counted q) (record { bus = top.each top_bus; level = top.each top_level; items = top.each top_items; requests = top.each no_requests; replies = top.each no_replies; parked = top.each none_parked; places = top.each no_places; epoch = top.each no_epoch; stamps = top.each no_stamps }) }

  pub top-noted : (x : ℕ) (note : Note) → is_exclusive (dir_hold x q) ≡ true → is_answering x q ≡ false → IsTopOk (with_note x note q)
  top-noted x note exclusive quiet = record { each = each-part (with_note x note q) (record { bus = top.each top_bus; level = top.each top_level; items = pass-set top_item q.items x _ (top.each top_items) (both_true exclusive (ap not quiet)); requests = top.each no_requests; replies = top.each no_replies; parked = top.each none_parked; places = top.each no_places; epoch = top.each no_epoch; stamps = top.each no_stamps }) }

  pub top-pushed : (kind : TxKind) (x : ℕ) (words : List ℕ) (above : Stamp) → above ≡ stamp_zero → IsTopOk (pushed_down kind x words above q)
  top-pushed kind x words above zero = record { each = each-part (pushed_down kind x words above q) (record { bus = top.each top_bus; level = top.each top_level; items = top.each top_items; requests = top.each no_requests; replies = top.each no_replies; parked = top.each none_parked; places = top.each no_places; epoch = top.each no_epoch; stamps = pass-pushed has_no_stamp q.down _ (top.each no_stamps) (ap (λ s. are_zero (stamp_numbers 3 s)) zero) }) }

  -- the top's bus takes over no stamp
  pub top-front : (e : DownValue) (rest : List DownValue) → q.down ≡ e ∷ rest → IsTopOk (front_taken e.stamp rest q)
  top-front e rest front =
      let top_is : is_top q ≡ true = top.each top_level in
      record { each = each-part (front_taken e.stamp rest q) (record { bus = top.each top_bus; level = top.each top_level; items = top.each top_items; requests = top.each no_requests; replies = top.each no_replies; parked = top.each none_parked; places = top.each no_places; epoch = rw top_is (top.each no_epoch); stamps = pass-behind has_no_stamp e rest (subst (λ down. list_all has_no_stamp down ≡ true) front (top.each no_stamps)) }) }
