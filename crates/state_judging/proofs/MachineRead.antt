-- What a machine is that was read, whatever the words were: all but the rules of its buses and of time that look at more than a part.
-- `behind_x` is what is read behind x.
-- Letters: f is the machine before its first turn, m the one that was read.
use Rattle.std.specs.Prelude.{◌≡◌, ◌≤◌, ℕ, ◌+◌, true, not, nat_eq, nat_le, List, [], ◌∷◌, length, map, slice_index_or, Result, Ok, refl, IsTrue}
use Rattle.std.specs.List.{list_all, range_with_len}
use Rattle.std.proofs.Common.{sym, ap, subst, ◌∙◌, arith}
use Rattle.std.proofs.lemmas.Bool.{and_parts, eqb-true, eq-eqb, leb-true}
use Rattle.std.proofs.lemmas.List.{length-map}
use Rattle.state_judging.specs.DdmTypes.declared.operations.Op.{Op}
use Rattle.state_judging.specs.DdmTypes.ItemTable.{item_count}
use Rattle.state_judging.specs.TreeModel.State.Lists.{has_some}
use Rattle.state_judging.specs.TreeModel.State.Directory.{is_top}
use Rattle.state_judging.specs.TreeModel.State.Shape.{IsShaped, Frame, frame_of, shape_test, skeleton, levels_of, depth_of, tree_counts, leaf_numbers_of}
use Rattle.state_judging.specs.TreeModel.State.Values.{LeafValue, DirValue, children, MachineValue, root_of}
use Rattle.state_judging.specs.TreeModel.Turns.Machine.{machine_leaves}
use Rattle.state_judging.specs.TreeRules.Bus.Own.{TopRule, top_bus, top_level, top_items, no_requests, no_replies, none_parked, no_places, no_epoch, no_stamps, top_test, IsTopOk, dir_test, dir_lists}
use Rattle.state_judging.proofs.TreeRules.BusTests.{dir-at}
use Rattle.state_reading.specs.declared.StateRefusal.{StateRefusal}
use Rattle.state_reading.specs.Reading.{Read, and_then, given, times, word_that}
use Rattle.state_reading.specs.Parts.{read_hart, read_leaf, read_op}
use Rattle.state_reading.specs.Machine.{read_each, BusRead, bus_dir, bus_traffic, read_buses, refilled_machine, read_words}
use Rattle.state_judging.specs.Read.{CanRead, IsRead, is_top_alone}
use Rattle.state_judging.proofs.Inverted.{and_then-ok, given-so, Beside}
use Rattle.state_judging.proofs.BusesJudged.{top-is_top}
use Rattle.state_judging.proofs.BusesRead.{BusesReads, all-buses}
use Rattle.state_judging.proofs.DirRead.{DirRead}
use Rattle.state_judging.proofs.EachBus.{AtDirs}
use Rattle.state_judging.proofs.LeafRead.{HartRead}
use Rattle.state_judging.proofs.LeavesRead.{AtLeaves, FromHart, leaves-stand, harts-ok, leaves-ok}
use Rattle.state_judging.proofs.OpsRead.{op_fits, ops-ok}
use Rattle.state_judging.proofs.Refilled.{LeafStands, same-bones, parts-refilled, Ends, ends-refilled}
use Rattle.state_judging.proofs.TimeRead.{stamps-read, epochs-read, leaves-read, keys-read}

-- ---- the top

none-there : {X : Type 0} (xs : List X) → length xs ≤ 0 → not (has_some xs) ≡ true
none-there [] most = refl
none-there (x ∷ xs) most = absurd (omega (arith, most))

module _ (n kids : ℕ) (d e : DirValue) (alone : is_top_alone d ≡ true) (top : is_top d ≡ true) (read : DirRead n kids d e) where
  -- it has no places but in its down list
  record NoRooms : Type 0 where
    bus : d.bus ≡ 0
    requests : d.sizes.request_room ≡ 0
    replies : d.sizes.reply_room ≡ 0
    parking : d.sizes.parking_room ≡ 0

  no_rooms : NoRooms
  no_rooms =
      let first = and_parts (nat_eq d.bus 0) _ alone in
      let second = and_parts (nat_eq d.sizes.request_room 0) _ first.1 in
      let third = and_parts (nat_eq d.sizes.reply_room 0) (nat_eq d.sizes.parking_room 0) second.1 in
      record { bus = eqb-true d.bus 0 first.0; requests = eqb-true d.sizes.request_room 0 second.0; replies = eqb-true d.sizes.reply_room 0 third.0; parking = eqb-true d.sizes.parking_room 0 third.1 }

  level : d.level ≡ 0
  level = eqb-true d.level 0 top

  record Short : Type 0 where
    requests : length e.requests ≤ 0
    replies : length e.replies ≤ 0
    parked : length e.parked + e.reserved ≤ 0

  short : Short
  short =
      let lists : dir_test dir_lists n kids e ≡ true = dir-at dir_lists n kids e read.holds in
      let a = and_parts (nat_eq (length e.items) n) _ lists in
      let b = and_parts (nat_le (length e.down) e.sizes.down_room) _ a.1 in
      let c = and_parts (nat_le (length e.requests) e.sizes.request_room) _ b.1 in
      let f = and_parts (nat_le (length e.replies) e.sizes.reply_room) (nat_le (length e.parked + e.reserved) e.sizes.parking_room) c.1 in
      record {
        requests = subst (λ room. length e.requests ≤ room) (ap (λ s. s.request_room) read.sizes ∙ no_rooms.requests) (leb-true (length e.requests) e.sizes.request_room c.0);
        replies = subst (λ room. length e.replies ≤ room) (ap (λ s. s.reply_room) read.sizes ∙ no_rooms.replies) (leb-true (length e.replies) e.sizes.reply_room f.0);
        parked = subst (λ room. length e.parked + e.reserved ≤ room) (ap (λ s. s.parking_room) read.sizes ∙ no_rooms.parking) (leb-true (length e.parked + e.reserved) e.sizes.parking_room f.1);
      }

  top-rule : (q : TopRule) → top_test q e ≡ true
  top-rule top_bus = eq-eqb e.bus 0 (read.bus ∙ no_rooms.bus)
  top-rule top_level = eq-eqb e.level 0 (read.level ∙ level)
  top-rule top_items = read.exclusive top
  top-rule no_requests = none-there e.requests short.requests
  top-rule no_replies = none-there e.replies short.replies
  top-rule none_parked = none-there e.parked (omega (arith, short.parked))
  top-rule no_places = eq-eqb e.reserved 0 (omega (arith, short.parked))
  top-rule no_epoch = rw level at read.epoch
  top-rule no_stamps = rw level at read.stamps

  pub top-read : IsTopOk e
  top-read = record { each = top-rule }

-- ---- the machine of leaves, buses and operations that were read

pub framed-shape : (f m : MachineValue) → frame_of m ≡ frame_of f → IsShaped f → IsShaped m
framed-shape f m same shaped = record { each = λ r. subst (λ (frame : Frame). IsTrue (shape_test r frame)) (sym same) (shaped.each r) }

module _ (f : MachineValue) (can : CanRead f) (us : List LeafValue) (bs : List BusRead) (ops : List Op) where
  abbrev n : ℕ
  n = item_count f.items

  abbrev ds : List DirValue
  ds = map bus_dir bs

  abbrev m : MachineValue
  m = refilled_machine f us bs ops

  module _ (leaves : AtLeaves (LeafStands n us ds) (root_of f)) (buses : BusesReads n f bs) (fit : list_all (op_fits (depth_of f) (tree_counts f).leaves) ops ≡ true) where
    bones : skeleton (root_of m) ≡ skeleton (root_of f)
    bones = same-bones n us ds (root_of f) leaves buses.dirs

    frame : frame_of m ≡ frame_of f
    frame = let counted : length (map bus_traffic bs) ≡ length f.traffic = length-map bs bus_traffic ∙ buses.count in rw (bones, counted) refl

    shaped : IsShaped m
    shaped = framed-shape f m frame can.shaped

    ends : AtDirs Ends (root_of m)
    ends = ends-refilled n us ds (root_of f) buses.dirs

    ops-fit : list_all (op_fits (depth_of m) (tree_counts f).leaves) ops ≡ true
    ops-fit = subst (λ b. list_all (op_fits (levels_of b) (tree_counts f).leaves) ops ≡ true) (sym bones) fit

    is_read : IsRead m
    is_read = record {
      parts = parts-refilled n us ds (root_of f) leaves buses.dirs;
      top = top-read n (length (children f.kids)) f.top (slice_index_or ds f.top.bus f.top) can.top (top-is_top f can.shaped) buses.dirs.0;
      traffic = buses.traffic;
      leaves = leaves-read m (tree_counts f).leaves shaped (ap (λ b. length (leaf_numbers_of b [])) bones) ops ops-fit;
      keys = keys-read m (tree_counts f).leaves ops ops-fit;
      stamps = stamps-read m shaped ends;
      epochs = epochs-read m shaped ends;
    }

    pub machine-read : IsRead m × (frame_of m ≡ frame_of f)
    machine-read = (is_read, frame)

-- ---- step by step, from the last one on

module _ (f : MachineValue) (can : CanRead f) (retired : ℕ) (r : Read MachineValue) where
  abbrev Answer : MachineValue → Type 0
  Answer m = IsRead m × (frame_of m ≡ frame_of f)

  abbrev items : ℕ
  items = item_count f.items

  abbrev machine_made : List LeafValue → List BusRead → List LeafValue → List Op → ℕ → ℕ → List ℕ → Result (Read MachineValue) StateRefusal
  machine_made harts buses leaves ops end k ws = given (refilled_machine f leaves buses ops) k ws

  abbrev behind_ops : List LeafValue → List BusRead → List LeafValue → List Op → ℕ → List ℕ → Result (Read MachineValue) StateRefusal
  behind_ops harts buses leaves ops k ws = and_then (word_that (λ w. nat_eq w 0x454d4444) k ws) (machine_made harts buses leaves ops)

  abbrev behind_retired : List LeafValue → List BusRead → List LeafValue → ℕ → ℕ → List ℕ → Result (Read MachineValue) StateRefusal
  behind_retired harts buses leaves count k ws = and_then (times (read_op (depth_of f) (tree_counts f).leaves) count [] k ws) (behind_ops harts buses leaves)

  abbrev behind_leaves : List LeafValue → List BusRead → List LeafValue → ℕ → List ℕ → Result (Read MachineValue) StateRefusal
  behind_leaves harts buses leaves k ws = and_then (word_that (λ w. nat_eq w retired) k ws) (behind_retired harts buses leaves)

  abbrev behind_buses : List LeafValue → List BusRead → ℕ → List ℕ → Result (Read MachineValue) StateRefusal
  behind_buses harts buses k ws = and_then (read_each (read_leaf items) harts k ws) (behind_leaves harts buses)

  abbrev behind_harts : List LeafValue → ℕ → List ℕ → Result (Read MachineValue) StateRefusal
  behind_harts harts k ws = and_then (read_buses items f (range_with_len 0 (length f.traffic)) [] k ws) (behind_buses harts)

  last-ok : (harts leaves : List LeafValue) (buses : List BusRead) (k : ℕ) (ws : List ℕ) → Beside HartRead (machine_leaves f) harts → Beside (FromHart items) harts leaves → BusesReads items f buses → behind_leaves harts buses leaves k ws ≡ Ok r → Answer r.value
  last-ok harts leaves buses k ws first second over e =
      let count = and_then-ok (word_that (λ w. nat_eq w retired) k ws) (behind_retired harts buses leaves) r e in
      filled count.0.value count.0.at count.0.rest count.2
    where
      filled : (count k : ℕ) (ws : List ℕ) → behind_retired harts buses leaves count k ws ≡ Ok r → Answer r.value
      filled count k ws e =
          let ops = and_then-ok (times (read_op (depth_of f) (tree_counts f).leaves) count [] k ws) (behind_ops harts buses leaves) r e in
          let end = and_then-ok (word_that (λ w. nat_eq w 0x454d4444) ops.0.at ops.0.rest) (machine_made harts buses leaves ops.0.value) r ops.2 in
          let standing = leaves-stand items f harts leaves can.shaped can.ways first second in
          given-so Answer (refilled_machine f leaves buses ops.0.value) end.0.at end.0.rest r end.2 (machine-read f can leaves buses ops.0.value standing over (ops-ok (depth_of f) (tree_counts f).leaves count k ws ops.0 ops.1))

  pub words-ok : (k : ℕ) (ws : List ℕ) → read_words f retired k ws ≡ Ok r → Answer r.value
  unfolding read_words
  words-ok k ws e =
      let harts = and_then-ok (read_each read_hart (machine_leaves f) k ws) behind_harts r e in
      between harts.0.value harts.0.at harts.0.rest (harts-ok items f k ws harts.0 harts.1) harts.2
    where
      between : (harts : List LeafValue) (k : ℕ) (ws : List ℕ) → Beside HartRead (machine_leaves f) harts → behind_harts harts k ws ≡ Ok r → Answer r.value
      between harts k ws first e =
          let buses = and_then-ok (read_buses items f (range_with_len 0 (length f.traffic)) [] k ws) (behind_buses harts) r e in
          let leaves = and_then-ok (read_each (read_leaf items) harts buses.0.at buses.0.rest) (behind_leaves harts buses.0.value) r buses.2 in
          last-ok harts leaves.0.value buses.0.value leaves.0.at leaves.0.rest first (leaves-ok items f harts buses.0.at buses.0.rest leaves.0 leaves.1) (all-buses items f can.shaped k ws buses.0 buses.1) leaves.2

pub what_is_read : (fresh m : MachineValue) (retired k at : ℕ) (ws rest : List ℕ) → CanRead fresh → read_words fresh retired k ws ≡ Ok (record { value = m; at = at; rest = rest }) → IsRead m × (frame_of m ≡ frame_of fresh)
what_is_read fresh m retired k at ws rest can e = words-ok fresh can retired (record { value = m; at = at; rest = rest }) k ws e
