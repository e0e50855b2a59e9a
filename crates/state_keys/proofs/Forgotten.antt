-- A machine without its time keeps the frame and the rules of the machine, and its values have their form: so its words are read again.
-- Letters: m is a machine, d a directory, e an entry of its down list, n a node, ns are nodes in a row, c is a spot.
use Rattle.std.specs.Prelude.{◌≡◌, ℕ, zero, suc, ◌+◌, true, ◌&&◌, List, [], ◌∷◌, ◌++◌, length, map, drop, refl}
use Rattle.std.specs.List.{AllByRecursion, list_all}
use Rattle.std.proofs.Common.{ap, ◌∙◌, zero-le}
use Rattle.std.proofs.lemmas.List.{length-map}
use Rattle.std.specs.Cmp.Derive.{both_true}
use Rattle.state_keys.specs.TreeModel.declared.Traffic.{Traffic}
use Rattle.state_keys.specs.TreeModel.State.Values.{DownValue, LeafValue, DirValue, Node, Nodes, leaf_node, dir_node, no_nodes, more_nodes, children, MachineValue, root_of}
use Rattle.state_keys.specs.TreeModel.State.Place.{Spot, spot_path, spot_in}
use Rattle.state_keys.specs.TreeModel.State.Shape.{skeleton, skeletons, dir_bone, frame_of}
use Rattle.state_keys.specs.TreeModel.Turns.Machine.{no_traffic}
use Rattle.state_keys.specs.TreeRules.Statements.{Statement, Holds, each}
use Rattle.state_keys.specs.TreeRules.Bus.Own.{are_zero, down_fits, dir_holds, has_no_stamp, IsTopOk, TopRule, top_test, top_bus, top_level, top_items, no_requests, no_replies, none_parked, no_places, no_epoch, no_stamps}
use Rattle.state_keys.specs.TreeRules.Bus.Rules.{IsTreeOk, AreTreesOk, IsMachineOk, items_of_machine}
use Rattle.state_keys.specs.TreeRules.Order.Places.{DirAt, dir_path, dirs_in, placed_dirs, dirs_at}
use Rattle.state_keys.specs.TreeRules.Order.Time.{stamp_ends, entry_ends, epoch_ends}
use Rattle.state_keys.specs.DdmTypes.Keys.{stamp_zero}
use Rattle.spelling_laws.proofs.TreeRules.BusTests.{test-from_IsLeafOk, test-from_IsDirOk}
use Rattle.state_keys.specs.StateJudging.Read.{parts_hold, parts_hold_among, is_counted, IsRead}
use Rattle.spelling_laws.specs.StateReading.Parts.{most_counted}
use Rattle.spelling_laws.specs.Spelled.{IsSpelled}
use Rattle.value_laws.specs.Values.{StampHasForm, DownHasForm, LeafHasForm, DirHasForm, PartsHaveForm, PartsHaveFormAmong, TrafficHasForm, HasForm}
use Rattle.time_laws.specs.Forget.{forget_entry, forget_leaf, forget_dir, forget_node, forget_nodes, forget_traffic, forget}

-- ---- the frame

mutual
  bones-forgotten : (n : Node) → skeleton (forget_node n) ≡ skeleton n
  bones-forgotten (leaf_node v) = refl
  bones-forgotten (dir_node d ns) = ap (dir_bone d.bus d.level d.sizes) (bones-forgotten_among ns)

  bones-forgotten_among : (ns : Nodes) → skeletons (forget_nodes ns) ≡ skeletons ns
  bones-forgotten_among no_nodes = refl
  bones-forgotten_among (more_nodes n ns) = rw (bones-forgotten n, bones-forgotten_among ns) refl

pub frame-forgotten : (m : MachineValue) → frame_of (forget m) ≡ frame_of m
frame-forgotten m = rw (bones-forgotten_among m.kids, length-map m.traffic (λ _. no_traffic)) refl

-- ---- the parts

fits-forgotten : (items : ℕ) (down : List DownValue) → list_all (down_fits items) (map forget_entry down) ≡ list_all (down_fits items) down
fits-forgotten items [] = refl
fits-forgotten items (e ∷ es) = ap (λ b. down_fits items e && b) (fits-forgotten items es)

dir-forgotten : (items kids : ℕ) (d : DirValue) → dir_holds items kids (forget_dir d) ≡ dir_holds items kids d
dir-forgotten items kids d = rw (length-map d.down forget_entry, fits-forgotten items d.down) refl

children-forgotten : (ns : Nodes) → length (children (forget_nodes ns)) ≡ length (children ns)
children-forgotten no_nodes = refl
children-forgotten (more_nodes n ns) = ap suc (children-forgotten ns)

module _ (items : ℕ) where
  mutual
    parts-hold : (n : Node) → IsTreeOk items n → parts_hold items (forget_node n) ≡ true
    parts-hold (leaf_node v) ok = both_true (test-from_IsLeafOk items v ok) refl
    parts-hold (dir_node d ns) ok = both_true (both_true (ap (λ k. dir_holds items k (forget_dir d)) (children-forgotten ns) ∙ dir-forgotten items _ d ∙ test-from_IsDirOk items _ d ok.0.own) refl) (parts-hold_among ns ok.1)

    parts-hold_among : (ns : Nodes) → AreTreesOk items ns → parts_hold_among items (forget_nodes ns) ≡ true
    parts-hold_among no_nodes ok = refl
    parts-hold_among (more_nodes n ns) ok = both_true (parts-hold n ok.0) (parts-hold_among ns ok.1)

-- ---- the top

unstamped : (down : List DownValue) → list_all has_no_stamp (map forget_entry down) ≡ true
unstamped [] = refl
unstamped (e ∷ es) = unstamped es

-- what the top keeps by itself, by names
module _ (d : DirValue) (ok : IsTopOk d) where
  each-forgotten : (r : TopRule) → top_test r (forget_dir d) ≡ true
  each-forgotten top_bus = ok.each top_bus
  each-forgotten top_level = ok.each top_level
  each-forgotten top_items = ok.each top_items
  each-forgotten no_requests = ok.each no_requests
  each-forgotten no_replies = ok.each no_replies
  each-forgotten none_parked = ok.each none_parked
  each-forgotten no_places = ok.each no_places
  each-forgotten no_epoch = refl
  each-forgotten no_stamps = unstamped d.down

  top-forgotten : IsTopOk (forget_dir d)
  top-forgotten = record { each = each-forgotten }

-- ---- time

-- the numbers of no stamp are 0, from whatever level on
none-left : (n : ℕ) → drop {A = ℕ} n [] ≡ []
none-left zero = refl
none-left (suc n) = refl

zero-ends : (level : ℕ) → stamp_ends level stamp_zero ≡ true
zero-ends zero = refl
zero-ends (suc zero) = refl
zero-ends (suc (suc zero)) = refl
zero-ends (suc (suc (suc zero))) = refl
zero-ends (suc (suc (suc (suc level)))) = ap are_zero (none-left level)

entries-end : (c : DirAt) (down : List DownValue) → Holds (each (entry_ends c) (map forget_entry down))
entries-end c [] = tt
entries-end c (e ∷ es) = (zero-ends (length (dir_path c)), entries-end c es)

module _ (s : DirAt → Statement) (of_dir : (c : Spot) (d : DirValue) → Holds (s (record { spot = c; dir = forget_dir d }))) where
  both-hold : (cs more : List DirAt) → Holds (each s cs) → Holds (each s more) → Holds (each s (cs ++ more))
  both-hold [] more first rest = rest
  both-hold (c ∷ cs) more first rest = (first.0, both-hold cs more first.1 rest)

  mutual
    dirs-hold : (c : Spot) (n : Node) → Holds (each s (dirs_in c (forget_node n)))
    dirs-hold c (leaf_node v) = tt
    dirs-hold c (dir_node d ns) = (of_dir c d, dirs-hold_among (spot_path c) (forget_dir d) 0 ns)

    dirs-hold_among : (path : List ℕ) (d : DirValue) (i : ℕ) (ns : Nodes) → Holds (each s (placed_dirs path d i (forget_nodes ns)))
    dirs-hold_among path d i no_nodes = tt
    dirs-hold_among path d i (more_nodes n ns) =
        both-hold (dirs_in (spot_in path d i) (forget_node n)) (placed_dirs path d (i + 1) (forget_nodes ns)) (dirs-hold (spot_in path d i) n) (dirs-hold_among path d (i + 1) ns)

  all-hold : (m : MachineValue) → Holds (each s (dirs_at (forget m)))
  unfolding dirs_at
  all-hold m = dirs-hold_among [] (forget m).top 0 m.kids

-- ---- the traffic

uncounted : (ts : List Traffic) → list_all is_counted (forget_traffic ts) ≡ true
uncounted [] = refl
uncounted (t ∷ ts) = uncounted ts

-- ---- what was read

is-read : (m : MachineValue) → IsMachineOk m → IsRead (forget m)
is-read m ok = record {
  parts = parts-hold (items_of_machine m) (root_of m) ok.tree;
  top = top-forgotten m.top ok.top;
  traffic = uncounted m.traffic;
  leaves = tt;
  keys = tt;
  stamps = all-hold (λ c. each (entry_ends c) c.dir.down) (λ c d. entries-end (record { spot = c; dir = forget_dir d }) d.down) m;
  epochs = all-hold epoch_ends (λ c d. zero-ends (length (dir_path (record { spot = c; dir = forget_dir d })))) m;
}

-- ---- the form

module _ (most : ℕ) where
  no_stamp : StampHasForm most stamp_zero
  no_stamp = record { s0 = zero-le; s1 = zero-le; s2 = zero-le; s3 = zero-le }

  module _ (width before : ℕ) where
    down-form : (down : List DownValue) → AllByRecursion (DownHasForm width before) down → AllByRecursion (DownHasForm width most) (map forget_entry down)
    down-form [] form = tt
    down-form (e ∷ es) form = (record { kind = form.0.kind; words = form.0.words; stamp = no_stamp }, down-form es form.1)

    leaf-form : (v : LeafValue) → LeafHasForm width before v → LeafHasForm width most (forget_leaf v)
    leaf-form v form = record { number = form.number; sizes = form.sizes; hart = form.hart; done = zero-le; ways = form.ways; buffer = form.buffer; slot = form.slot; replies = form.replies }

    dir-form : (d : DirValue) → DirHasForm width before d → DirHasForm width most (forget_dir d)
    dir-form d form = record { sizes = form.sizes; count = zero-le; epoch = no_stamp; down = down-form d.down form.down; requests = form.requests; replies = form.replies; parked = form.parked }

    mutual
      parts-form : (n : Node) → PartsHaveForm width before n → PartsHaveForm width most (forget_node n)
      parts-form (leaf_node v) form = leaf-form v form
      parts-form (dir_node d ns) form = (dir-form d form.0, parts-form_among ns form.1)

      parts-form_among : (ns : Nodes) → PartsHaveFormAmong width before ns → PartsHaveFormAmong width most (forget_nodes ns)
      parts-form_among no_nodes form = tt
      parts-form_among (more_nodes n ns) form = (parts-form n form.0, parts-form_among ns form.1)

  traffic-form : (ts : List Traffic) → AllByRecursion (TrafficHasForm most) (forget_traffic ts)
  traffic-form [] = tt
  traffic-form (t ∷ ts) = (record { reads = zero-le; copies = zero-le; erases = zero-le; exclusives = zero-le; outs = zero-le; injects = zero-le }, traffic-form ts)

  has-form : (before : ℕ) (m : MachineValue) → HasForm before m → HasForm most (forget m)
  has-form before m form = record {
    code = form.code;
    parts = parts-form m.top.sizes.width before (root_of m) form.parts;
    ops = tt;
    traffic = traffic-form m.traffic;
  }

pub forgotten-spelled : (before : ℕ) (m : MachineValue) → IsMachineOk m → HasForm before m → IsSpelled (forget m)
forgotten-spelled before m ok form = record { parts = is-read m ok; form = has-form most_counted before m form }
