-- The lines of a machine's harts, buses and items, one more at a time.
use Rattle.std.proofs.Common.{◌≡◌, ◌<◌, ◌≤◌, ℕ, zero, suc, ◌+◌, ◌++◌, List, [], ◌∷◌, length, map, take, Option, Some, None, true, get_or, refl, sym, ap, ◌∙◌, arith, add-one, add-zero, zero-add}
use Rattle.std.specs.Prelude.{slice_get, nat_le, nat_eq}
use Rattle.std.proofs.lemmas.Bool.{eqb-true, leb-true}
use Rattle.std.proofs.lemmas.List.{append-nil, append_assoc, length-take-le, length-map}
use Rattle.report.specs.DdmTypes.declared.sizes.LeafState.{LeafState}
use Rattle.report.specs.DdmTypes.ItemTable.{ItemRow, no_row}
use Rattle.report.specs.RvHart.HartState.{HartState}
use Rattle.report.specs.TreeModel.declared.Traffic.{Traffic}
use Rattle.report.specs.TreeModel.State.Values.{LeafValue, MachineValue, root_of}
use Rattle.report.specs.TreeModel.State.Blank.{no_hart}
use Rattle.report.specs.TreeModel.State.Shape.{IsShaped, Skeleton, Skeletons, leaf_bone, dir_bone, no_bones, more_bones, skeleton, levels_of, first_levels, levels_fit, levels_fit_among, are_below, depth_of, tree_counts, buses_of, levels_known, traffic_counted}
use Rattle.report.specs.TreeModel.State.Leaf.{state_at}
use Rattle.report.specs.TreeModel.Turns.Found.{states_of}
use Rattle.report.specs.TreeModel.Turns.Machine.{machine_leaves, no_traffic}
use Rattle.report.proofs.TreeModel.Tests.{and-first, and-second}
use Rattle.text_model.specs.Report.{HartView, ItemView, bus_line, bus_lines, bus_lines_from}
use Rattle.text_model.specs.Run.{item_view, item_views, view_of}
use Rattle.report.specs.DdmTree.Reads.{counted_hart_of, state_of}
use Rattle.report.proofs.DdmTree.LeafList.{leaf-listed, leaf-number, leaves-counted}
use Rattle.report.proofs.InspectorCrate.OneMore.{got-some, taken-one}
use Rattle.report.specs.MachineView.{harts_of}

-- ---- harts

abbrev state_in : LeafValue → HartState
state_in v = record { hart = v.hart; done = v.done }

view-at : (vs : List LeafValue) (k n : ℕ) (h : HartState) (f : LeafValue → HartView) → slice_get (map state_in vs) k ≡ Some h → ((v : LeafValue) → f v ≡ record { number = v.number; hart = v.hart; done = v.done }) → ((v : LeafValue) → slice_get vs k ≡ Some v → v.number ≡ n) → slice_get (map f vs) k ≡ Some (record { number = n; hart = h.hart; done = h.done })
view-at [] k n h f is shows numbered = cc
view-at (v ∷ vs) zero n h f is shows numbered =
    let state : state_in v ≡ h = cc in
    let number : v.number ≡ n = numbered v refl in
    rw (shows v, number, ← state) refl
view-at (v ∷ vs) (suc k) n h f is shows numbered = view-at vs k n h f is shows numbered

pub hart-shown : (m : MachineValue) (k : ℕ) (h : HartState) → IsShaped m → Some h ≡ counted_hart_of k m → slice_get (harts_of m) k ≡ Some (record { number = k; hart = h.hart; done = h.done })
unfolding view_of
hart-shown m k h shaped is = view-at (machine_leaves m) k k h _ (leaf-listed state_in (record { hart = no_hart; done = 0 }) k m shaped ∙ sym is) (λ v. refl) (λ v there. leaf-number k m v shaped there)

pub harts-counted : (m : MachineValue) → length (harts_of m) ≡ (tree_counts m).leaves
unfolding view_of
harts-counted m = length-map (machine_leaves m) _ ∙ sym (leaves-counted m)

-- ---- buses

buses-pushed : (b : ℕ) (ts : List Traffic) (t : Traffic) → bus_lines_from b (ts ++ t ∷ []) ≡ bus_lines_from b ts ++ bus_line (b + length ts) t
unfolding bus_lines_from
buses-pushed b [] t = append-nil (bus_line b t) ∙ ap (λ n. bus_line n t) (sym (add-zero b))
buses-pushed b (u ∷ us) t =
    let next : b + 1 + length us ≡ b + suc (length us) = omega arith in
    ap (λ l. bus_line b u ++ l) (buses-pushed (b + 1) us t ∙ ap (λ n. bus_lines_from (b + 1) us ++ bus_line n t) next) ∙ sym (append_assoc (bus_line b u) (bus_lines_from (b + 1) us) (bus_line (b + suc (length us)) t))

pub more-buses : (ts : List Traffic) (k : ℕ) → k < length ts → bus_lines (take (k + 1) ts) ≡ bus_lines (take k ts) ++ bus_line k (get_or ts k no_traffic)
more-buses ts k l =
    let size : length (take k ts) ≡ k = length-take-le k ts (omega (arith, l)) in
    let t = get_or ts k no_traffic in
    rw (add-one, taken-one ts k t (got-some ts k no_traffic l)) (buses-pushed 0 (take k ts) t ∙ ap (λ n. bus_lines (take k ts) ++ bus_line n t) (zero-add (length (take k ts)) ∙ size))

-- traffic is counted for each bus
pub buses-counted : (m : MachineValue) → IsShaped m → length m.traffic ≡ (tree_counts m).buses
buses-counted m shaped = sym (eqb-true _ _ (and-first _ (are_below (length m.traffic) (buses_of (skeleton (root_of m)) [])) (shaped.each traffic_counted)))

-- ---- items

views-counted : (m : MachineValue) (x : ℕ) (rows : List ItemRow) → length (item_views m x rows) ≡ length rows
views-counted m x [] = refl
views-counted m x (row ∷ rows) = ap suc (views-counted m (x + 1) rows)

-- as many items are shown as there are
pub items-counted : (m : MachineValue) → length (item_views m 0 m.items.rows) ≡ length m.items.rows
items-counted m = views-counted m 0 m.items.rows

view-there : (m : MachineValue) (x k : ℕ) (rows : List ItemRow) (d : ItemView) → k < length rows → get_or (item_views m x rows) k d ≡ item_view m (x + k) (get_or rows k no_row)
view-there m x k [] d inside = absurd (omega (arith, inside))
view-there m x zero (row ∷ rows) d inside = ap (λ n. item_view m n row) (sym (add-zero x))
view-there m x (suc k) (row ∷ rows) d inside =
    let next : x + 1 + k ≡ x + suc k = omega arith in
    view-there m (x + 1) k rows d (omega (arith, inside)) ∙ ap (λ n. item_view m n (get_or rows k no_row)) next

-- an item's view stands at its number
pub item-shown : (m : MachineValue) (k : ℕ) (d : ItemView) → k < length m.items.rows → get_or (item_views m 0 m.items.rows) k d ≡ item_view m k (get_or m.items.rows k no_row)
item-shown m k d inside = view-there m 0 k m.items.rows d inside ∙ ap (λ n. item_view m n (get_or m.items.rows k no_row)) (zero-add k)

-- the state of an entry stands at its leaf's number
pub state-shown : (m : MachineValue) (leaf x : ℕ) (s : Option LeafState) → IsShaped m → Some s ≡ state_of leaf x m → slice_get (states_of x m) leaf ≡ Some s
unfolding states_of
state-shown m leaf x s shaped is = leaf-listed (state_at x) None leaf m shaped ∙ sym is

-- ---- what stands at a place

pub got-is : {X : Type 0} (xs : List X) (k : ℕ) (x d : X) → slice_get xs k ≡ Some x → get_or xs k d ≡ x
got-is [] k x d is = cc
got-is (y ∷ ys) zero x d is = cc
got-is (y ∷ ys) (suc k) x d is = got-is ys k x d is

-- ---- levels

mutual
  levels-few : (depth above : ℕ) (b : Skeleton) → above ≤ 4 → levels_fit depth above b ≡ true → levels_of b + above ≤ 4
  levels-few depth above (leaf_bone number sizes) l e = omega (arith, l)
  levels-few depth above (dir_bone bus level sizes bones) l e =
      let few : above ≤ 3 = leb-true _ _ (and-first _ (levels_fit_among depth (above + 1) bones) (and-second (nat_eq level above) _ e)) in
      let below = first-few depth (above + 1) bones (omega (arith, few)) (and-second (nat_le above 3) _ (and-second (nat_eq level above) _ e)) in
      omega (arith, below)

  first-few : (depth above : ℕ) (bs : Skeletons) → above ≤ 4 → levels_fit_among depth above bs ≡ true → first_levels bs + above ≤ 4
  first-few depth above no_bones l e = omega (arith, l)
  first-few depth above (more_bones b bs) l e = levels-few depth above b l (and-first _ (levels_fit_among depth above bs) e)

pub depth-few : (m : MachineValue) → IsShaped m → depth_of m ≤ 4
depth-few m shaped =
    let few = levels-few (depth_of m) 0 (skeleton (root_of m)) (omega arith) (shaped.each levels_known) in
    omega (arith, few)
