-- What is judged at the end of a path is what the tables judge of the bus of that name.
-- Letters: m is a machine, n a node, d a directory over the nodes ns, x an item.
use Rattle.std.proofs.Common.{◌≡◌, ◌<◌, ◌≤◌, ℕ, zero, suc, ◌+◌, Bool, true, false, not, cond, List, [], ◌∷◌, length, drop, find, Option, Some, None, option_map, refl, sym, ap, ◌∙◌, arith}
use Rattle.std.specs.Prelude.{◌&&◌, ◌||◌, nat_eq, nat_le, if◌then◌else◌}
use Rattle.std.specs.List.{range_with_len}
use Rattle.std.proofs.lemmas.Bool.{eqb-true, ne_eqb}
use Rattle.ddm_tree.specs.StateReading.declared.StateRefusal.{StateRefusal}
use Rattle.ddm_tree.specs.StateReading.declared.StateRefusal.TheVariants.{BrokenRule}
use Rattle.ddm_tree.specs.TreeModel.State.Lists.{first_some}
use Rattle.ddm_tree.specs.TreeModel.State.Values.{DirValue, Node, Nodes, leaf_node, dir_node, no_nodes, more_nodes, children, MachineValue, root_of}
use Rattle.ddm_tree.specs.TreeModel.State.Directory.{is_top}
use Rattle.ddm_tree.specs.TreeModel.State.Place.{Where, at_top}
use Rattle.ddm_tree.specs.TreeModel.State.Shape.{IsShaped, are_below, buses_of, levels_fit, levels_fit_among, levels_known, levels_of, skeleton, skeletons, traffic_counted, tree_counts}
use Rattle.ddm_tree.specs.TreeModel.Turns.Children.{child_at}
use Rattle.ddm_tree.specs.TreeModel.Turns.Machine.{ask_bus}
use Rattle.ddm_tree.specs.TreeModel.Turns.Tree.{Name, bus_of_number, of_dir}
use Rattle.ddm_tree.proofs.TreeModel.Tests.{and-first, and-second}
use Rattle.ddm_tree.specs.TreeRules.Bus.Faces.{parent_face, faces_of}
use Rattle.ddm_tree.specs.TreeRules.Bus.Item.{bits_of, top_holds}
use Rattle.ddm_tree.specs.TreeRules.Bus.Rules.{held_at_top, items_of_machine}
use Rattle.state_judging.specs.Judged.{broken_among, broken_item, item_kept_at, keeps_rules_at, or_none}
use Rattle.ddm_tree.specs.DdmTypes.declared.sizes.TreeCounts.{TreeCounts}
use Rattle.ddm_tree.specs.Machine.{is_part}
use Rattle.ddm_tree.specs.Judging.{first_broken, keeps_places, keeps_rules, node_broken}
use Rattle.ddm_tree.specs.Path.{node_at}
use Rattle.ddm_tree.specs.Ready.{Leads}
use Rattle.ddm_tree.proofs.Along.{some_if-same, where_end}
use Rattle.state_judging.proofs.BusNumbers.{numbered-bus}
use Rattle.ddm_tree.proofs.Descend.{leads-child}
use Rattle.ddm_tree.proofs.JudgedItems.{item-at, none-left}
use Rattle.ddm_tree.proofs.Reading.{read-is}

-- ---- below the top no directory is the top

abbrev below_top : Node → Bool
below_top (leaf_node v) = true
below_top (dir_node d ns) = not (is_top d)

not-top : (level above : ℕ) → 0 < above → nat_eq level above ≡ true → not (nat_eq level 0) ≡ true
not-top level above some e =
    let same : level ≡ above = eqb-true level above e in
    let no_top : nat_eq level 0 ≡ false = ne_eqb level 0 (λ zero_is. absurd (omega (arith, some, same, zero_is))) in
    ap not no_top

levels-child : (depth above : ℕ) (ns : Nodes) (i : ℕ) → levels_fit_among depth above (skeletons ns) ≡ true → i < length (children ns) → levels_fit depth above (skeleton (child_at i (children ns))) ≡ true
levels-child depth above no_nodes i e l = absurd (omega arith)
levels-child depth above (more_nodes m ns) zero e l = and-first _ (levels_fit_among depth above (skeletons ns)) e
levels-child depth above (more_nodes m ns) (suc i) e l = levels-child depth above ns i (and-second (levels_fit depth above (skeleton m)) _ e) (omega arith)

abbrev no_steps : List ℕ
no_steps = []

level-at : (depth above : ℕ) (name : Name) (path : List ℕ) (n : Node) → Leads name path n → levels_fit depth above (skeleton n) ≡ true → 0 < above → below_top (node_at path n) ≡ true
level-at depth above name [] (leaf_node v) leads e some = refl
level-at depth above name [] (dir_node d ns) leads e some = not-top d.level above some (and-first _ _ e)
level-at depth above name (i ∷ path) (leaf_node v) leads e some =
    let same : no_steps ≡ i ∷ path = some_if-same _ (i ∷ path) leads in
    cc
level-at depth above name (i ∷ path) (dir_node d ns) leads e some =
    let next = leads-child name d ns i path leads in
    let below = and-second (nat_le above 3) _ (and-second (nat_eq d.level above) _ e) in
    level-at depth (above + 1) name path (child_at i (children ns)) next.leads (levels-child depth (above + 1) ns i below next.there) (omega arith)

-- ---- one bus

same-found : (f h : ℕ → Bool) → ((x : ℕ) → f x ≡ h x) → (xs : List ℕ) → find (λ x. not (f x)) xs ≡ find (λ x. not (h x)) xs
same-found f h same [] = refl
same-found f h same (x ∷ xs) = ap (λ b. cond (not b) (Some x) (find (λ x. not (f x)) xs)) (same x) ∙ ap (λ o. cond (not (h x)) (Some x) o) (same-found f h same xs)

one-rule : (rules top own other : Bool) → not top ≡ true → (rules && (not top || own)) ≡ (rules && (not top || other))
one-rule rules true own other e = cc
one-rule rules false own other e = refl

module _ (m : MachineValue) where
  same-rules : (d : DirValue) (ns : List Node) (x : ℕ) → not (is_top d) ≡ true → keeps_rules d ns x ≡ keeps_rules_at m d ns x
  unfolding keeps_rules
  same-rules d ns x e = one-rule (item_kept_at d ns x) (is_top d) (top_holds (parent_face x d) (bits_of (parent_face x d) (faces_of x ns))) (held_at_top m x) e

  same-broken : (d : DirValue) (ns : List Node) → not (is_top d) ≡ true → first_broken (items_of_machine m) d ns ≡ broken_item m d ns
  unfolding keeps_places
  same-broken d ns e = ap (λ o. if keeps_places (items_of_machine m) d then o else Some 0) (same-found (keeps_rules d ns) (keeps_rules_at m d ns) (λ x. same-rules d ns x e) (range_with_len 0 (items_of_machine m)))

  top-broken : first_broken (items_of_machine m) m.top (children m.kids) ≡ broken_item m m.top (children m.kids)
  unfolding keeps_places keeps_rules
  top-broken = refl

  node-broken : (w : Where) (n : Node) → below_top n ≡ true → node_broken (items_of_machine m) n ≡ of_dir (λ w d ns. broken_item m d ns) None w n
  node-broken w (leaf_node v) e = refl
  node-broken w (dir_node d ns) e = same-broken d (children ns) e

  -- ---- at the end of a path

  end-broken : (name : Name) (path : List ℕ) → Leads name path (root_of m) → IsShaped m → (w : Where) → node_broken (items_of_machine m) (node_at path (root_of m)) ≡ of_dir (λ w d ns. broken_item m d ns) None w (node_at path (root_of m))
  end-broken name [] leads shaped w = top-broken
  end-broken name (i ∷ path) leads shaped w =
      let next = leads-child name m.top m.kids i path leads in
      let depth = levels_of (skeleton (root_of m)) in
      let kids = and-second (nat_le 0 3) _ (and-second (nat_eq m.top.level 0) _ (shaped.each levels_known)) in
      let below = level-at depth 1 name path (child_at i (children m.kids)) next.leads (levels-child depth 1 m.kids i kids next.there) (omega arith) in
      node-broken w (node_at path (child_at i (children m.kids))) below

  module _ (bus : ℕ) (path : List ℕ) (leads : Leads (bus_of_number bus) path (root_of m)) (shaped : IsShaped m) where
    pub judged-is : node_broken (items_of_machine m) (node_at path (root_of m)) ≡ or_none m (ask_bus bus (λ w d ns. broken_item m d ns) None m)
    judged-is = end-broken (bus_of_number bus) path leads shaped (where_end at_top path (root_of m)) ∙ ap (or_none m) (read-is m (bus_of_number bus) path leads (of_dir (λ w d ns. broken_item m d ns) None))

-- ---- bus by bus

module _ (m : MachineValue) (n i : ℕ) (inside : i < n) (found : Option StateRefusal) (so_far : found ≡ broken_among m (drop i (range_with_len 0 n))) (item : Option ℕ) (is : item ≡ or_none m (ask_bus i (λ w d ns. broken_item m d ns) None m)) where
  here : found ≡ first_some (option_map (λ x. BrokenRule i x) item) (broken_among m (drop (i + 1) (range_with_len 0 n)))
  here = so_far ∙ ap (broken_among m) (item-at n i inside) ∙ ap (λ o. first_some (option_map (λ x. BrokenRule i x) o) (broken_among m (drop (i + 1) (range_with_len 0 n)))) (sym is)

  pub bus-broken : (x : ℕ) → item ≡ Some x → Some (BrokenRule i x) ≡ found
  bus-broken x e = sym (here ∙ ap (λ o. first_some (option_map (λ x. BrokenRule i x) o) (broken_among m (drop (i + 1) (range_with_len 0 n)))) e)

  pub bus-holds : item ≡ None → found ≡ broken_among m (drop (i + 1) (range_with_len 0 n))
  bus-holds e = here ∙ ap (λ o. first_some (option_map (λ x. BrokenRule i x) o) (broken_among m (drop (i + 1) (range_with_len 0 n)))) e

pub buses-hold : (m : MachineValue) (n i : ℕ) (found : Option StateRefusal) → n ≤ i → found ≡ broken_among m (drop i (range_with_len 0 n)) → None ≡ found
buses-hold m n i found past so_far = sym (so_far ∙ ap (broken_among m) (none-left n i past))

-- as many buses as traffic is counted for
module _ (m : MachineValue) (counts : TreeCounts) (bus : ℕ) (shaped : IsShaped m) (counted : tree_counts m ≡ counts) where
  buses-counted : counts.buses ≡ length m.traffic
  buses-counted = ap (λ n. n.buses) (sym counted) ∙ eqb-true _ _ (and-first _ (are_below (length m.traffic) (buses_of (skeleton (root_of m)) [])) (shaped.each traffic_counted))

  pub bus-there : bus < counts.buses → is_part (bus_of_number bus) m ≡ true
  bus-there l =
      let same : (tree_counts m).buses ≡ counts.buses = ap (λ n. n.buses) counted in
      numbered-bus m bus shaped (omega (arith, l, same))

  pub bus-inside : bus < counts.buses → bus < length m.traffic
  bus-inside l = omega (arith, l, buses-counted)

  pub past-buses : counts.buses ≤ bus → length m.traffic ≤ bus
  past-buses l = omega (arith, l, buses-counted)
