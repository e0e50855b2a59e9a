-- What the machine of accepted files has before its first turn: few places, a way in each leaf, and a hart that runs.
-- Letters: t is a tree, i an image, m a machine, n is a node, ns and ms are nodes, v a leaf, vs are leaves, p and q are tests.
use Rattle.std.proofs.Common.{◌≡◌, ℕ, zero, suc, ◌+◌, ◌<◌, Bool, true, false, ◌&&◌, List, [], ◌∷◌, length, map, take, drop, None, Some, Option, Ok, refl, sym, ap, subst, ◌∙◌, arith, inl, inr}
use Rattle.std.specs.Prelude.{is_none, nat_eq, nat_le, nat_lt, if◌then◌else◌}
use Rattle.std.specs.List.{list_all, range_with_len}
use Rattle.std.proofs.lemmas.Bool.{and_from, and_parts, eq-eqb, le-leb, lt-ltb, ltb-true}
use Rattle.tree_model.specs.FlatModel.Hart.{hart_start}
use Rattle.tree_model.specs.Start.Machine.{start_leaf, start_leaves, start_machine, start_of, start_or, start_refusal}
use Rattle.tree_model.specs.Start.Memory.{start_words}
use Rattle.tree_model.specs.Start.Nodes.{cut_in, dir_over, dir_sizes, dirs_over, leaf_for, placed, placed_at, placed_in, placed_items, under_levels}
use Rattle.tree_model.specs.Start.Sources.{ImageValue, TreeValue, leaf_count, width_of}
use Rattle.tree_model.specs.State.Lists.{map_from}
use Rattle.tree_model.specs.State.Shape.{IsShaped, bone_count, skeleton, skeletons, widths_bounded, widths_fit, widths_fit_among}
use Rattle.tree_model.specs.State.Values.{DirSizes, LeafValue, MachineValue, Node, Nodes, leaf_node, dir_node, no_nodes, more_nodes, nodes, root_of}
use Rattle.tree_model.specs.Turns.Machine.{leaves_among, leaves_of, machine_leaves}
use Rattle.outcomes.specs.OutcomeModel.Halted.{all_halted, has_halted}
use Rattle.any_runs.proofs.StartParts.StartNew.{start-new}
use Rattle.any_runs.specs.AnyMachine.Any.{machine_state}
use Rattle.any_runs.specs.AnyMachine.Kind.{kind_of}
use Rattle.any_runs.specs.AnyMachine.declared.machine.AnyMachine.{AnyMachine}
use Rattle.any_runs.specs.BusLaws.IsTree.{IsTree}
use Rattle.any_runs.specs.DdmTree.Machine.{MachineState}
use Rattle.value_laws.specs.Images.{IsOfBytes}
use Rattle.search_laws.specs.Space.{IsOneOf}
use Rattle.explorer.specs.SearchModel.Machines.{has_way, has_ways}
use Rattle.explorer.specs.Searching.{KeysTell}
use Rattle.explorer.proofs.StateKeys.Runs.{runs-told}
use Rattle.machine_states.specs.Places.{few_places, few_places_among, HasFewPlaces}
use Rattle.machine_states.specs.Ready.{CanBegin}
use Rattle.machine_states.specs.Started.{HasSmallRooms, IsStarted}
use Rattle.machine_states.specs.Words.{HasItemWords}
use Rattle.machine_states.proofs.Few.{leaf-ways}

-- ---- a test of each node of a new tree

module _ {X : Type 0} (p : X → Bool) where
  pass-take : (j : ℕ) (xs : List X) → list_all p xs ≡ true → list_all p (take j xs) ≡ true
  pass-take zero [] h = refl
  pass-take (suc j) [] h = refl
  pass-take zero (x ∷ xs) h = refl
  pass-take (suc j) (x ∷ xs) h = let both = and_parts (p x) (list_all p xs) h in and_from _ _ both.0 (pass-take j xs both.1)

  pass-drop : (j : ℕ) (xs : List X) → list_all p xs ≡ true → list_all p (drop j xs) ≡ true
  pass-drop zero [] h = refl
  pass-drop (suc j) [] h = refl
  pass-drop zero (x ∷ xs) h = h
  pass-drop (suc j) (x ∷ xs) h = pass-drop j xs ((and_parts (p x) (list_all p xs) h).1)

-- which a directory passes whose children do
module _ (p : Node → Bool) (sizes : DirSizes) (over : (level bus : ℕ) (ms : List Node) → list_all p ms ≡ true → p (dir_over sizes level bus ms) ≡ true) where
  dirs-pass : (level bus : ℕ) (l : List ℕ) (ms : List Node) → list_all p ms ≡ true → list_all p (dirs_over sizes level bus (cut_in l ms)) ≡ true
  dirs-pass level bus [] ms h = refl
  dirs-pass level bus (j ∷ l) ms h = and_from _ _ (over level bus (take j ms) (pass-take p j ms h)) (dirs-pass level (bus + 1) l (drop j ms) (pass-drop p j ms h))

  levels-pass : (level bus : ℕ) (ls : List (List ℕ)) (leaves : List Node) → list_all p leaves ≡ true → list_all p (under_levels sizes level bus ls leaves) ≡ true
  levels-pass level bus [] leaves h = h
  levels-pass level bus (l ∷ ls) leaves h = dirs-pass level bus l (under_levels sizes (level + 1) (bus + length l) ls leaves) (levels-pass (level + 1) (bus + length l) ls leaves h)

nodes-pass : (p : Node → Bool) (q : LeafValue → Bool) → ((v : LeafValue) → p (leaf_node v) ≡ q v) → (vs : List LeafValue) → list_all q vs ≡ true → list_all p (map leaf_node vs) ≡ true
nodes-pass p q same [] h = refl
nodes-pass p q same (v ∷ vs) h = let both = and_parts (q v) (list_all q vs) h in and_from _ _ (same v ∙ both.0) (nodes-pass p q same vs both.1)

-- a test of a leaf that items don't change which come into it
module _ (q : LeafValue → Bool) (keeps : (x : ℕ) (words : List ℕ) (v : LeafValue) → q (placed x words v) ≡ q v) where
  at-keeps : (leaf x : ℕ) (words : List ℕ) (i : ℕ) (v : LeafValue) → q (placed_at leaf x words i v) ≡ q v
  at-keeps leaf x words i v = elim (nat_eq i leaf) as (λ b. q (if b then placed x words v else v) ≡ q v) [ true ↦ keeps x words v | false ↦ refl ]

  from-keeps : (leaf x : ℕ) (words : List ℕ) (i : ℕ) (vs : List LeafValue) → list_all q (map_from (placed_at leaf x words) i vs) ≡ list_all q vs
  from-keeps leaf x words i [] = refl
  from-keeps leaf x words i (v ∷ vs) = rw (at-keeps leaf x words i v, from-keeps leaf x words (i + 1) vs) refl

  in-keeps : (x : ℕ) (words : List ℕ) (vs : List LeafValue) (o : Option ℕ) → list_all q (placed_in x words vs o) ≡ list_all q vs
  in-keeps x words vs None = refl
  in-keeps x words vs (Some leaf) = from-keeps leaf x words 0 vs

  items-keep : (x : ℕ) (ws : List (List ℕ)) (vs : List LeafValue) → list_all q (placed_items x ws vs) ≡ list_all q vs
  unfolding placed_items
  items-keep x [] vs = refl
  items-keep x (w ∷ ws) vs = items-keep (x + 1) ws (placed_in x w vs (leaf_for vs x)) ∙ in-keeps x w vs (leaf_for vs x)

  new-pass : (f : ℕ → LeafValue) (a n : ℕ) → ((j : ℕ) → q (f j) ≡ true) → list_all q (map f (range_with_len a n)) ≡ true
  new-pass f a zero h = refl
  new-pass f a (suc n) h = and_from _ _ (h a) (new-pass f (a + 1) n h)

  started-pass : (t : TreeValue) (i : ImageValue) → ((j : ℕ) → q (start_leaf t i j) ≡ true) → list_all q (start_leaves t i) ≡ true
  started-pass t i h = items-keep 0 (start_words t i) (map (start_leaf t i) (range_with_len 0 (leaf_count t))) ∙ new-pass (start_leaf t i) 0 (leaf_count t) h

-- ---- few places

module _ (ways : ℕ) where
  abbrev has_few : Node → Bool
  has_few n = few_places ways (skeleton n)

  each-few : (ms : List Node) → few_places_among ways (skeletons (nodes ms)) ≡ list_all has_few ms
  each-few [] = refl
  each-few (m ∷ ms) = ap (λ b. has_few m && b) (each-few ms)

  abbrev leaf_few : LeafValue → Bool
  leaf_few v = nat_eq v.sizes.way_count ways && nat_le v.sizes.buffer_room 255

start-few : (t : TreeValue) (i : ImageValue) → HasSmallRooms t → few_places t.way_count (skeleton (root_of (start_machine t i))) ≡ true
unfolding start_machine
start-few t i small =
    let ways = t.way_count in
    let sizes = dir_sizes t.sizes (width_of t) in
    let leaves : List Node = map leaf_node (start_leaves t i) in
    let own : list_all (leaf_few ways) (start_leaves t i) ≡ true = started-pass (leaf_few ways) (λ x words v. refl) t i (λ j. and_from _ _ (eq-eqb ways ways refl) (le-leb t.sizes.buffer 255 small.buffer)) in
    let below : list_all (has_few ways) leaves ≡ true = nodes-pass (has_few ways) (leaf_few ways) (λ v. refl) (start_leaves t i) own in
    let over : (level bus : ℕ) (ms : List Node) → list_all (has_few ways) ms ≡ true → has_few ways (dir_over sizes level bus ms) ≡ true = λ level bus ms h. and_from _ _ (le-leb t.sizes.parking 255 small.parking) (each-few ways ms ∙ h) in
    each-few ways (under_levels sizes 1 1 (drop 1 t.levels) leaves) ∙ levels-pass (has_few ways) sizes over 1 1 (drop 1 t.levels) leaves below

-- ---- harts that run

abbrev runs : LeafValue → Bool
runs v = is_none v.hart.halt

abbrev mutual
  each_runs : Node → Bool
  each_runs (leaf_node v) = runs v
  each_runs (dir_node d ns) = each_runs_among ns

  each_runs_among : Nodes → Bool
  each_runs_among no_nodes = true
  each_runs_among (more_nodes n ns) = each_runs n && each_runs_among ns

mutual
  runs-in : (n : Node) (rest : List LeafValue) → each_runs n ≡ true → list_all runs rest ≡ true → list_all runs (leaves_of n rest) ≡ true
  runs-in (leaf_node v) rest h others = and_from _ _ h others
  runs-in (dir_node d ns) rest h others = runs-among ns rest h others

  runs-among : (ns : Nodes) (rest : List LeafValue) → each_runs_among ns ≡ true → list_all runs rest ≡ true → list_all runs (leaves_among ns rest) ≡ true
  runs-among no_nodes rest h others = others
  runs-among (more_nodes n ns) rest h others =
      let both = and_parts (each_runs n) (each_runs_among ns) h in
      runs-in n (leaves_among ns rest) both.0 (runs-among ns rest both.1 others)

each-runs : (ms : List Node) → each_runs_among (nodes ms) ≡ list_all each_runs ms
each-runs [] = refl
each-runs (m ∷ ms) = ap (λ b. each_runs m && b) (each-runs ms)

new-runs : (t : TreeValue) (i : ImageValue) (j : ℕ) → runs (start_leaf t i j) ≡ true
unfolding hart_start
new-runs t i j = refl

start-runs : (t : TreeValue) (i : ImageValue) → list_all runs (machine_leaves (start_machine t i)) ≡ true
unfolding start_machine
start-runs t i =
    let sizes = dir_sizes t.sizes (width_of t) in
    let leaves : List Node = map leaf_node (start_leaves t i) in
    let below : list_all each_runs leaves ≡ true = nodes-pass each_runs runs (λ v. refl) (start_leaves t i) (started-pass runs (λ x words v. refl) t i (new-runs t i)) in
    let over : (level bus : ℕ) (ms : List Node) → list_all each_runs ms ≡ true → each_runs (dir_over sizes level bus ms) ≡ true = λ level bus ms h. each-runs ms ∙ h in
    let kids = under_levels sizes 1 1 (drop 1 t.levels) leaves in
    runs-among (nodes kids) [] (each-runs kids ∙ levels-pass each_runs sizes over 1 1 (drop 1 t.levels) leaves below) refl

-- a tree has a leaf
mutual
  some-leaf : (n : Node) (rest : List LeafValue) → widths_fit (skeleton n) ≡ true → 0 < length (leaves_of n rest)
  some-leaf (leaf_node v) rest fit = omega arith
  some-leaf (dir_node d ns) rest fit =
      let some = and_parts (nat_lt 0 (bone_count (skeletons ns))) (nat_le (bone_count (skeletons ns)) 16 && widths_fit_among (skeletons ns)) fit in
      let each = and_parts (nat_le (bone_count (skeletons ns)) 16) (widths_fit_among (skeletons ns)) some.1 in
      some-leaf_among ns rest (ltb-true 0 (bone_count (skeletons ns)) some.0) each.1

  some-leaf_among : (ns : Nodes) (rest : List LeafValue) → 0 < bone_count (skeletons ns) → widths_fit_among (skeletons ns) ≡ true → 0 < length (leaves_among ns rest)
  some-leaf_among no_nodes rest some fit = absurd (omega (arith, some))
  some-leaf_among (more_nodes n ns) rest some fit = some-leaf n (leaves_among ns rest) ((and_parts (widths_fit (skeleton n)) (widths_fit_among (skeletons ns)) fit).0)

first-runs : (vs : List LeafValue) → 0 < length vs → list_all runs vs ≡ true → list_all has_halted vs ≡ false
first-runs [] some h = absurd (omega (arith, some))
first-runs (v ∷ vs) some h = elim v.hart.halt as (λ o. is_none o ≡ true → (Rattle.std.specs.Prelude.is_some o && list_all has_halted vs) ≡ false) [
  | None ↦ λ e. refl
  | Some cause ↦ λ e. cc
] ((and_parts (runs v) (list_all runs vs) h).0)

-- ---- the machine

start-is : (t : TreeValue) (i : ImageValue) (m : MachineValue) → start_of t i ≡ Ok m → (start_refusal t i ≡ None) × (start_machine t i ≡ m)
unfolding start_of
start-is t i m built = elim (start_refusal t i) as (λ o. start_or o t i ≡ Ok m → (o ≡ None) × (start_machine t i ≡ m)) [
  | None ↦ λ e. (refl, (let same : start_machine t i ≡ m = cc in same))
  | Some r ↦ λ e. absurd (let wrong : ⊥ = cc in wrong)
] built

module _ (m : MachineValue) (s : IsStarted m) where
  abbrev none : start_refusal s.tree s.image ≡ None
  none = (start-is s.tree s.image m s.built).0

  abbrev same : start_machine s.tree s.image ≡ m
  same = (start-is s.tree s.image m s.built).1

  pub started-shaped : IsShaped m
  started-shaped = subst IsShaped same (start-new s.tree s.image s.accepted none).shaped

  pub started-places : HasFewPlaces s.tree.way_count m
  started-places = subst (HasFewPlaces s.tree.way_count) same (record {
    few = start-few s.tree s.image s.rooms;
    items = _;
    within = record { rooms = (start-new s.tree s.image s.accepted none).rooms };
  })

  pub started-width : HasItemWords (width_of s.tree) m
  unfolding start_machine
  started-width = subst (HasItemWords (width_of s.tree)) same refl

  pub started-none : m.ops ≡ []
  unfolding start_machine
  started-none = subst (λ (m : MachineValue). m.ops ≡ []) same refl

  pub started-ways : has_ways m ≡ true
  unfolding has_ways
  started-ways = each (machine_leaves m) (leaf-ways s.tree.way_count m started-places) where
    each : (vs : List LeafValue) → ((v : LeafValue) → IsOneOf vs v → v.sizes.way_count ≡ s.tree.way_count) → list_all has_way vs ≡ true
    each [] h = refl
    each (v ∷ vs) h = and_from _ _ (lt-ltb 0 v.sizes.way_count (omega (arith, h v (inl refl), s.accepted.ways))) (each vs (λ u i. h u (inr i)))

  pub started-runs : all_halted m ≡ false
  unfolding all_halted
  started-runs = first-runs (machine_leaves m) (some-leaf (root_of m) [] (started-shaped.each widths_bounded)) (subst (λ m. list_all runs (machine_leaves m) ≡ true) same (start-runs s.tree s.image))

  pub started-told : KeysTell m
  started-told = record { tell = runs-told s.tree s.image m s.accepted s.of_bytes s.built }

-- ---- the machine as the code has it

module _ (start : AnyMachine) (can : CanBegin start) where
  pub begin-places : HasFewPlaces (kind_of start).ways (machine_state start).machine
  begin-places = subst (λ ways. HasFewPlaces ways (machine_state start).machine) (sym can.ways) (started-places (machine_state start).machine can.started)

  pub begin-width : HasItemWords (kind_of start).width (machine_state start).machine
  begin-width = subst (λ width. HasItemWords width (machine_state start).machine) (sym can.width) (started-width (machine_state start).machine can.started)

  pub begin-none : (machine_state start).machine.ops ≡ []
  begin-none = started-none (machine_state start).machine can.started

-- a machine that was built of an accepted tree and an image
pub can-begin : (t : TreeValue) (i : ImageValue) (m : AnyMachine) → IsTree t → HasSmallRooms t → IsOfBytes i → start_refusal t i ≡ None → machine_state m ≡ record { machine = start_machine t i; spare = 0; turns = 0 }
    → (kind_of m).ways ≡ t.way_count → (kind_of m).width ≡ width_of t → CanBegin m
unfolding start_of
can-begin t i m tree rooms bytes none is ways width = record {
  started = record { tree = t; image = i; accepted = tree; rooms = rooms; of_bytes = bytes; built = rw (none, is) refl };
  ways = ways;
  width = width;
  turns = ap (λ (s : MachineState). s.turns) is;
}
