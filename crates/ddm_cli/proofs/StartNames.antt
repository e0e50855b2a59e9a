-- What a turn of a schedule names, which is judged by a tree, is there in the tree's machine before the first turn; and its depth.
use Rattle.std.proofs.Common.{◌≡◌, ℕ, zero, suc, ◌+◌, ◌<◌, ◌≤◌, Bool, true, false, List, [], ◌∷◌, ◌++◌, length, drop, map, Option, Some, None, refl, sym, ap, subst, ◌∙◌, cond, arith}
use Rattle.std.specs.Prelude.{◌||◌, All, is_some, nat_eq, nat_lt, slice_get, sum}
use Rattle.std.specs.List.{list_any}
use Rattle.std.proofs.lemmas.Bool.{eqb-true, ltb-true}
use Rattle.std.proofs.lemmas.Bool.Decides.{nat_tests}
use Rattle.std.proofs.lemmas.List.{length-map}
use Rattle.std.proofs.lemmas.List.Elements.{All-weaker}
use Rattle.ddm_cli.specs.DdmTypes.declared.turns.Turn.{Turn}
use Rattle.ddm_cli.specs.DdmTypes.declared.sizes.TreeCounts.{TreeCounts}
use Rattle.ddm_cli.specs.DdmTypes.Keys.{key_zero}
use Rattle.ddm_cli.specs.TreeModel.State.Values.{DirSizes, Node, Nodes, leaf_node, dir_node, no_nodes, more_nodes, nodes, root_of}
use Rattle.ddm_cli.specs.TreeModel.State.Place.{at_top, key_at_leaf}
use Rattle.ddm_cli.specs.TreeModel.State.Shape.{skeleton, skeletons, leaf_numbers_of, leaf_numbers_among, count_from, leaves_numbered, depth_of}
use Rattle.ddm_cli.specs.TreeModel.Start.Sources.{TreeValue, ImageValue, bus_widths, leaf_count, width_of}
use Rattle.ddm_cli.specs.TreeModel.Start.Nodes.{dir_sizes, under_levels}
use Rattle.ddm_cli.specs.TreeModel.Start.Machine.{start_leaves, start_machine, start_refusal}
use Rattle.ddm_cli.specs.TreeModel.Turns.Machine.{child_count, is_child_of, names_part}
use Rattle.ddm_cli.specs.TreeModel.Turns.Tree.{leaf_of_number, bus_of_number, has_node, has_among, of_dir, of_leaf}
use Rattle.ddm_cli.proofs.TreeModel.NamedNode.{read_in-is_some}
use Rattle.ddm_cli.proofs.TreeModel.Tests.{and-first, and-second}
use Rattle.ddm_cli.proofs.TreeModel.Children.{children-nodes}
use Rattle.ddm_cli.specs.BusLaws.IsTree.{AreUnder, IsTree}
use Rattle.ddm_cli.proofs.BusLaws.StartLevels.{leaf_total, sum-more}
use Rattle.ddm_cli.specs.TextModel.declared.ScheduleRefusal.{ScheduleRefusal}
use Rattle.ddm_cli.specs.TextModel.Schedule.{child_fault, turn_fault}
use Rattle.ddm_cli.specs.TextModel.ReadBack.{IsTurnOf}
use Rattle.ddm_cli.specs.ScheduleLog.Shapes.{shape_view}
use Rattle.ddm_cli.specs.DdmTree.Machine.{MachineState}
use Rattle.ddm_cli.specs.StartParts.Parts.{start_kids}
use Rattle.ddm_cli.proofs.StartParts.Levels.{HasFirst, has-first, levels-length}
use Rattle.ddm_cli.proofs.StartParts.NewLeaves.{leaves-length}
use Rattle.ddm_cli.proofs.StartParts.StartNew.{start-new}
use Rattle.ddm_cli.specs.Parts.{HasStart}
use Rattle.ddm_cli.proofs.BusWidths.{HasWidths, HaveWidths, flat, flat_cons, drop_cons, or_second, kids_wide, levels_named, width_read}

-- ---- tests

or_none : (b : Bool) → (b || false) ≡ true → b ≡ true
or_none true e = refl
or_none false e = e

-- a test that refuses nothing
passes : (b : Bool) (r : ScheduleRefusal) → cond b None (Some r) ≡ None → b ≡ true
passes true r e = refl
passes false r e = cc

slice_get-inside : (xs : List ℕ) (n x : ℕ) → slice_get xs n ≡ Some x → n < length xs
slice_get-inside [] n x e = absurd (cc e)
slice_get-inside (y ∷ ys) zero x e = omega arith
slice_get-inside (y ∷ ys) (suc n) x e = let more = slice_get-inside ys n x e in omega (arith, more)

-- ---- leaves, by their numbers

module _ (h : ℕ) where
  abbrev has_number : List ℕ → Bool
  has_number ks = list_any (λ k. nat_eq k h) ks

  apart : (a b c d : Bool) → b ≡ (c || d) → (a || b) ≡ ((a || c) || d)
  apart true b c d e = refl
  apart false b c d e = e

  mutual
    number_there : (n : Node) (rest : List ℕ) → has_number (leaf_numbers_of (skeleton n) rest) ≡ (has_node (leaf_of_number h) n || has_number rest)
    number_there (leaf_node v) rest = refl
    number_there (dir_node d ns) rest = numbers_there ns rest

    numbers_there : (ns : Nodes) (rest : List ℕ) → has_number (leaf_numbers_among (skeletons ns) rest) ≡ (has_among (leaf_of_number h) ns || has_number rest)
    numbers_there no_nodes rest = refl
    numbers_there (more_nodes n ns) rest = number_there n (leaf_numbers_among (skeletons ns) rest) ∙ apart (has_node (leaf_of_number h) n) _ _ _ (numbers_there ns rest)

  -- numbers that count from n have each one from there on
  counted_there : (n : ℕ) (ks : List ℕ) → count_from n ks ≡ true → n ≤ h → h < n + length ks → has_number ks ≡ true
  counted_there n [] counted low high = absurd (omega (arith, low, high))
  counted_there n (k ∷ ks) counted low high =
      let here : k ≡ n = eqb-true k n (and-first _ (count_from (n + 1) ks) counted) in
      elim (nat_eq k h) as (λ own. nat_eq k h ≡ own → (own || has_number ks) ≡ true) [
        | true ↦ λ is. refl
        | false ↦ λ is.
            let past : n < h = grind (arith, nat_tests, low, is, here) in
            counted_there (n + 1) ks (and-second (nat_eq k n) _ counted) (omega (arith, past)) (omega (arith, high))
      ] refl

-- ---- the start's machine

module _ (t : TreeValue) (i : ImageValue) (tree : IsTree t) where
  abbrev sizes : DirSizes
  sizes = dir_sizes t.sizes (width_of t)

  abbrev leaves : List Node
  leaves = map leaf_node (start_leaves t i)

  -- the top is one bus, with the widths of the levels below after its own
  record HasTop (first : List ℕ) (others : List (List ℕ)) : Type 0 where
    width : ℕ
    one : first ≡ width ∷ []
    sum_is : sum first ≡ width
    widths : bus_widths t ≡ width ∷ flat others

  has_top : (f : HasFirst t) → HasTop f.first f.others
  has_top f =
      let under : AreUnder 1 (f.first ∷ f.others) = subst (AreUnder 1) f.are tree.under in
      let widths : bus_widths t ≡ f.first ++ flat f.others = ap flat f.are ∙ flat_cons f.first f.others in
      by f.first under.0 widths
    where
      by : (first : List ℕ) → length first ≡ 1 → bus_widths t ≡ first ++ flat f.others → HasTop first f.others
      by [] one widths = absurd (cc one)
      by (w ∷ []) one widths = record { width = w; one = refl; sum_is = (let more = sum-more w [] in omega (arith, more)); widths = widths }
      by (w ∷ v ∷ ws) one widths = absurd (omega (arith, one))

  total : (f : HasFirst t) → length leaves ≡ leaf_total (sum f.first) f.others
  total f = length-map (start_leaves t i) leaf_node ∙ leaves-length t i ∙ f.leaves

  kids_are : (f : HasFirst t) → start_kids t i ≡ under_levels sizes 1 1 f.others leaves
  kids_are f = ap (λ levels. under_levels sizes 1 1 (drop 1 levels) leaves) f.are

  kids_count : (f : HasFirst t) → length (start_kids t i) ≡ (has_top f).width
  kids_count f = ap length (kids_are f) ∙ levels-length sizes leaves 1 1 (sum f.first) f.others f.under (total f) ∙ (has_top f).sum_is

  -- each bus has as many children as the tree says
  start_wide : HasWidths (bus_widths t) (root_of (start_machine t i))
  unfolding start_machine
  start_wide =
      let f = has-first t tree in
      let top = has_top f in
      let parts = drop_cons 0 (bus_widths t) top.width (flat f.others) top.widths in (
        parts.0 ∙ ap Some (sym (ap length (children-nodes (start_kids t i)) ∙ kids_count f)),
        subst (λ ks. HaveWidths (bus_widths t) (nodes ks)) (sym (kids_are f)) (kids_wide (bus_widths t) sizes 1 1 (sum f.first) f.others (start_leaves t i) parts.1 f.under (total f)),
      )

  -- and each is there
  pub start_buses : (b : ℕ) → b < length (bus_widths t) → has_node (bus_of_number b) (root_of (start_machine t i)) ≡ true
  unfolding start_machine
  start_buses zero low = refl
  start_buses (suc b) low =
      let f = has-first t tree in
      let count : length (bus_widths t) ≡ suc (length (flat f.others)) = ap length (has_top f).widths in
      or_second _ _ (ap (λ ks. has_among (bus_of_number (suc b)) (nodes ks)) (kids_are f) ∙ levels_named (suc b) sizes 1 1 (sum f.first) f.others leaves f.under (total f) (omega arith) (omega (arith, low, count)))

  pub start_children : (b count : ℕ) → slice_get (bus_widths t) b ≡ Some count → child_count b (start_machine t i) ≡ Some count
  start_children b count is =
      let there : is_some (child_count b (start_machine t i)) ≡ true = read_in-is_some (bus_of_number b) (of_dir (λ w d ns. length ns) 0) at_top (root_of (start_machine t i)) ∙ start_buses b (slice_get-inside (bus_widths t) b count is) in
      by (child_count b (start_machine t i)) refl there
    where
      by : (o : Option ℕ) → child_count b (start_machine t i) ≡ o → is_some o ≡ true → o ≡ Some count
      by None read there = cc
      by (Some c) read there = sym (width_read (bus_widths t) b at_top (root_of (start_machine t i)) c start_wide read) ∙ is

  module _ (accepted : start_refusal t i ≡ None) where
    start_leaf_there : (h : ℕ) → h < leaf_count t → has_node (leaf_of_number h) (root_of (start_machine t i)) ≡ true
    start_leaf_there h low =
        let new = start-new t i tree accepted in
        let numbers = leaf_numbers_of (skeleton (root_of (start_machine t i))) [] in
        let size : length numbers ≡ leaf_count t = ap (λ (c : TreeCounts). c.leaves) new.numbers in
        or_none _ (sym (number_there h (root_of (start_machine t i)) []) ∙ counted_there h 0 numbers (new.shaped.each leaves_numbered) (omega arith) (omega (arith, low, size)))

    pub start_depth : depth_of (start_machine t i) ≡ length t.levels
    start_depth = ap (λ (c : TreeCounts). c.depth) (start-new t i tree accepted).numbers

    -- ---- a turn

    fault_of_child : (b child : ℕ) (o : Option ℕ) → slice_get (bus_widths t) b ≡ o → child_fault child o ≡ None → is_child_of child (child_count b (start_machine t i)) ≡ true
    fault_of_child b child None is e = cc
    fault_of_child b child (Some count) is e = ap (is_child_of child) (start_children b count is) ∙ passes (nat_lt child count) _ e

    named_part : (u : Turn) → turn_fault (shape_view t.levels) u ≡ None → names_part u (start_machine t i) ≡ true
    unfolding turn_fault
    named_part (Turn.Hart hart victim) e =
        read_in-is_some (leaf_of_number hart) (of_leaf (λ w v. key_at_leaf w v.done) key_zero) at_top (root_of (start_machine t i)) ∙ start_leaf_there hart (ltb-true hart (leaf_count t) (passes (nat_lt hart (leaf_count t)) _ e))
    named_part (Turn.Down bus) e =
        read_in-is_some (bus_of_number bus) (of_dir (λ w d ns. length ns) 0) at_top (root_of (start_machine t i)) ∙ start_buses bus (ltb-true bus (length (bus_widths t)) (passes (nat_lt bus (length (bus_widths t))) _ e))
    named_part (Turn.Request bus child) e = fault_of_child bus child (slice_get (bus_widths t) bus) refl e
    named_part (Turn.Reply bus child) e = fault_of_child bus child (slice_get (bus_widths t) bus) refl e
    named_part (Turn.Leave bus child choice) e = fault_of_child bus child (slice_get (bus_widths t) bus) refl e

    pub named_parts : (us : List Turn) → All (IsTurnOf (shape_view t.levels)) us → All (λ u. names_part u (start_machine t i) ≡ true) us
    named_parts us given = All-weaker (IsTurnOf (shape_view t.levels)) (λ u. names_part u (start_machine t i) ≡ true) (λ u is. named_part u is.of_shape) us given

-- and no operation is there
pub start_ops : (t : TreeValue) (s : MachineState) → HasStart t s → s.machine.ops ≡ []
unfolding start_machine
start_ops t s start = ap (λ (r : MachineState). r.machine.ops) start.1.machine
