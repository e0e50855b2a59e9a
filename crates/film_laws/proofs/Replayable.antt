-- The machine of a tree and an image of bytes before its first turn is one whose films tell all.
-- Letters: t is a tree, i an image, k a node.
use Rattle.std.proofs.Common.{◌≡◌, ℕ, ◌+◌, ◌*◌, ◌≤◌, Bool, true, false, cond, List, [], ◌∷◌, length, sum, Option, Some, None, Ok, refl, sym, ap, ◌∙◌, length-append, arith}
use Rattle.std.specs.Prelude.{nat_eq, nat_lt}
use Rattle.std.specs.List.{flat_map, list_all}
use Rattle.std.specs.Cmp.Derive.{both_true}
use Rattle.std.proofs.lemmas.Bool.{and_parts, eq-eqb, eqb-true}
use Rattle.std.proofs.lemmas.Bool.Decides.{nat_tests}
use Rattle.std.proofs.lemmas.List.Concat.{flat_map-cons}
use Rattle.std.proofs.lemmas.List.Folds.{list_all-append}
use Rattle.start_parts.proofs.StartNew.{start-new}
use Rattle.value_laws.proofs.StartForm.{leaves_few, start-form}
use Rattle.value_laws.specs.Images.{IsOfBytes}
use Rattle.value_laws.specs.Values.{PartsHaveForm, PartsHaveFormAmong}
use Rattle.film_model.specs.Replay.{IsReplayable, has_keys_once, have_registers, have_registers_among}
use Rattle.film_model.specs.Still.{still}
use Rattle.film_model.proofs.KeysApart.{keys_apart}
use Rattle.film_laws.specs.BusLaws.IsTree.{AreUnder, IsTree, is_width}
use Rattle.film_laws.specs.DdmTypes.ItemTable.{item_count}
use Rattle.film_laws.specs.DdmTypes.declared.sizes.TreeCounts.{TreeCounts}
use Rattle.film_laws.specs.TreeModel.Start.Machine.{start_machine, start_of, start_refusal}
use Rattle.film_laws.specs.TreeModel.Start.Memory.{start_items}
use Rattle.film_laws.specs.TreeModel.Start.Sources.{ImageValue, TreeValue}
use Rattle.film_laws.specs.TreeModel.State.Shape.{are_below, buses_of, leaves_numbered, skeleton, traffic_counted}
use Rattle.film_laws.specs.TreeModel.State.Values.{Node, Nodes, leaf_node, dir_node, no_nodes, more_nodes, root_of}
use Rattle.film_laws.proofs.BusLaws.StartLevels.{sum-more, width-parts}

-- ---- how many buses a tree has

narrow_sum : (l : List ℕ) → list_all is_width l ≡ true → sum l ≤ 16 * length l
narrow_sum [] wide = omega arith
narrow_sum (n ∷ l) wide =
    let parts = and_parts (is_width n) (list_all is_width l) wide in
    let rest = narrow_sum l parts.1 in
    omega (arith, sum-more n l, (width-parts n parts.0).1, rest)

abbrev flat : List (List ℕ) → List ℕ
flat ls = flat_map (λ (l : List ℕ). l) ls

wide_parts : (l : List ℕ) (ls : List (List ℕ)) → list_all is_width (flat (l ∷ ls)) ≡ true → (list_all is_width l ≡ true) × (list_all is_width (flat ls) ≡ true)
wide_parts l ls wide = and_parts (list_all is_width l) (list_all is_width (flat ls)) (sym (list_all-append is_width l (flat ls)) ∙ ap (list_all is_width) (sym (flat_map-cons (λ (k : List ℕ). k) l ls)) ∙ wide)

flat_length : (l : List ℕ) (ls : List (List ℕ)) → length (flat (l ∷ ls)) ≡ length l + length (flat ls)
flat_length l ls = ap length (flat_map-cons (λ (k : List ℕ). k) l ls) ∙ length-append l (flat ls)

few_buses : (ls : List (List ℕ)) → length ls ≤ 4 → AreUnder 1 ls → list_all is_width (flat ls) ≡ true → length (flat ls) ≤ 65536
few_buses [] short under wide = omega arith
few_buses (a ∷ []) short under wide = omega (arith, under.0, flat_length a [])
few_buses (a ∷ b ∷ []) short under wide =
    let one = wide_parts a (b ∷ []) wide in
    omega (arith, under.0, under.1.0, flat_length a (b ∷ []), flat_length b [], narrow_sum a one.0)
few_buses (a ∷ b ∷ c ∷ []) short under wide =
    let one = wide_parts a (b ∷ c ∷ []) wide in
    let two = wide_parts b (c ∷ []) one.1 in
    omega (arith, under.0, under.1.0, under.1.1.0, flat_length a (b ∷ c ∷ []), flat_length b (c ∷ []), flat_length c [], narrow_sum a one.0, narrow_sum b two.0)
few_buses (a ∷ b ∷ c ∷ d ∷ []) short under wide =
    let one = wide_parts a (b ∷ c ∷ d ∷ []) wide in
    let two = wide_parts b (c ∷ d ∷ []) one.1 in
    let three = wide_parts c (d ∷ []) two.1 in
    omega (arith, under.0, under.1.0, under.1.1.0, under.1.1.1.0, flat_length a (b ∷ c ∷ d ∷ []), flat_length b (c ∷ d ∷ []), flat_length c (d ∷ []), flat_length d [], narrow_sum a one.0, narrow_sum b two.0, narrow_sum c three.0)
few_buses (a ∷ b ∷ c ∷ d ∷ e ∷ ls) short under wide = absurd (omega (arith, short))

-- ---- harts

module _ (width most : ℕ) where
  mutual
    registers_in : (k : Node) → PartsHaveForm width most k → have_registers 32 k ≡ true
    registers_in (leaf_node v) form = eq-eqb (length v.hart.registers) 32 form.hart.registers.count
    registers_in (dir_node d ns) form = registers_among ns form.1

    registers_among : (ns : Nodes) → PartsHaveFormAmong width most ns → have_registers_among 32 ns ≡ true
    registers_among no_nodes form = refl
    registers_among (more_nodes k ks) form = both_true (registers_in k form.0) (registers_among ks form.1)

-- ---- the machine

none_there : {A : Type 0} (b : Bool) (x : A) (other : Option A) → cond b (Some x) other ≡ None → b ≡ false
none_there true x other none = absurd (cc none)
none_there false x other none = refl

few_items : (t : TreeValue) (i : ImageValue) → start_refusal t i ≡ None → item_count (start_items t i) ≤ 65536
unfolding start_refusal
few_items t i accepted =
    let few : nat_lt 65536 (item_count (start_items t i)) ≡ false = none_there (nat_lt 65536 (item_count (start_items t i))) _ _ accepted in
    grind (arith, nat_tests, few)

module _ (t : TreeValue) (i : ImageValue) (tree : IsTree t) (bytes : IsOfBytes i) (accepted : start_refusal t i ≡ None) where
  begins : start_of t i ≡ Ok (start_machine t i)
  unfolding start_of
  begins = rw accepted refl

  registers : have_registers 32 (root_of (start_machine t i)) ≡ true
  registers = registers_in _ 0 (root_of (start_machine t i)) (start-form t i (start_machine t i) tree bytes begins).parts

  items : item_count (start_machine t i).items ≤ 65536
  unfolding start_machine
  items = few_items t i accepted

  pub starts_once : has_keys_once (still (start_machine t i)) ≡ true
  starts_once =
      let new = start-new t i tree accepted in
      let m = start_machine t i in
      let numbers = buses_of (skeleton (root_of m)) [] in
      let counted = and_parts (nat_eq (length numbers) (length m.traffic)) (are_below (length m.traffic) numbers) (new.shaped.each traffic_counted) in
      let leaves = ap (λ (c : TreeCounts). c.leaves) new.numbers in
      let buses = ap (λ (c : TreeCounts). c.buses) new.numbers in
      keys_apart m (item_count m.items) (new.shaped.each leaves_numbered) new.rooms registers (omega (arith, items)) (omega (arith, leaves, leaves_few t tree))
      (omega (arith, buses, few_buses t.levels tree.depth tree.under tree.widths, eqb-true (length numbers) (length m.traffic) counted.0)) (omega (arith, items))

  pub starts_replayable : IsReplayable (item_count (start_machine t i).items) (start_machine t i)
  starts_replayable = record { once = starts_once; rooms = (start-new t i tree accepted).rooms; registers = registers }
