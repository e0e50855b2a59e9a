-- Of a tree's machine before its first turn a film can be made.
-- Letters: t is a tree, i an image.
use Rattle.std.proofs.Common.{◌≡◌, ℕ, ◌+◌, ◌*◌, ◌/◌, ◌<◌, ◌≤◌, List, [], ◌∷◌, length, map, Option, Some, None, Ok, inl, inr, refl, sym, ap, ◌∙◌, true, length-append, arith}
use Rattle.std.specs.Prelude.{is_some, slice_index}
use Rattle.std.specs.List.{flat_map}
use Rattle.std.proofs.lemmas.List.{length-map}
use Rattle.std.proofs.lemmas.List.Concat.{flat_map-cons}
use Rattle.film.proofs.StartParts.StartNew.{start-new}
use Rattle.film.proofs.TreeModel.NamedNode.{read_in-is_some}
use Rattle.film.proofs.ValueLaws.StartForm.{start-form}
use Rattle.film_runs.specs.BusLaws.IsTree.{AreUnder, IsTree}
use Rattle.film_runs.specs.DdmTypes.ItemTable.{IsItemSize, items_of}
use Rattle.film_runs.specs.DdmTypes.declared.sizes.TreeCounts.{TreeCounts}
use Rattle.film_runs.specs.Film.Filmed.{IsFilmed}
use Rattle.film_runs.specs.Levels.{bus_levels, levels_from}
use Rattle.film_runs.specs.TreeModel.Start.Machine.{start_machine, start_of, start_refusal}
use Rattle.film_runs.specs.TreeModel.Start.Memory.{start_items}
use Rattle.film_runs.specs.TreeModel.Start.Sources.{ImageValue, TreeValue, bus_widths}
use Rattle.film_runs.specs.TreeModel.State.Place.{at_top}
use Rattle.film_runs.specs.TreeModel.State.Shape.{IsShaped, depth_of, tree_counts}
use Rattle.film_runs.specs.TreeModel.State.Values.{MachineValue, root_of}
use Rattle.film_runs.specs.TreeModel.Turns.Machine.{ask_bus}
use Rattle.film_runs.specs.TreeModel.Turns.Tree.{bus_of_number, has_node, of_dir}
use Rattle.film_runs.specs.ValueLaws.Images.{IsOfBytes}
use Rattle.film_runs.proofs.StartLevels.{IsOneBus, level_is}

-- ---- the numbers of a tree

levels_length : (above : ℕ) (ls : List (List ℕ)) → length (levels_from above ls) ≡ length (flat_map (λ (l : List ℕ). l) ls)
levels_length above [] = refl
levels_length above (l ∷ ls) =
    let rest = levels_length (above + 1) ls in
    let both : length (levels_from above (l ∷ ls)) ≡ length (map (λ (width : ℕ). above) l) + length (levels_from (above + 1) ls) = length-append (map (λ (width : ℕ). above) l) (levels_from (above + 1) ls) in
    let whole : length (flat_map (λ (k : List ℕ). k) (l ∷ ls)) ≡ length l + length (flat_map (λ (k : List ℕ). k) ls) = ap length (flat_map-cons (λ (k : List ℕ). k) l ls) ∙ length-append l (flat_map (λ (k : List ℕ). k) ls) in
    omega (arith, rest, both, whole, length-map l (λ (width : ℕ). above))

one_bus : (ls : List (List ℕ)) → 1 ≤ length ls → AreUnder 1 ls → IsOneBus ls
one_bus [] some under = absurd (omega (arith, some))
one_bus (l ∷ ls) some under = under.0

whole_words : (size : ℕ) → IsItemSize size → size ≡ 4 * (size / 4)
whole_words size (inl is) = rw is refl
whole_words size (inr is) = rw is refl

-- ---- the machine

module _ (t : TreeValue) where
  -- each bus of the tree
  abbrev AreThere : MachineValue → Type 0
  AreThere m = (bus : ℕ) → bus < length (bus_widths t) → has_node (bus_of_number bus) (root_of m) ≡ true

module _ (t : TreeValue) (i : ImageValue) (tree : IsTree t) (accepted : start_refusal t i ≡ None) where
  pub first_shaped : IsShaped (start_machine t i)
  first_shaped = (start-new t i tree accepted).shaped

  pub first_depth : depth_of (start_machine t i) ≡ length t.levels
  first_depth = ap (λ (c : TreeCounts). c.depth) (start-new t i tree accepted).numbers

  buses : (tree_counts (start_machine t i)).buses ≡ length (bus_levels t)
  buses = ap (λ (c : TreeCounts). c.buses) (start-new t i tree accepted).numbers ∙ sym (levels_length 0 t.levels)

  begins : start_of t i ≡ Ok (start_machine t i)
  unfolding start_of
  begins = rw accepted refl

  width : (start_machine t i).items.size ≡ 4 * (start_machine t i).top.sizes.width
  unfolding start_machine start_items items_of
  width = whole_words t.item_bytes tree.item_bytes

  known : AreThere t (start_machine t i) → (bus : ℕ) → bus < length (bus_levels t) → ask_bus bus (λ w d ns. d.level) 0 (start_machine t i) ≡ Some (slice_index (bus_levels t) bus)
  known here bus inside = by (ask_bus bus (λ w d ns. d.level) 0 (start_machine t i)) refl there where
    there : is_some (ask_bus bus (λ w d ns. d.level) 0 (start_machine t i)) ≡ true
    there =
        read_in-is_some (bus_of_number bus) (of_dir (λ w d ns. d.level) 0) at_top (root_of (start_machine t i))
        ∙ here bus (omega (arith, inside, levels_length 0 t.levels))

    by : (o : Option ℕ) → ask_bus bus (λ w d ns. d.level) 0 (start_machine t i) ≡ o → is_some o ≡ true → o ≡ Some (slice_index (bus_levels t) bus)
    by None is some = cc
    by (Some level) is some = ap Some (sym (level_is t i bus level (one_bus t.levels tree.some tree.under) is))

  pub first_filmed : IsOfBytes i → AreThere t (start_machine t i) → IsFilmed (bus_levels t) (start_machine t i)
  first_filmed bytes here = record {
    most = 0;
    form = start-form t i (start_machine t i) tree bytes begins;
    width = width;
    counted = sym buses;
    known = known here;
  }
