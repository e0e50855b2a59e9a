-- Greatest lengths by number, of which those near a turn are looked at.
-- Letters: k is the machine after the turn t, f gives the greatest lengths before, h those after, c a child of cs, b the number of a bus, j that
-- of a leaf, n how many there are, l and o are lengths.
use Rattle.std.proofs.Common.{◌≡◌, ◌∙◌, ℕ, Bool, true, false, ◌||◌, List, [], ◌∷◌, map, refl, sym, ap, if◌then◌else◌}
use Rattle.std.specs.List.{list_any, range_with_len}
use Rattle.std.proofs.lemmas.Bool.{eq-eqb, ne_eqb}
use Rattle.ddm_types.specs.declared.turns.Turn.{Turn}
use Rattle.recording_model.specs.TreeModel.State.Lengths.{no_dir_lengths, no_leaf_lengths}
use Rattle.recording_model.specs.TreeModel.State.Values.{MachineValue}
use Rattle.recording_model.specs.TreeModel.Turns.Tree.{bus_of_number, leaf_of_number}
use Rattle.tree_model.specs.declared.DirLengths.{DirLengths}
use Rattle.tree_model.specs.declared.LeafLengths.{LeafLengths}
use Rattle.tree_model.specs.declared.TreeChild.{TreeChild}
use Rattle.measure_model.specs.Lengths.{lengths_in, lengths_over}
use Rattle.measuring.specs.Seen.{all_in, all_over, child_in, child_over, labels_of, leaf_raised, raised, seen_in, seen_over, turn_in, turn_over}
use Rattle.measuring.proofs.Bones.{label_is, nearby}
use Rattle.measuring.proofs.Grown.{leaf-raised-twice, raised-twice}
use Rattle.measuring.proofs.Sets.{map-same, set-one}

module _ (k : MachineValue) where
  -- ---- over buses

  abbrev one_over : TreeChild → (ℕ → DirLengths) → ℕ → DirLengths
  one_over c f b = if label_is (bus_of_number b) c then raised (f b) (lengths_over b k) else f b

  abbrev all_by : List TreeChild → (ℕ → DirLengths) → ℕ → DirLengths
  all_by [] f = f
  all_by (c ∷ cs) f = all_by cs (one_over c f)

  over-map : (f : ℕ → DirLengths) (b n : ℕ) → seen_over k b (map f (range_with_len 0 n)) ≡ map (one_over (TreeChild.BusChild b) f) (range_with_len 0 n)
  over-map f b n =
      set-one f (one_over (TreeChild.BusChild b) f) (λ l. raised l (lengths_over b k)) no_dir_lengths b n
      (λ i other. ap (λ x. if x then raised (f i) (lengths_over i k) else f i) (ne_eqb b i (λ same. other (sym same)))) (ap (λ x. if x then raised (f b) (lengths_over b k) else f b) (eq-eqb b b refl))

  child-map : (c : TreeChild) (f : ℕ → DirLengths) (n : ℕ) → child_over k c (map f (range_with_len 0 n)) ≡ map (one_over c f) (range_with_len 0 n)
  child-map (TreeChild.LeafChild j) f n = map-same f (one_over (TreeChild.LeafChild j) f) 0 n (λ i l. refl)
  child-map (TreeChild.BusChild b) f n = over-map f b n

  all-map : (cs : List TreeChild) (f : ℕ → DirLengths) (n : ℕ) → all_over k cs (map f (range_with_len 0 n)) ≡ map (all_by cs f) (range_with_len 0 n)
  all-map [] f n = refl
  all-map (c ∷ cs) f n = ap (all_over k cs) (child-map c f n) ∙ all-map cs (one_over c f) n

  by-two : (x y : Bool) (l o : DirLengths) → (if y then raised (if x then raised l o else l) o else (if x then raised l o else l)) ≡ (if (x || y) then raised l o else l)
  by-two true true l o = raised-twice l o
  by-two true false l o = refl
  by-two false true l o = refl
  by-two false false l o = refl

  all-by : (cs : List TreeChild) (f : ℕ → DirLengths) (b : ℕ) → all_by cs f b ≡ (if list_any (label_is (bus_of_number b)) cs then raised (f b) (lengths_over b k) else f b)
  all-by [] f b = refl
  all-by (c ∷ cs) f b = all-by cs (one_over c f) b ∙ by-two (label_is (bus_of_number b) c) (list_any (label_is (bus_of_number b)) cs) (f b) (lengths_over b k)

  closes : (x : Bool) (l o h : DirLengths) → (x ≡ false → raised l o ≡ l) → h ≡ raised l o → h ≡ (if x then raised l o else l)
  closes true l o h far is = is
  closes false l o h far is = is ∙ far refl

  around-map : (bus : ℕ) (f h : ℕ → DirLengths) (n : ℕ) → ((b : ℕ) → (label_is (bus_of_number b) (TreeChild.BusChild bus) || list_any (label_is (bus_of_number b)) (labels_of bus k)) ≡ false → raised (f b) (lengths_over b k) ≡ f b)
      → ((b : ℕ) → h b ≡ raised (f b) (lengths_over b k)) → all_over k (labels_of bus k) (seen_over k bus (map f (range_with_len 0 n))) ≡ map h (range_with_len 0 n)
  around-map bus f h n far is =
      all-map (TreeChild.BusChild bus ∷ labels_of bus k) f n
      ∙ map-same (all_by (TreeChild.BusChild bus ∷ labels_of bus k) f) h 0 n (λ b l. closes (list_any (label_is (bus_of_number b)) (TreeChild.BusChild bus ∷ labels_of bus k)) (f b) (lengths_over b k) (h b) (far b) (is b) ∙ sym (all-by (TreeChild.BusChild bus ∷ labels_of bus k) f b))

  pub turn-over : (t : Turn) (f h : ℕ → DirLengths) (n : ℕ) → ((b : ℕ) → nearby (bus_of_number b) t k ≡ false → raised (f b) (lengths_over b k) ≡ f b) → ((b : ℕ) → h b ≡ raised (f b) (lengths_over b k))
      → turn_over k t (map f (range_with_len 0 n)) ≡ map h (range_with_len 0 n)
  unfolding nearby
  turn-over (Turn.Hart hart victim) f h n far is = map-same f h 0 n (λ b l. is b ∙ far b refl)
  turn-over (Turn.Down bus) f h n far is = around-map bus f h n far is
  turn-over (Turn.Request bus child) f h n far is = around-map bus f h n far is
  turn-over (Turn.Reply bus child) f h n far is = around-map bus f h n far is
  turn-over (Turn.Leave bus child choice) f h n far is = around-map bus f h n far is

  -- ---- in leaves

  abbrev one_in : TreeChild → (ℕ → LeafLengths) → ℕ → LeafLengths
  one_in c f j = if label_is (leaf_of_number j) c then leaf_raised (f j) (lengths_in j k) else f j

  abbrev leaves_by : List TreeChild → (ℕ → LeafLengths) → ℕ → LeafLengths
  leaves_by [] f = f
  leaves_by (c ∷ cs) f = leaves_by cs (one_in c f)

  in-map : (f : ℕ → LeafLengths) (j n : ℕ) → seen_in k j (map f (range_with_len 0 n)) ≡ map (one_in (TreeChild.LeafChild j) f) (range_with_len 0 n)
  in-map f j n =
      set-one f (one_in (TreeChild.LeafChild j) f) (λ l. leaf_raised l (lengths_in j k)) no_leaf_lengths j n
      (λ i other. ap (λ x. if x then leaf_raised (f i) (lengths_in i k) else f i) (ne_eqb j i (λ same. other (sym same)))) (ap (λ x. if x then leaf_raised (f j) (lengths_in j k) else f j) (eq-eqb j j refl))

  child-in-map : (c : TreeChild) (f : ℕ → LeafLengths) (n : ℕ) → child_in k c (map f (range_with_len 0 n)) ≡ map (one_in c f) (range_with_len 0 n)
  child-in-map (TreeChild.LeafChild j) f n = in-map f j n
  child-in-map (TreeChild.BusChild b) f n = map-same f (one_in (TreeChild.BusChild b) f) 0 n (λ i l. refl)

  leaves-map : (cs : List TreeChild) (f : ℕ → LeafLengths) (n : ℕ) → all_in k cs (map f (range_with_len 0 n)) ≡ map (leaves_by cs f) (range_with_len 0 n)
  leaves-map [] f n = refl
  leaves-map (c ∷ cs) f n = ap (all_in k cs) (child-in-map c f n) ∙ leaves-map cs (one_in c f) n

  leaf-by-two : (x y : Bool) (l o : LeafLengths) → (if y then leaf_raised (if x then leaf_raised l o else l) o else (if x then leaf_raised l o else l)) ≡ (if (x || y) then leaf_raised l o else l)
  leaf-by-two true true l o = leaf-raised-twice l o
  leaf-by-two true false l o = refl
  leaf-by-two false true l o = refl
  leaf-by-two false false l o = refl

  leaves-by : (cs : List TreeChild) (f : ℕ → LeafLengths) (j : ℕ) → leaves_by cs f j ≡ (if list_any (label_is (leaf_of_number j)) cs then leaf_raised (f j) (lengths_in j k) else f j)
  leaves-by [] f j = refl
  leaves-by (c ∷ cs) f j = leaves-by cs (one_in c f) j ∙ leaf-by-two (label_is (leaf_of_number j) c) (list_any (label_is (leaf_of_number j)) cs) (f j) (lengths_in j k)

  leaf-closes : (x : Bool) (l o h : LeafLengths) → (x ≡ false → leaf_raised l o ≡ l) → h ≡ leaf_raised l o → h ≡ (if x then leaf_raised l o else l)
  leaf-closes true l o h far is = is
  leaf-closes false l o h far is = is ∙ far refl

  below-map : (bus : ℕ) (f h : ℕ → LeafLengths) (n : ℕ) → ((j : ℕ) → list_any (label_is (leaf_of_number j)) (labels_of bus k) ≡ false → leaf_raised (f j) (lengths_in j k) ≡ f j)
      → ((j : ℕ) → h j ≡ leaf_raised (f j) (lengths_in j k)) → all_in k (labels_of bus k) (map f (range_with_len 0 n)) ≡ map h (range_with_len 0 n)
  below-map bus f h n far is =
      leaves-map (labels_of bus k) f n
      ∙ map-same (leaves_by (labels_of bus k) f) h 0 n (λ j l. leaf-closes (list_any (label_is (leaf_of_number j)) (labels_of bus k)) (f j) (lengths_in j k) (h j) (far j) (is j) ∙ sym (leaves-by (labels_of bus k) f j))

  pub turn-in : (t : Turn) (f h : ℕ → LeafLengths) (n : ℕ) → ((j : ℕ) → nearby (leaf_of_number j) t k ≡ false → leaf_raised (f j) (lengths_in j k) ≡ f j) → ((j : ℕ) → h j ≡ leaf_raised (f j) (lengths_in j k))
      → turn_in k t (map f (range_with_len 0 n)) ≡ map h (range_with_len 0 n)
  unfolding nearby
  turn-in (Turn.Hart hart victim) f h n far is =
      in-map f hart n ∙ map-same (one_in (TreeChild.LeafChild hart) f) h 0 n (λ j l. leaf-closes (label_is (leaf_of_number j) (TreeChild.LeafChild hart)) (f j) (lengths_in j k) (h j) (far j) (is j))
  turn-in (Turn.Down bus) f h n far is = below-map bus f h n far is
  turn-in (Turn.Request bus child) f h n far is = below-map bus f h n far is
  turn-in (Turn.Reply bus child) f h n far is = below-map bus f h n far is
  turn-in (Turn.Leave bus child choice) f h n far is = below-map bus f h n far is
