-- What a machine's calls give of a leaf and of a bus is what the list of all copies has of it.
use Rattle.std.proofs.Common.{◌≡◌, ◌<◌, ℕ, suc, ◌+◌, ◌++◌, Bool, true, false, not, List, [], ◌∷◌, length, take, Option, Some, None, option_map, refl, sym, ap, ◌∙◌, arith, add-one, add-zero, zero-add}
use Rattle.std.specs.Prelude.{is_some, slice_get, unwrap_or, if◌then◌else◌}
use Rattle.std.proofs.lemmas.List.{append-nil, append_assoc, length-take-le}
use Rattle.inspector.specs.DdmTypes.declared.sizes.LeafState.{LeafState}
use Rattle.inspector.specs.TreeModel.declared.LeafSpot.{LeafSpot}
use Rattle.inspector.specs.TreeModel.State.States.{is_reading}
use Rattle.inspector.specs.TreeModel.State.Values.{DownValue, LeafValue, Node, leaf_node, dir_node, MachineValue, root_of}
use Rattle.inspector.specs.TreeModel.State.Directory.{parked_place, parked_words}
use Rattle.inspector.specs.TreeModel.State.Leaf.{LeafEntry, entry_state, leaf_entry, spot_at}
use Rattle.inspector.specs.TreeModel.State.Place.{Where, at_top}
use Rattle.inspector.specs.TreeModel.State.Shape.{IsShaped}
use Rattle.inspector.specs.TreeModel.Turns.Found.{place_at}
use Rattle.inspector.specs.TreeModel.Turns.Machine.{down_entry_of, machine_leaves, parked_place_of}
use Rattle.inspector.specs.TreeModel.Turns.Tree.{bus_of_number, of_dir, read_in}
use Rattle.inspector.specs.DdmTree.Machine.{is_part}
use Rattle.inspector.specs.DdmTree.Path.{node_at}
use Rattle.inspector.specs.DdmTree.Reads.{copy_pair, down_len_of, entry_at, entry_triple, parked_at}
use Rattle.inspector.proofs.DdmTree.Along.{where_end}
use Rattle.inspector.proofs.DdmTree.LeafList.{leaf-listed, leaf-number}
use Rattle.inspector.proofs.DdmTree.Names.{path-there}
use Rattle.inspector.proofs.DdmTree.Places.{entry-alike, parked-alike}
use Rattle.inspector.proofs.DdmTree.Reading.{read-is}
use Rattle.inspector.specs.Copies.{down_copies, down_of, has_words, leaf_copies, parked_copies, place_list}
use Rattle.inspector.specs.Entries.{down_copy, entry_copy, parked_copy}
use Rattle.inspector.proofs.OneMore.{item-there, mapped-at, taken-one}

-- ---- a leaf

some-same : {X : Type 0} (a b : X) → Some a ≡ Some b → a ≡ b
some-same a b e = cc

entry-copies : (leaf number : ℕ) (e : Option LeafEntry) (spot : Option LeafSpot) → number ≡ leaf → is_some spot ≡ is_some e → place_list (entry_copy leaf (entry_triple e spot)) ≡ (if has_words (option_map entry_state e) then place_list (option_map (place_at number) spot) else [])
entry-copies leaf number None spot same alike = refl
entry-copies leaf number (Some e) None same alike = cc
entry-copies leaf number (Some e) (Some spot) same alike = by_test (is_reading e.state)
  where
    by_test : (b : Bool) → place_list (if b then None else Some (place_at leaf spot)) ≡ (if not b then place_at number spot ∷ [] else [])
    by_test true = refl
    by_test false = ap (λ n. place_at n spot ∷ []) (sym same)

pub leaf-copy : (m : MachineValue) (leaf x : ℕ) (v : LeafValue) (e : Option (LeafState × List ℕ × LeafSpot)) → IsShaped m → slice_get (machine_leaves m) leaf ≡ Some v → Some e ≡ entry_at leaf x m → place_list (entry_copy leaf e) ≡ leaf_copies x v
leaf-copy m leaf x v e shaped there is =
    let whole = λ (v : LeafValue). entry_triple (leaf_entry x v) (spot_at x v.ways v.buffer) in
    let same : e ≡ whole v = some-same e (whole v) (is ∙ sym (leaf-listed whole None leaf m shaped) ∙ mapped-at whole (machine_leaves m) leaf v there) in
    ap (λ e. place_list (entry_copy leaf e)) same ∙ entry-copies leaf v.number (leaf_entry x v) (spot_at x v.ways v.buffer) (leaf-number leaf m v shaped there) (entry-alike x v.ways v.buffer)

-- ---- a bus

module _ (m : MachineValue) (bus : ℕ) (there : is_part (bus_of_number bus) m ≡ true) where
  path : List ℕ
  path = (path-there (bus_of_number bus) (root_of m) there).0

  w : Where
  w = where_end at_top path (root_of m)

  n : Node
  n = node_at path (root_of m)

  read : {A : Type 0} (f : Where → Node → A) → Some (f w n) ≡ read_in (bus_of_number bus) f at_top (root_of m)
  unfolding w n path
  read f = read-is m (bus_of_number bus) path (path-there (bus_of_number bus) (root_of m) there).1 f

  pub parked-copy : (x : ℕ) (parked : Option (ℕ × List ℕ)) → Some parked ≡ parked_at bus x m → place_list (parked_copy bus parked) ≡ parked_copies bus (parked_place_of bus x m)
  parked-copy x parked is =
      let same : parked ≡ of_dir (λ w d ns. copy_pair (parked_place x d) (parked_words x d)) None w n = some-same _ _ (is ∙ sym (read (of_dir (λ w d ns. copy_pair (parked_place x d) (parked_words x d)) None))) in
      ap (λ p. place_list (parked_copy bus p)) same ∙ at-node w n ∙ ap (parked_copies bus) (read (of_dir (λ w d ns. parked_place x d) None))
    where
      pair-copies : (place : Option ℕ) (words : Option (List ℕ)) → is_some place ≡ is_some words → place_list (parked_copy bus (copy_pair place words)) ≡ parked_copies bus (Some place)
      pair-copies None words alike = refl
      pair-copies (Some place) None alike = cc
      pair-copies (Some place) (Some words) alike = refl

      at-node : (w : Where) (n : Node) → place_list (parked_copy bus (of_dir (λ w d ns. copy_pair (parked_place x d) (parked_words x d)) None w n)) ≡ parked_copies bus (Some (of_dir (λ w d ns. parked_place x d) None w n))
      at-node w (leaf_node v) = refl
      at-node w (dir_node d ns) = pair-copies (parked_place x d) (parked_words x d) (parked-alike x d)

  abbrev pub down_there : List DownValue
  down_there = unwrap_or (down_of bus m) []

  down-there : of_dir (λ w d ns. d.down) [] w n ≡ down_there
  down-there = ap (λ o. unwrap_or o []) (read (of_dir (λ w d ns. d.down) []))

  pub down-length : (k : ℕ) → Some k ≡ down_len_of bus m → k ≡ length down_there
  down-length k is = some-same _ _ (is ∙ sym (read (of_dir (λ w d ns. length d.down) 0))) ∙ at-node w n ∙ ap length down-there
    where
      at-node : (w : Where) (n : Node) → of_dir (λ w d ns. length d.down) 0 w n ≡ length (of_dir (λ w d ns. d.down) [] w n)
      at-node w (leaf_node v) = refl
      at-node w (dir_node d ns) = refl

  pub down-entry : (place : ℕ) (e : Option DownValue) → Some e ≡ down_entry_of bus place m → e ≡ slice_get down_there place
  down-entry place e is = some-same _ _ (is ∙ sym (read (of_dir (λ w d ns. slice_get d.down place) None))) ∙ at-node w n ∙ ap (λ es. slice_get es place) down-there
    where
      at-node : (w : Where) (n : Node) → of_dir (λ w d ns. slice_get d.down place) None w n ≡ slice_get (of_dir (λ w d ns. d.down) [] w n) place
      at-node w (leaf_node v) = refl
      at-node w (dir_node d ns) = refl

-- ---- one place more in a down list

copies-pushed : (x bus k : ℕ) (es : List DownValue) (e : DownValue) → down_copies x bus k (es ++ e ∷ []) ≡ down_copies x bus k es ++ place_list (down_copy x bus (k + length es) (Some e))
copies-pushed x bus k [] e = append-nil (place_list (down_copy x bus k (Some e))) ∙ ap (λ j. place_list (down_copy x bus j (Some e))) (sym (add-zero k))
copies-pushed x bus k (f ∷ es) e =
    let next : k + 1 + length es ≡ k + suc (length es) = omega arith in
    ap (λ l. place_list (down_copy x bus k (Some f)) ++ l) (copies-pushed x bus (k + 1) es e ∙ ap (λ j. down_copies x bus (k + 1) es ++ place_list (down_copy x bus j (Some e))) next)
    ∙ sym (append_assoc (place_list (down_copy x bus k (Some f))) (down_copies x bus (k + 1) es) (place_list (down_copy x bus (k + suc (length es)) (Some e))))

pub down-more : (x bus k : ℕ) (es : List DownValue) → k < length es → down_copies x bus 0 (take (k + 1) es) ≡ down_copies x bus 0 (take k es) ++ place_list (down_copy x bus k (slice_get es k))
down-more x bus k es l =
    let here = item-there es k l in
    let size : 0 + length (take k es) ≡ k = zero-add (length (take k es)) ∙ length-take-le k es (omega (arith, l)) in
    rw (add-one, taken-one es k here.0 here.1, here.1) (copies-pushed x bus 0 (take k es) here.0 ∙ ap (λ j. down_copies x bus 0 (take k es) ++ place_list (down_copy x bus j (Some here.0))) size)
