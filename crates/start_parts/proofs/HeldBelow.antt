-- A directory holds what is placed below it, where its children hold what is placed in them.
use Rattle.std.proofs.Common.{◌≡◌, ℕ, zero, suc, ◌≤◌, Bool, false, List, [], ◌∷◌, map, length, refl, sym, ap, ◌∙◌, arith}
use Rattle.std.specs.Prelude.{◌||◌, slice_index_or}
use Rattle.std.proofs.lemmas.List.{length-map}
use Rattle.start_parts.specs.TreeModel.State.States.{is_exclusive}
use Rattle.start_parts.specs.TreeModel.State.Values.{DirItem, absent_item, DirSizes, Node}
use Rattle.start_parts.specs.TreeModel.Start.Nodes.{item_is_exclusive, held_by, or_each, held_below, held_if, dir_over}
use Rattle.start_parts.specs.Held.{some_exclusive, IsHeld, AreHeld}
use Rattle.start_parts.proofs.BusLaws.StartNodes.{or_each-at, or_each-length}

item-at : (bs : List Bool) (x : ℕ) → slice_index_or (map held_if bs) x absent_item ≡ held_if (slice_index_or bs x false)
item-at [] x = refl
item-at (b ∷ bs) zero = refl
item-at (b ∷ bs) (suc x) = item-at bs x

exclusive-at : (ds : List DirItem) (x : ℕ) → is_exclusive (slice_index_or ds x absent_item).hold ≡ slice_index_or (map item_is_exclusive ds) x false
exclusive-at [] x = refl
exclusive-at (d ∷ ds) zero = refl
exclusive-at (d ∷ ds) (suc x) = exclusive-at ds x

module _ (items : ℕ) where
  below-at : (ks : List Node) → AreHeld items ks → (x : ℕ) → slice_index_or (held_below ks) x false ≡ some_exclusive x ks
  below-at [] held x = refl
  below-at (k ∷ ks) held x = or_each-at (held_by k) (held_below ks) x ∙ or-same _ _ _ _ (sym (held.0.agrees x)) (below-at ks held.1 x) where
    or-same : (a b c d : Bool) → a ≡ c → b ≡ d → (a || b) ≡ (c || d)
    or-same a b c d first second = rw (first, second) refl

  below-length : (ks : List Node) → AreHeld items ks → 1 ≤ length ks → length (held_below ks) ≡ items
  below-length [] held some = absurd (omega arith)
  below-length (k ∷ []) held some = alone (held_by k) ∙ held.0.count where
    alone : (bs : List Bool) → length (or_each bs []) ≡ length bs
    alone [] = refl
    alone (b ∷ bs) = refl
  below-length (k ∷ j ∷ ks) held some =
      let rest = below-length (j ∷ ks) held.1 (omega arith) in
      or_each-length (held_by k) (held_below (j ∷ ks)) (held.0.count ∙ sym rest) ∙ held.0.count

  -- the items of a directory over them
  pub over-count : (ks : List Node) → AreHeld items ks → 1 ≤ length ks → length (map held_if (held_below ks)) ≡ items
  over-count ks held some = length-map (held_below ks) held_if ∙ below-length ks held some

  pub over-at : (ks : List Node) → AreHeld items ks → (x : ℕ) → slice_index_or (map held_if (held_below ks)) x absent_item ≡ held_if (some_exclusive x ks)
  over-at ks held x = item-at (held_below ks) x ∙ ap held_if (below-at ks held x)

  pub dir-held : (sizes : DirSizes) (level bus : ℕ) (ks : List Node) → 1 ≤ length ks → AreHeld items ks → IsHeld items (dir_over sizes level bus ks)
  dir-held sizes level bus ks some held = record {
    count = length-map (map held_if (held_below ks)) item_is_exclusive ∙ over-count ks held some;
    agrees = λ x. exclusive-at (map held_if (held_below ks)) x;
  }
