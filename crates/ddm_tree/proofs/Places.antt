-- What is found in a list has a place there, and what has a place is found.
use Rattle.std.proofs.Common.{◌≡◌, ◌<◌, ◌≤◌, ℕ, suc, ◌+◌, Bool, true, false, not, List, [], ◌∷◌, length, Option, Some, None, option_map, refl, sym, ap, ◌∙◌, arith, cond}
use Rattle.std.specs.Prelude.{is_some, nat_lt}
use Rattle.std.specs.List.{find, position, position_or_len}
use Rattle.std.proofs.lemmas.Bool.{ltb-true, ltb-false, lt-ltb, le-ltb}
use Rattle.ddm_tree.specs.TreeModel.declared.LeafSpot.{LeafSpot}
use Rattle.ddm_tree.specs.TreeModel.State.Lists.{first_some}
use Rattle.ddm_tree.specs.TreeModel.State.Values.{DirValue, WayValue, BufferValue}
use Rattle.ddm_tree.specs.TreeModel.State.Leaf.{buffer_entry, buffered, copy_words, entry_at, is_buffered, is_copy, spot_at, way_at, way_entry, way_spot}
use Rattle.ddm_tree.specs.TreeModel.State.Directory.{parked_place, parked_words}
use Rattle.ddm_tree.proofs.DirectoryCrate.Lists.{parked-words}

lt-suc : (a b : ℕ) → nat_lt a b ≡ nat_lt (1 + a) (suc b)
lt-suc a b =
    elim (nat_lt a b) as (λ t. nat_lt a b ≡ t → t ≡ nat_lt (1 + a) (suc b)) [
      | true ↦ λ e.
          let below : a < b = ltb-true a b e in
          sym (lt-ltb (1 + a) (suc b) (omega (arith, below)))
      | false ↦ λ e.
          let past : b ≤ a = ltb-false a b e in
          sym (le-ltb (1 + a) (suc b) (omega (arith, past)))
    ] refl

module _ {X : Type 0} (p : X → Bool) where
  passes-alike : (xs : List X) → nat_lt (position_or_len p xs) (length xs) ≡ is_some (find p xs)
  passes-alike [] = refl
  passes-alike (x ∷ xs) = by_test (p x) (passes-alike xs)
    where
      by_test : (b : Bool) → nat_lt (position_or_len p xs) (length xs) ≡ is_some (find p xs) → nat_lt (cond (not b) (1 + position_or_len p xs) 0) (suc (length xs)) ≡ is_some (cond b (Some x) (find p xs))
      by_test true e = lt-ltb 0 (suc (length xs)) (omega arith)
      by_test false e = sym (lt-suc (position_or_len p xs) (length xs)) ∙ e

  placed-if : (b : Bool) (k : ℕ) → is_some (cond b (Some k) None) ≡ b
  placed-if true k = refl
  placed-if false k = refl

  position-alike : (xs : List X) → is_some (position p xs) ≡ is_some (find p xs)
  position-alike xs = placed-if _ _ ∙ passes-alike xs

module _ {X Y : Type 0} (f : X → Y) where
  mapped-alike : (o : Option X) → is_some o ≡ is_some (option_map f o)
  mapped-alike None = refl
  mapped-alike (Some x) = refl

pub none-alike : {X Y : Type 0} (a : Option X) (b : Option Y) → is_some a ≡ is_some b → None ≡ a → None ≡ b
none-alike None None alike e = refl
none-alike None (Some b) alike e = cc
none-alike (Some a) b alike e = cc

-- a parked copy
pub parked-alike : (x : ℕ) (d : DirValue) → is_some (parked_place x d) ≡ is_some (parked_words x d)
parked-alike x d = position-alike (is_copy x) d.parked ∙ mapped-alike copy_words _ ∙ ap is_some (sym (parked-words x d.parked))

-- a leaf's entry
pub entry-alike : (x : ℕ) (ways : List (Option WayValue)) (buffer : List BufferValue) → is_some (spot_at x ways buffer) ≡ is_some (entry_at x ways buffer)
unfolding entry_at
entry-alike x ways buffer = by_way (way_at x ways)
  where
    by_way : (o : Option WayValue) → is_some (first_some (option_map way_spot o) (option_map (λ k. LeafSpot.Buffer k) (position (is_buffered x) buffer))) ≡ is_some (first_some (option_map way_entry o) (option_map buffer_entry (buffered x buffer)))
    by_way (Some e) = refl
    by_way None = sym (mapped-alike (λ k. LeafSpot.Buffer k) _) ∙ position-alike (is_buffered x) buffer ∙ mapped-alike buffer_entry _
