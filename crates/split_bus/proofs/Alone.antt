-- One child alone is told something, seen through the children's values by f.
use Rattle.std.proofs.Common.{◌≡◌, ℕ, ◌<◌, ◌≤◌, List, length, get_or, set, map, sym, ◌∙◌, ap, arith}
use Rattle.std.proofs.lemmas.List.{get_or-map, map-set, length-map}
use Rattle.split_bus.specs.TreeModel.State.Lists.{map_from}
use Rattle.split_bus.specs.TreeModel.State.Values.{Node}
use Rattle.split_bus.specs.TreeModel.State.Blank.{no_node}
use Rattle.split_bus.specs.TreeModel.Turns.Children.{child_at, only}
use Rattle.split_bus.proofs.TreeModel.Children.{only-set, only-absent}

module _ {A : Type 0} (f : A → Node) where
  -- the child at k
  pub here-child : (k : ℕ) (xs : List A) (d : A) → k < length xs → child_at k (map f xs) ≡ f (get_or xs k d)
  here-child k xs d within = get_or-map f xs k d no_node within

  told-alone : (h : Node → Node) (k : ℕ) (xs : List A) (y d : A) → k < length xs → f y ≡ h (f (get_or xs k d)) → map f (set xs k y) ≡ map_from (only k h) 0 (map f xs)
  told-alone h k xs y d within e = map-set f xs k y ∙ ap (λ z. set (map f xs) k z) (e ∙ ap h (sym (here-child k xs d within))) ∙ sym (only-set k h (map f xs))

  -- child k, whose index is j, is now y
  pub told-child : (h : Node → Node) (k j : ℕ) → j ≡ k → (xs : List A) (y d : A) → k < length xs → f y ≡ h (f (get_or xs j d)) → map f (set xs j y) ≡ map_from (only k h) 0 (map f xs)
  told-child h k j same xs y d within e = rw same (told-alone h k xs y d within (rw same at e))

  -- there is no child k
  pub told-absent : (h : Node → Node) (k : ℕ) (xs : List A) → length xs ≤ k → map f xs ≡ map_from (only k h) 0 (map f xs)
  told-absent h k xs absent = sym (only-absent k h (map f xs) (omega (arith, length-map xs f)))

  -- child k, whose index is j, is x
  pub child-here : (k j : ℕ) → j ≡ k → (xs : List A) (x : A) → k < length xs → x ≡ get_or xs j x → f x ≡ child_at k (map f xs)
  child-here k j same xs x within is = ap f (rw same at is) ∙ sym (here-child k xs x within)
