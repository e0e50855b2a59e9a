-- Clocks don't run ahead: what stands below a bus goes on from a moment of it that isn't greater than the present one.
-- A directory's own bus goes on from what it took over of the bus above, and a leaf from its bus.
use Rattle.std.proofs.Common.{◌≡◌, ℕ, ◌+◌, ◌*◌, ◌<◌, false, List, [], ◌∷◌, ◌++◌, length, take, refl, sym, ap, subst, ◌∙◌, arith}
use Rattle.std.specs.List.{AllByRecursion}
use Rattle.std.proofs.lemmas.List.{take_at, take_all, length-append}
use Rattle.order_lists.specs.TreeModel.State.Values.{DirValue, Node, Nodes, leaf_node, dir_node, no_nodes, more_nodes}
use Rattle.order_lists.specs.TreeModel.State.Directory.{stamp_of}
use Rattle.order_lists.specs.TreeModel.State.Place.{Spot, spot_path, spot_in}
use Rattle.tree_rules.specs.Order.Moments.{less, moment_at, spot_moment, GoesOn}
use Rattle.tree_rules.specs.Order.Places.{LeafAt, leaf_now, DirAt, dir_path, taken_moment, present_moment, leaves_in, placed_leaves, dirs_in, placed_dirs}
use Rattle.order_lists.proofs.Filters.{each-weaker, each-append, each-left, each-right}
use Rattle.order_lists.proofs.Moments.{less-irreflexive, GoesOn-trans}
use Rattle.order_lists.proofs.Stamps.{moment_at-above, moment_at-stamp, moment_at-length, same_length}

-- what the shape and the rules of time say of a directory: it knows how many buses are above its own, three at most, and its
-- bus took over no stamp past the present one above
pub record IsClocked (c : DirAt) : Type 0 where
  pub level : c.dir.level ≡ length (dir_path c)
  pub deep : length (dir_path c) < 4
  pub taken : less (present_moment c) (taken_moment c) ≡ false

-- ---- lists that go on

-- a list that another begins with
pub goes_on-append : (a b : List ℕ) → GoesOn (a ++ b) a
goes_on-append a b = record { longer = rw (length-append a b) (omega arith); at_most = subst (λ t. less a t ≡ false) (sym (take_at a b (length a) refl)) (less-irreflexive a) }

-- lists of one length
pub goes_on-same_length : (a b : List ℕ) → length a ≡ length b → less b a ≡ false → GoesOn a b
goes_on-same_length a b l h = record { longer = omega arith; at_most = subst (λ t. less b t ≡ false) (sym (take_all (length b) a (omega arith))) h }

-- ---- the moments of a directory

pub shallow : (c : Spot) → length (spot_path c) < 4 → length c.above < 4
shallow c h = let e : length (spot_path c) ≡ length c.above + 1 = length-append c.above (c.number ∷ []) in omega (arith, e, h)

module _ (c : Spot) (d : DirValue) where
  abbrev pub here : DirAt
  here = record { spot = c; dir = d }

  -- its epoch isn't past the present stamp above
  pub epoch_goes_on : IsClocked here → GoesOn (moment_at c.above d.epoch) (spot_moment c)
  epoch_goes_on k = goes_on-same_length _ _ (same_length c.above d.epoch c.present (shallow c k.deep)) k.taken

  -- the present stamp of its own bus goes on from its epoch
  pub stamp_goes_on : IsClocked here → GoesOn (moment_at (spot_path c) (stamp_of d)) (moment_at c.above d.epoch)
  stamp_goes_on k =
      let e : length (spot_path c) ≡ length c.above + 1 = length-append c.above (c.number ∷ []) in
      let same : moment_at c.above (stamp_of d) ≡ moment_at c.above d.epoch = moment_at-stamp c.above d.level d.count d.epoch (omega (arith, e, k.level)) (omega (arith, k.level, k.deep)) in
      let size : length (moment_at c.above d.epoch) ≡ 2 * length c.above + 1 = moment_at-length c.above d.epoch (shallow c k.deep) in
      let own : length (moment_at (spot_path c) (stamp_of d)) ≡ 2 * length (spot_path c) + 1 = moment_at-length (spot_path c) (stamp_of d) k.deep in
      record {
        longer = omega (arith, e, size, own);
        at_most = subst (λ t. less (moment_at c.above d.epoch) t ≡ false) (sym (ap (λ l. take l (moment_at (spot_path c) (stamp_of d))) size ∙ moment_at-above c (stamp_of d) ∙ same)) (less-irreflexive (moment_at c.above d.epoch));
      }

  -- what goes on from the present stamp of its bus goes on from its epoch, and from the present stamp above
  pub below_goes_on : IsClocked here → (f : List ℕ) → GoesOn f (moment_at (spot_path c) (stamp_of d)) → GoesOn f (moment_at c.above d.epoch) × GoesOn f (spot_moment c)
  below_goes_on k f g =
      let epoch : GoesOn f (moment_at c.above d.epoch) = GoesOn-trans f _ _ g (stamp_goes_on k) in
      (epoch, GoesOn-trans f _ _ epoch (epoch_goes_on k))

-- ---- leaves

abbrev pub NowGoesOn : List ℕ → LeafAt → Type 0
NowGoesOn moment a = GoesOn (leaf_now a) moment

mutual
  pub leaves_go_on : (c : Spot) (n : Node) → AllByRecursion IsClocked (dirs_in c n) → AllByRecursion (NowGoesOn (spot_moment c)) (leaves_in c n)
  leaves_go_on c (leaf_node v) h = (goes_on-append (spot_moment c) (c.number ∷ v.done ∷ []), tt)
  leaves_go_on c (dir_node d ns) h = each-weaker _ _ (λ a g. (below_goes_on c d h.0 (leaf_now a) g).1) (leaves_in c (dir_node d ns)) (placed_go_on (spot_path c) d 0 ns h.1)

  pub placed_go_on : (path : List ℕ) (d : DirValue) (i : ℕ) (ns : Nodes) → AllByRecursion IsClocked (placed_dirs path d i ns) → AllByRecursion (NowGoesOn (moment_at path (stamp_of d))) (placed_leaves path d i ns)
  placed_go_on path d i no_nodes h = tt
  placed_go_on path d i (more_nodes n ns) h =
      each-append _ (leaves_in (spot_in path d i) n) (placed_leaves path d (i + 1) ns) (leaves_go_on (spot_in path d i) n (each-left _ (dirs_in (spot_in path d i) n) _ h))
      (placed_go_on path d (i + 1) ns (each-right _ (dirs_in (spot_in path d i) n) _ h))
