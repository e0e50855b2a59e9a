-- At rest no copy has an end: no erase is under way.
-- Letters: x is an item, n a node and c where it is, d a directory over the nodes ns, k a copy.
use Rattle.std.proofs.Common.{◌≡◌, ℕ, ◌+◌, Bool, true, false, List, [], ◌∷◌, ◌++◌, map, Option, Some, None, refl, sym, ap, subst}
use Rattle.std.specs.Prelude.{not, if◌then◌else◌}
use Rattle.std.specs.List.{AllByRecursion, list_all}
use Rattle.std.proofs.lemmas.Bool.{and_parts, true≢false}
use Rattle.headline.specs.TreeModel.State.Lists.{has_some, first_some}
use Rattle.headline.specs.TreeModel.State.States.{entry_hold, is_held}
use Rattle.headline.specs.TreeModel.State.Values.{DownValue, DirValue, Node, Nodes, leaf_node, dir_node, no_nodes, more_nodes, MachineValue}
use Rattle.headline.specs.TreeModel.State.Leaf.{words_of_item, LeafEntry, leaf_entry}
use Rattle.headline.specs.TreeModel.State.Directory.{queue_of}
use Rattle.headline.specs.TreeModel.State.Child.{child_replies}
use Rattle.headline.specs.TreeModel.State.Place.{Spot, spot_path, spot_in}
use Rattle.headline.specs.TreeRules.Order.Moments.{moment_at, spot_moment}
use Rattle.headline.specs.TreeRules.Order.Copies.{CopyAt, copy_here, cut, first_erase, downs, copies_here, entry_copies, gathering, inner, handed, copies_of}
use Rattle.headline.proofs.OrderLists.Filters.{each-append}
use Rattle.serving_model.specs.Rest.{item_rests, dir_rests, tree_rests, trees_rest, is_at_rest}

abbrev pub NoEnd : CopyAt → Type 0
NoEnd k = k.end ≡ None

here-none : (place clock : List ℕ) (ws : List (List ℕ)) → AllByRecursion NoEnd (copies_here place clock ws)
here-none place clock [] = tt
here-none place clock (w ∷ ws) = (refl, here-none place clock ws)

cut-none : (ks : List CopyAt) → AllByRecursion NoEnd ks → AllByRecursion NoEnd (map (cut None) ks)
cut-none [] h = tt
cut-none (k ∷ ks) h = (ap (λ o. first_some o None) h.0, cut-none ks h.1)

entry-none : (place clock : List ℕ) (o : Option LeafEntry) → AllByRecursion NoEnd (entry_copies place clock o)
entry-none place clock None = tt
entry-none place clock (Some e) = by (is_held (entry_hold (Some e.state))) where
  by : (b : Bool) → AllByRecursion NoEnd (if b then copy_here place clock e.words ∷ [] else [])
  by true = (refl, tt)
  by false = tt

nothing-down : (d : DirValue) → dir_rests d ≡ true → d.down ≡ []
nothing-down d rests = none d.down (and_parts (not (has_some d.down)) _ (and_parts (list_all item_rests d.items) _ rests).1).0 where
  none : (down : List DownValue) → not (has_some down) ≡ true → down ≡ []
  none [] e = refl
  none (e ∷ down) is = absurd (true≢false (sym is))

module _ (x : ℕ) where
  -- what a directory to which nothing comes down has
  abbrev under : List ℕ → List ℕ → List DownValue → List CopyAt → List CopyAt
  under place above down ks = map (cut (first_erase above (queue_of x down))) ks ++ downs place above (queue_of x down)

  under-none : (place above : List ℕ) (down : List DownValue) (ks : List CopyAt) → down ≡ [] → AllByRecursion NoEnd ks → AllByRecursion NoEnd (under place above down ks)
  unfolding queue_of
  under-none place above down ks empty h = subst (λ q. AllByRecursion NoEnd (under place above q ks)) (sym empty) (each-append NoEnd (map (cut None) ks) [] (cut-none ks h) tt)

  mutual
    inner-none : (c : Spot) (n : Node) → tree_rests n ≡ true → AllByRecursion NoEnd (inner x c n)
    inner-none c (leaf_node v) rests = entry-none (spot_path c) (spot_moment c) (leaf_entry x v)
    inner-none c (dir_node d ns) rests =
        let both = and_parts (dir_rests d) _ rests in
        under-none (spot_path c) c.above d.down (gathering x (spot_path c) (moment_at c.above d.epoch) d (handed x (spot_path c) (moment_at c.above d.epoch) d 0 ns)) (nothing-down d both.0)
        (each-append NoEnd (handed x (spot_path c) (moment_at c.above d.epoch) d 0 ns) (copies_here (spot_path c) (moment_at c.above d.epoch) (words_of_item x d.parked)) (handed-none (spot_path c) (moment_at c.above d.epoch) d 0 ns both.1)
        (here-none (spot_path c) (moment_at c.above d.epoch) (words_of_item x d.parked)))

    handed-none : (path bound : List ℕ) (d : DirValue) (i : ℕ) (ns : Nodes) → trees_rest ns ≡ true → AllByRecursion NoEnd (handed x path bound d i ns)
    handed-none path bound d i no_nodes rests = tt
    handed-none path bound d i (more_nodes n ns) rests =
        let both = and_parts (tree_rests n) _ rests in
        each-append NoEnd (inner x (spot_in path d i) n ++ copies_here path bound (words_of_item x (child_replies n))) (handed x path bound d (i + 1) ns)
        (each-append NoEnd (inner x (spot_in path d i) n) (copies_here path bound (words_of_item x (child_replies n))) (inner-none (spot_in path d i) n both.0) (here-none path bound (words_of_item x (child_replies n))))
        (handed-none path bound d (i + 1) ns both.1)

  pub none-ends : (m : MachineValue) → is_at_rest m ≡ true → AllByRecursion NoEnd (copies_of x m)
  unfolding copies_of
  none-ends m rests =
      each-append NoEnd (handed x [] [] m.top 0 m.kids) (copies_here [] [] (words_of_item x m.top.parked)) (handed-none [] [] m.top 0 m.kids (and_parts (dir_rests m.top) _ rests).1) (here-none [] [] (words_of_item x m.top.parked))
