-- Where copies stand: each copy inside a node is under its path, and where no child of a bus has replies each copy handed to
-- its directory is under the child that hands it.
use Rattle.std.proofs.Common.{◌≡◌, ℕ, ◌+◌, Bool, true, false, List, [], ◌∷◌, ◌++◌, map, Option, Some, None, refl}
use Rattle.std.specs.List.{AllByRecursion}
use Rattle.order_lists.specs.TreeModel.State.Kinds.{brings_copy}
use Rattle.order_lists.specs.TreeModel.State.States.{entry_hold, is_held}
use Rattle.order_lists.specs.TreeModel.State.Values.{DownValue, DirValue, Node, Nodes, leaf_node, dir_node, no_nodes, more_nodes, children}
use Rattle.order_lists.specs.TreeModel.State.Leaf.{words_of_item, LeafEntry, leaf_entry}
use Rattle.order_lists.specs.TreeModel.State.Directory.{queue_of}
use Rattle.order_lists.specs.TreeModel.State.Child.{child_replies}
use Rattle.order_lists.specs.TreeModel.State.Place.{Spot, spot_path, spot_in}
use Rattle.tree_rules.specs.Order.Moments.{is_under, moment_at, spot_moment}
use Rattle.tree_rules.specs.Order.Copies.{CopyAt, cut, first_erase, downs, copies_here, entry_copies, gathered, inner, handed}
use Rattle.order_lists.proofs.Filters.{each-weaker, each-append}
use Rattle.order_lists.proofs.Paths.{IsFrom, from_child, from_later, under-itself, under_child}

abbrev pub PlacesUnder : List ℕ → List CopyAt → Type 0
PlacesUnder path ks = AllByRecursion (λ k. is_under path k.place ≡ true) ks

cut_places : (path : List ℕ) (e : Option (List ℕ)) (ks : List CopyAt) → PlacesUnder path ks → PlacesUnder path (map (cut e) ks)
cut_places path e [] h = tt
cut_places path e (k ∷ ks) h = (h.0, cut_places path e ks h.1)

here_places : (path clock : List ℕ) (ws : List (List ℕ)) → PlacesUnder path (copies_here path clock ws)
here_places path clock [] = tt
here_places path clock (w ∷ ws) = (under-itself path, here_places path clock ws)

entry_places : (path clock : List ℕ) (o : Option LeafEntry) → PlacesUnder path (entry_copies path clock o)
entry_places path clock None = tt
entry_places path clock (Some e) = go (is_held (entry_hold (Some e.state))) refl where
  go : (t : Bool) → is_held (entry_hold (Some e.state)) ≡ t → PlacesUnder path (entry_copies path clock (Some e))
  go true i = rw i (under-itself path, tt)
  go false i = rw i tt

downs_places : (path above : List ℕ) (q : List DownValue) → PlacesUnder path (downs path above q)
downs_places path above [] = tt
downs_places path above (e ∷ es) = go (brings_copy e.kind) refl (downs_places path above es) where
  go : (t : Bool) → brings_copy e.kind ≡ t → PlacesUnder path (downs path above es) → PlacesUnder path (downs path above (e ∷ es))
  go true i rest = rw i (under-itself path, rest)
  go false i rest = rw i rest

mutual
  pub inner_under : (x : ℕ) (c : Spot) (n : Node) → PlacesUnder (spot_path c) (inner x c n)
  inner_under x c (leaf_node v) = entry_places (spot_path c) (spot_moment c) (leaf_entry x v)
  inner_under x c (dir_node d ns) =
      each-append _ (map (cut (first_erase c.above (queue_of x d.down))) (gathered x (spot_path c) (moment_at c.above d.epoch) d ns)) (downs (spot_path c) c.above (queue_of x d.down))
      (cut_places (spot_path c) (first_erase c.above (queue_of x d.down)) _ (each-append _ (handed x (spot_path c) (moment_at c.above d.epoch) d 0 ns) (copies_here (spot_path c) (moment_at c.above d.epoch) (words_of_item x d.parked)) (handed_under x (spot_path c) (moment_at c.above d.epoch) d 0 ns) (here_places (spot_path c) (moment_at c.above d.epoch) (words_of_item x d.parked))))
      (downs_places (spot_path c) c.above (queue_of x d.down))

  pub handed_under : (x : ℕ) (path bound : List ℕ) (d : DirValue) (i : ℕ) (ns : Nodes) → PlacesUnder path (handed x path bound d i ns)
  handed_under x path bound d i no_nodes = tt
  handed_under x path bound d i (more_nodes n ns) =
      each-append _ (inner x (spot_in path d i) n ++ copies_here path bound (words_of_item x (child_replies n))) (handed x path bound d (i + 1) ns)
      (each-append _ (inner x (spot_in path d i) n) (copies_here path bound (words_of_item x (child_replies n))) (each-weaker _ _ (λ k h. under_child path k.place i h) _ (inner_under x (spot_in path d i) n)) (here_places path bound (words_of_item x (child_replies n))))
      (handed_under x path bound d (i + 1) ns)

-- a child of a bus without replies of the item
abbrev pub HasNoReplies : ℕ → Node → Type 0
HasNoReplies x n = words_of_item x (child_replies n) ≡ []

pub handed_from : (x : ℕ) (path bound : List ℕ) (d : DirValue) (i : ℕ) (ns : Nodes) → AllByRecursion (HasNoReplies x) (children ns) → AllByRecursion (λ k. IsFrom path i k.place) (handed x path bound d i ns)
handed_from x path bound d i no_nodes h = tt
handed_from x path bound d i (more_nodes n ns) h =
    each-append _ (inner x (spot_in path d i) n ++ copies_here path bound (words_of_item x (child_replies n))) (handed x path bound d (i + 1) ns)
    (each-append _ (inner x (spot_in path d i) n) (copies_here path bound (words_of_item x (child_replies n))) (each-weaker _ _ (λ k u. from_child path i k.place u) _ (inner_under x (spot_in path d i) n)) (rw h.0 tt))
    (each-weaker _ _ (λ k f. from_later path i k.place f) _ (handed_from x path bound d (i + 1) ns h.1))
