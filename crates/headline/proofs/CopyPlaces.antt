-- A copy at a leaf's place is that leaf's entry: its clock is the present moment there, and its end stands above the leaf's bus.
-- A copy below a directory is no further than what the directory's own bus took over.
use Rattle.std.proofs.Common.{◌≡◌, ℕ, ◌+◌, ◌<◌, ◌≤◌, Bool, true, false, ◌⊎◌, inl, inr, List, [], ◌∷◌, ◌++◌, length, map, Option, Some, None, refl, sym, ap, subst, ◌∙◌, arith}
use Rattle.std.specs.Prelude.{IfSome}
use Rattle.std.specs.List.{AllByRecursion}
use Rattle.std.proofs.lemmas.Bool.{true≢false}
use Rattle.std.proofs.lemmas.List.{length-append}
use Rattle.headline.specs.DdmTypes.declared.answers.TxKind.TheVariants.{EraseTx}
use Rattle.headline.specs.TreeModel.State.Kinds.{is_kind, brings_copy}
use Rattle.headline.specs.TreeModel.State.States.{entry_hold, is_held}
use Rattle.headline.specs.TreeModel.State.Values.{DownValue, DirValue, Node, Nodes, leaf_node, dir_node, no_nodes, more_nodes, MachineValue}
use Rattle.headline.specs.TreeModel.State.Leaf.{words_of_item, LeafEntry, leaf_entry}
use Rattle.headline.specs.TreeModel.State.Directory.{queue_of}
use Rattle.headline.specs.TreeModel.State.Child.{child_replies}
use Rattle.headline.specs.TreeModel.State.Place.{Spot, spot_path, spot_in}
use Rattle.headline.specs.TreeRules.Order.Moments.{is_under, moment_at, moment_length, spot_moment, GoesOn}
use Rattle.headline.specs.TreeRules.Order.Copies.{CopyAt, cut, first_erase, downs, copies_here, entry_copies, inner, handed, copies_of}
use Rattle.headline.specs.TreeRules.Order.Places.{LeafAt, leaf_path, leaves_in, placed_leaves, leaves_at, DirAt, dir_path, taken_moment, dirs_in, placed_dirs, dirs_at}
use Rattle.headline.proofs.OrderLists.Filters.{each-weaker, each-both, each-append, each-left, each-right}
use Rattle.headline.proofs.OrderLists.Paths.{IsFrom, from_child, from_later, under-trans, under-shorter, under-length, leaves_under, placed_from, dirs_under, dirs_from}
use Rattle.headline.proofs.OrderLists.Placed.{inner_under}
use Rattle.headline.proofs.OrderLists.Stamps.{moment_at-length}
use Rattle.headline.proofs.OrderLists.Clocks.{shallow, below_goes_on}
use Rattle.headline.proofs.OrderLists.Queues.{IsOrdered, some_first, first_erase-each}
use Rattle.headline.proofs.OrderLists.Ends.{IsTimely, handed-timely}

-- ---- the parts of a node's copies

here-each : (P : CopyAt → Type 0) (path clock : List ℕ) → ((k : CopyAt) → k.place ≡ path → P k) → (ws : List (List ℕ)) → AllByRecursion P (copies_here path clock ws)
here-each P path clock f [] = tt
here-each P path clock f (w ∷ ws) = (f _ refl, here-each P path clock f ws)

downs-each : (P : CopyAt → Type 0) (path above : List ℕ) → ((k : CopyAt) → k.place ≡ path → P k) → (q : List DownValue) → AllByRecursion P (downs path above q)
downs-each P path above f [] = tt
downs-each P path above f (e ∷ es) = go (brings_copy e.kind) refl (downs-each P path above f es) where
  go : (t : Bool) → brings_copy e.kind ≡ t → AllByRecursion P (downs path above es) → AllByRecursion P (downs path above (e ∷ es))
  go true i rest = rw i (f _ refl, rest)
  go false i rest = rw i rest

cut-each : (P Q : CopyAt → Type 0) (o : Option (List ℕ)) → ((k : CopyAt) → Q k → P (cut o k)) → (ks : List CopyAt) → AllByRecursion Q ks → AllByRecursion P (map (cut o) ks)
cut-each P Q o f [] h = tt
cut-each P Q o f (k ∷ ks) h = (f k h.0, cut-each P Q o f ks h.1)

-- those inside a directory: handed to it, with its erase as their end where they have none, or at its own place
dir-each : (P Q : CopyAt → Type 0) (x : ℕ) (c : Spot) (d : DirValue) (ns : Nodes) → ((k : CopyAt) → Q k → P (cut (first_erase c.above (queue_of x d.down)) k)) → ((k : CopyAt) → k.place ≡ spot_path c → P k) → AllByRecursion Q (handed x (spot_path c) (moment_at c.above d.epoch) d 0 ns) → AllByRecursion P (inner x c (dir_node d ns))
dir-each P Q x c d ns cuts at h =
    each-append P _ (downs (spot_path c) c.above (queue_of x d.down))
    (cut-each P (λ k. P (cut (first_erase c.above (queue_of x d.down)) k)) (first_erase c.above (queue_of x d.down)) (λ k p. p) _
    (each-append (λ k. P (cut (first_erase c.above (queue_of x d.down)) k)) (handed x (spot_path c) (moment_at c.above d.epoch) d 0 ns) (copies_here (spot_path c) (moment_at c.above d.epoch) (words_of_item x d.parked)) (each-weaker Q _ cuts _ h)
    (here-each (λ k. P (cut (first_erase c.above (queue_of x d.down)) k)) (spot_path c) (moment_at c.above d.epoch) (λ k e. at (cut (first_erase c.above (queue_of x d.down)) k) e) (words_of_item x d.parked))))
    (downs-each P (spot_path c) c.above at (queue_of x d.down))

-- those that a child and the children behind it hand up
child-each : (P : CopyAt → Type 0) (x : ℕ) (path bound : List ℕ) (d : DirValue) (i : ℕ) (n : Node) (ns : Nodes) → ((k : CopyAt) → k.place ≡ path → P k) → AllByRecursion P (inner x (spot_in path d i) n) → AllByRecursion P (handed x path bound d (i + 1) ns) → AllByRecursion P (handed x path bound d i (more_nodes n ns))
child-each P x path bound d i n ns at h k = each-append P _ (handed x path bound d (i + 1) ns) (each-append P (inner x (spot_in path d i) n) (copies_here path bound (words_of_item x (child_replies n))) h (here-each P path bound at (words_of_item x (child_replies n)))) k

-- they stand under one of them, or at the directory
abbrev StandsFrom : List ℕ → ℕ → CopyAt → Type 0
StandsFrom path i k = IsFrom path i k.place ⊎ (k.place ≡ path)

stands-later : (path : List ℕ) (i : ℕ) (k : CopyAt) → StandsFrom path (i + 1) k → StandsFrom path i k
stands-later path i k (inl f) = inl (from_later path i k.place f)
stands-later path i k (inr e) = inr e

handed-stands : (x : ℕ) (path bound : List ℕ) (d : DirValue) (i : ℕ) (ns : Nodes) → AllByRecursion (StandsFrom path i) (handed x path bound d i ns)
handed-stands x path bound d i no_nodes = tt
handed-stands x path bound d i (more_nodes n ns) =
    child-each (StandsFrom path i) x path bound d i n ns (λ k e. inr e) (each-weaker _ _ (λ k u. inl (from_child path i k.place u)) _ (inner_under x (spot_in path d i) n)) (each-weaker _ _ (stands-later path i) _ (handed-stands x path bound d (i + 1) ns))

-- ---- paths

child_longer : (path p : List ℕ) (i : ℕ) → is_under (path ++ i ∷ []) p ≡ true → length path < length p
child_longer path p i u = let e : length (path ++ i ∷ []) ≡ length path + 1 = length-append path (i ∷ []) in let l : length (path ++ i ∷ []) ≤ length p = under-length (path ++ i ∷ []) p u in omega (arith, e, l)

-- ---- at a leaf

-- a copy at the leaf's place
pub record IsEntryOf (a : LeafAt) (k : CopyAt) : Type 0 where
  pub clock : k.clock ≡ spot_moment a.spot
  pub end : IfSome k.end (λ e. length e < moment_length (length a.spot.above))

abbrev pub IsEntryAt : LeafAt → CopyAt → Type 0
IsEntryAt a k = k.place ≡ leaf_path a → IsEntryOf a k

entry-own : (a : LeafAt) (o : Option LeafEntry) → AllByRecursion (IsEntryAt a) (entry_copies (spot_path a.spot) (spot_moment a.spot) o)
entry-own a None = tt
entry-own a (Some e) = go (is_held (entry_hold (Some e.state))) refl where
  go : (t : Bool) → is_held (entry_hold (Some e.state)) ≡ t → AllByRecursion (IsEntryAt a) (entry_copies (spot_path a.spot) (spot_moment a.spot) (Some e))
  go true i = rw i ((λ at. record { clock = refl; end = tt }), tt)
  go false i = rw i tt

elsewhere : (a : LeafAt) (path : List ℕ) → length path < length (leaf_path a) → (k : CopyAt) → k.place ≡ path → IsEntryAt a k
elsewhere a path l k e at = let same : length path ≡ length (leaf_path a) = ap length (sym e ∙ at) in absurd (omega (arith, same, l))

-- an erase of a directory above the leaf's bus
erase-short : (c : Spot) (a : LeafAt) (q : List DownValue) → length c.above < 4 → length c.above < length a.spot.above → IfSome (first_erase c.above q) (λ e. length e < moment_length (length a.spot.above))
erase-short c a q deep l = first_erase-each c.above (λ e. length e < moment_length (length a.spot.above)) q (each q) where
  each : (es : List DownValue) → AllByRecursion (λ (e : DownValue). is_kind EraseTx e.kind ≡ true → length (moment_at c.above e.stamp) < moment_length (length a.spot.above)) es
  each [] = tt
  each (e ∷ es) = ((λ i. let n : length (moment_at c.above e.stamp) ≡ moment_length (length c.above) = moment_at-length c.above e.stamp deep in omega (arith, n, l)), each es)

cut-entry : (c : Spot) (d : DirValue) (x : ℕ) (a : LeafAt) → length c.above < 4 → length (spot_path c) < length (leaf_path a) → (k : CopyAt) → IsEntryAt a k → IsEntryAt a (cut (first_erase c.above (queue_of x d.down)) k)
cut-entry c d x a deep l k h at = record { clock = (h at).clock; end = some_first k.end (first_erase c.above (queue_of x d.down)) (λ e. length e < moment_length (length a.spot.above)) (h at).end (erase-short c a (queue_of x d.down) deep above) } where
  above : length c.above < length a.spot.above
  above = let n : length (spot_path c) ≡ length c.above + 1 = length-append c.above (c.number ∷ []) in let p : length (leaf_path a) ≡ length a.spot.above + 1 = length-append a.spot.above (a.spot.number ∷ []) in omega (arith, n, p, l)

beside-left : (a : LeafAt) (path : List ℕ) (i : ℕ) → is_under (path ++ i ∷ []) (leaf_path a) ≡ true → (k : CopyAt) → StandsFrom path (i + 1) k → IsEntryAt a k
beside-left a path i u k (inl f) at = absurd (true≢false (sym u ∙ subst (λ p. is_under (path ++ i ∷ []) p ≡ false) at (f.later i (omega arith))))
beside-left a path i u k (inr e) at = elsewhere a path (child_longer path (leaf_path a) i u) k e at

beside-right : (a : LeafAt) (path : List ℕ) (i : ℕ) → IsFrom path (i + 1) (leaf_path a) → (k : CopyAt) → is_under (path ++ i ∷ []) k.place ≡ true → IsEntryAt a k
beside-right a path i f k u at = absurd (true≢false (sym (subst (λ p. is_under (path ++ i ∷ []) p ≡ true) at u) ∙ f.later i (omega arith)))

module _ (x : ℕ) where
  mutual
    entries-in : (c : Spot) (n : Node) → AllByRecursion IsOrdered (dirs_in c n) → AllByRecursion (λ a. AllByRecursion (IsEntryAt a) (inner x c n)) (leaves_in c n)
    entries-in c (leaf_node v) h = (entry-own (record { spot = c; leaf = v }) (leaf_entry x v), tt)
    entries-in c (dir_node d ns) h =
        each-both _ _ _ (λ a f g. dir-each (IsEntryAt a) (IsEntryAt a) x c d ns (cut-entry c d x a (shallow c h.0.clocked.deep) f.longer) (elsewhere a (spot_path c) f.longer) g) _ (placed_from (spot_path c) d 0 ns) (entries-among (spot_path c) (moment_at c.above d.epoch) d 0 ns h.1)

    entries-among : (path bound : List ℕ) (d : DirValue) (i : ℕ) (ns : Nodes) → AllByRecursion IsOrdered (placed_dirs path d i ns) → AllByRecursion (λ a. AllByRecursion (IsEntryAt a) (handed x path bound d i ns)) (placed_leaves path d i ns)
    entries-among path bound d i no_nodes h = tt
    entries-among path bound d i (more_nodes n ns) h =
        each-append _ (leaves_in (spot_in path d i) n) (placed_leaves path d (i + 1) ns)
        (each-both _ _ _ (λ a u g. child-each (IsEntryAt a) x path bound d i n ns (elsewhere a path (child_longer path (leaf_path a) i u)) g (each-weaker _ _ (beside-left a path i u) _ (handed-stands x path bound d (i + 1) ns))) _ (leaves_under (spot_in path d i) n) (entries-in (spot_in path d i) n (each-left IsOrdered (dirs_in (spot_in path d i) n) _ h)))
        (each-both _ _ _ (λ a f g. child-each (IsEntryAt a) x path bound d i n ns (elsewhere a path f.longer) (each-weaker _ _ (beside-right a path i f) _ (inner_under x (spot_in path d i) n)) g) _ (placed_from path d (i + 1) ns) (entries-among path bound d (i + 1) ns (each-right IsOrdered (dirs_in (spot_in path d i) n) _ h)))

  pub entries-at : (m : MachineValue) → AllByRecursion IsOrdered (dirs_at m) → AllByRecursion (λ a. AllByRecursion (IsEntryAt a) (copies_of x m)) (leaves_at m)
  unfolding leaves_at copies_of dirs_at
  entries-at m h =
      each-both _ _ _ (λ a f g. each-append (IsEntryAt a) (handed x [] [] m.top 0 m.kids) (copies_here [] [] (words_of_item x m.top.parked)) g (here-each (IsEntryAt a) [] [] (elsewhere a [] f.longer) (words_of_item x m.top.parked))) _ (placed_from [] m.top 0 m.kids) (entries-among [] [] m.top 0 m.kids h)

  -- ---- under a directory

  abbrev pub IsKnownBelow : DirAt → CopyAt → Type 0
  IsKnownBelow e k = is_under (dir_path e) k.place ≡ true → (k.place ≡ dir_path e → ⊥) → GoesOn k.clock (taken_moment e)

  above-it : (e : DirAt) (path : List ℕ) → length path < length (dir_path e) → (k : CopyAt) → k.place ≡ path → IsKnownBelow e k
  above-it e path l k at u = let n : length (dir_path e) ≤ length path = under-length (dir_path e) path (subst (λ p. is_under (dir_path e) p ≡ true) at u) in absurd (omega (arith, n, l))

  known-left : (e : DirAt) (path : List ℕ) (i : ℕ) → is_under (path ++ i ∷ []) (dir_path e) ≡ true → (k : CopyAt) → StandsFrom path (i + 1) k → IsKnownBelow e k
  known-left e path i u k (inl f) v = absurd (true≢false (sym (under-trans (path ++ i ∷ []) (dir_path e) k.place u v) ∙ f.later i (omega arith)))
  known-left e path i u k (inr at) v = above-it e path (child_longer path (dir_path e) i u) k at v

  known-right : (e : DirAt) (path : List ℕ) (i : ℕ) → IsFrom path (i + 1) (dir_path e) → (k : CopyAt) → is_under (path ++ i ∷ []) k.place ≡ true → IsKnownBelow e k
  known-right e path i f k u v =
      let n : length (path ++ i ∷ []) ≡ length path + 1 = length-append path (i ∷ []) in
      absurd (true≢false (sym (under-shorter (path ++ i ∷ []) (dir_path e) k.place u v (omega (arith, n, f.longer))) ∙ f.later i (omega arith)))

  mutual
    known-in : (c : Spot) (n : Node) → AllByRecursion IsOrdered (dirs_in c n) → AllByRecursion (λ e. AllByRecursion (IsKnownBelow e) (inner x c n)) (dirs_in c n)
    known-in c (leaf_node v) h = tt
    known-in c (dir_node d ns) h = (
      dir-each (IsKnownBelow (record { spot = c; dir = d })) (IsTimely (moment_at c.above d.epoch)) x c d ns (λ k t u off. t.clock) (λ k at u off. absurd (off at)) (handed-timely x (spot_path c) (moment_at c.above d.epoch) d 0 ns (λ f g. (below_goes_on c d h.0.clocked f g).0) h.1),
      each-both _ _ _ (λ e f g. dir-each (IsKnownBelow e) (IsKnownBelow e) x c d ns (λ k b. b) (above-it e (spot_path c) f.longer) g) _ (dirs_from (spot_path c) d 0 ns) (known-among (spot_path c) (moment_at c.above d.epoch) d 0 ns h.1),
    )

    known-among : (path bound : List ℕ) (d : DirValue) (i : ℕ) (ns : Nodes) → AllByRecursion IsOrdered (placed_dirs path d i ns) → AllByRecursion (λ e. AllByRecursion (IsKnownBelow e) (handed x path bound d i ns)) (placed_dirs path d i ns)
    known-among path bound d i no_nodes h = tt
    known-among path bound d i (more_nodes n ns) h =
        each-append _ (dirs_in (spot_in path d i) n) (placed_dirs path d (i + 1) ns)
        (each-both _ _ _ (λ e u g. child-each (IsKnownBelow e) x path bound d i n ns (above-it e path (child_longer path (dir_path e) i u)) g (each-weaker _ _ (known-left e path i u) _ (handed-stands x path bound d (i + 1) ns))) _ (dirs_under (spot_in path d i) n) (known-in (spot_in path d i) n (each-left IsOrdered (dirs_in (spot_in path d i) n) _ h)))
        (each-both _ _ _ (λ e f g. child-each (IsKnownBelow e) x path bound d i n ns (above-it e path f.longer) (each-weaker _ _ (known-right e path i f) _ (inner_under x (spot_in path d i) n)) g) _ (dirs_from path d (i + 1) ns) (known-among path bound d (i + 1) ns (each-right IsOrdered (dirs_in (spot_in path d i) n) _ h)))

  pub known-below : (m : MachineValue) → AllByRecursion IsOrdered (dirs_at m) → AllByRecursion (λ e. AllByRecursion (IsKnownBelow e) (copies_of x m)) (dirs_at m)
  unfolding copies_of dirs_at
  known-below m h =
      each-both _ _ _ (λ e f g. each-append (IsKnownBelow e) (handed x [] [] m.top 0 m.kids) (copies_here [] [] (words_of_item x m.top.parked)) g (here-each (IsKnownBelow e) [] [] (above-it e [] f.longer) (words_of_item x m.top.parked))) _ (dirs_from [] m.top 0 m.kids) (known-among [] [] m.top 0 m.kids h)
