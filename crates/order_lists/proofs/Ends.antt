-- Copies: their clocks don't run ahead, and an end comes after the clock of its copy.
use Rattle.std.proofs.Common.{◌≡◌, ℕ, ◌+◌, ◌<◌, Bool, true, false, List, [], ◌∷◌, length, take, map, Option, Some, None, IfSome, refl}
use Rattle.std.specs.List.{AllByRecursion}
use Rattle.order_lists.specs.DdmTypes.declared.keys.Stamp.{Stamp}
use Rattle.order_lists.specs.TreeModel.State.Kinds.{brings_copy}
use Rattle.order_lists.specs.TreeModel.State.States.{entry_hold, is_held}
use Rattle.order_lists.specs.TreeModel.State.Values.{DownValue, DirValue, Node, Nodes, leaf_node, dir_node, no_nodes, more_nodes}
use Rattle.order_lists.specs.TreeModel.State.Leaf.{words_of_item, LeafEntry, leaf_entry}
use Rattle.order_lists.specs.TreeModel.State.Directory.{queue_of, stamp_of}
use Rattle.order_lists.specs.TreeModel.State.Child.{child_replies}
use Rattle.order_lists.specs.TreeModel.State.Place.{Spot, spot_path, spot_in}
use Rattle.tree_rules.specs.Order.Moments.{less, before, moment_at, spot_moment, GoesOn}
use Rattle.tree_rules.specs.Order.Places.{dirs_in, placed_dirs}
use Rattle.tree_rules.specs.Order.Copies.{CopyAt, cut, first_erase, downs, copies_here, entry_copies, inner, handed}
use Rattle.order_lists.proofs.Filters.{each-weaker, each-append, each-left, each-right}
use Rattle.order_lists.proofs.Moments.{least-less, GoesOn-refl, GoesOn-trans}
use Rattle.order_lists.proofs.Stamps.{same_length}
use Rattle.order_lists.proofs.Clocks.{epoch_goes_on, below_goes_on, shallow}
use Rattle.order_lists.proofs.Queues.{IsOrdered, Rises, erase_later, some_first, some_weaker, first_erase-each, queue-rises, queue-below, queue-late}

-- a copy whose clock goes on from a moment, and whose end comes after the clock
pub record IsTimely (bound : List ℕ) (k : CopyAt) : Type 0 where
  pub clock : GoesOn k.clock bound
  pub end : IfSome k.end (λ e. before k.clock e ≡ true)

pub timely-weaker : (a b : List ℕ) → ((f : List ℕ) → GoesOn f a → GoesOn f b) → (k : CopyAt) → IsTimely a k → IsTimely b k
timely-weaker a b up k t = record { clock = up k.clock t.clock; end = t.end }

-- a moment past the bound comes after what goes on from the bound
pub before_later : (f b e : List ℕ) → GoesOn f b → length e ≡ length b → less b e ≡ true → before f e ≡ true
before_later f b e g l h = least-less (take (length e) f) b e (rw l g.at_most) h

pub cut-timely : (b : List ℕ) (erased : Option (List ℕ)) → IfSome erased (λ e. (length e ≡ length b) × (less b e ≡ true)) → (ks : List CopyAt) → AllByRecursion (IsTimely b) ks → AllByRecursion (IsTimely b) (map (cut erased) ks)
cut-timely b erased late [] h = tt
cut-timely b erased late (k ∷ ks) h = (record { clock = h.0.clock; end = some_first k.end erased (λ e. before k.clock e ≡ true) h.0.end (some_weaker erased _ _ (λ e l. before_later k.clock b e h.0.clock l.0 l.1) late) }, cut-timely b erased late ks h.1)

pub here-timely : (place b : List ℕ) (ws : List (List ℕ)) → AllByRecursion (IsTimely b) (copies_here place b ws)
here-timely place b [] = tt
here-timely place b (w ∷ ws) = (record { clock = GoesOn-refl b; end = tt }, here-timely place b ws)

pub entry-timely : (place b : List ℕ) (o : Option LeafEntry) → AllByRecursion (IsTimely b) (entry_copies place b o)
entry-timely place b None = tt
entry-timely place b (Some e) = go (is_held (entry_hold (Some e.state))) refl where
  go : (t : Bool) → is_held (entry_hold (Some e.state)) ≡ t → AllByRecursion (IsTimely b) (entry_copies place b (Some e))
  go true i = rw i (record { clock = GoesOn-refl b; end = tt }, tt)
  go false i = rw i tt

pub downs-timely : (place above : List ℕ) (present : Stamp) (q : List DownValue) → length above < 4 → Rises above q → AllByRecursion (λ e. GoesOn (moment_at above e.stamp) (moment_at above present)) q → AllByRecursion (IsTimely (moment_at above present)) (downs place above q)
downs-timely place above present [] h r b = tt
downs-timely place above present (e ∷ es) h r b = go (brings_copy e.kind) refl (downs-timely place above present es h r.1 b.1) where
  late : IfSome (first_erase above es) (λ m. before (moment_at above e.stamp) m ≡ true)
  late = first_erase-each above (λ m. before (moment_at above e.stamp) m ≡ true) es (each-weaker _ _ (λ f m i. before_later _ _ _ (GoesOn-refl (moment_at above e.stamp)) (same_length above f.stamp e.stamp h) (m.later (erase_later f.kind i))) es r.0)

  go : (t : Bool) → brings_copy e.kind ≡ t → AllByRecursion (IsTimely (moment_at above present)) (downs place above es) → AllByRecursion (IsTimely (moment_at above present)) (downs place above (e ∷ es))
  go true i rest = rw i (record { clock = b.0; end = late }, rest)
  go false i rest = rw i rest

-- ---- of all copies inside a node

mutual
  pub inner-timely : (x : ℕ) (c : Spot) (n : Node) → AllByRecursion IsOrdered (dirs_in c n) → AllByRecursion (IsTimely (spot_moment c)) (inner x c n)
  inner-timely x c (leaf_node v) h = entry-timely (spot_path c) (spot_moment c) (leaf_entry x v)
  inner-timely x c (dir_node d ns) h =
      each-append (IsTimely (spot_moment c)) _ (downs (spot_path c) c.above (queue_of x d.down))
      (each-weaker _ _ (timely-weaker _ _ (λ f g. GoesOn-trans f _ _ g (epoch_goes_on c d h.0.clocked))) _
      (cut-timely (moment_at c.above d.epoch) (first_erase c.above (queue_of x d.down)) (queue-late x c d h.0) _
      (each-append (IsTimely (moment_at c.above d.epoch)) _ (copies_here (spot_path c) (moment_at c.above d.epoch) (words_of_item x d.parked))
      (handed-timely x (spot_path c) (moment_at c.above d.epoch) d 0 ns (λ f g. (below_goes_on c d h.0.clocked f g).0) h.1)
      (here-timely (spot_path c) (moment_at c.above d.epoch) (words_of_item x d.parked)))))
      (downs-timely (spot_path c) c.above c.present (queue_of x d.down) (shallow c h.0.clocked.deep) (queue-rises x c d h.0) (queue-below x c d h.0))

  -- what goes on from the bus's present moment goes on from the bound
  pub handed-timely : (x : ℕ) (path bound : List ℕ) (d : DirValue) (i : ℕ) (ns : Nodes) → ((f : List ℕ) → GoesOn f (moment_at path (stamp_of d)) → GoesOn f bound) → AllByRecursion IsOrdered (placed_dirs path d i ns) → AllByRecursion (IsTimely bound) (handed x path bound d i ns)
  handed-timely x path bound d i no_nodes up h = tt
  handed-timely x path bound d i (more_nodes n ns) up h =
      each-append (IsTimely bound) _ (handed x path bound d (i + 1) ns)
      (each-append (IsTimely bound) (inner x (spot_in path d i) n) (copies_here path bound (words_of_item x (child_replies n)))
      (each-weaker _ _ (timely-weaker _ _ up) _ (inner-timely x (spot_in path d i) n (each-left _ (dirs_in (spot_in path d i) n) _ h)))
      (here-timely path bound (words_of_item x (child_replies n))))
      (handed-timely x path bound d (i + 1) ns up (each-right _ (dirs_in (spot_in path d i) n) _ h))
