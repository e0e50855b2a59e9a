-- Before the turn: the words of the leaf's entry are those of the flat machine at the new operation's place in key order.
use Rattle.std.proofs.Common.{◌≡◌, ℕ, ◌+◌, ◌≤◌, ◌<◌, Bool, true, false, not, true≢false, ◌⊎◌, inl, inr, List, [], ◌∷◌, ◌++◌, map, length, Option, Some, None, IfSome, refl, sym, ap, subst, ◌∙◌}
use Rattle.std.specs.List.{AllByRecursion}
use Rattle.std.proofs.lemmas.List.{take-append-le}
use Rattle.order_laws.specs.DdmTypes.declared.operations.Op.{Op}
use Rattle.order_laws.specs.DdmTypes.Keys.{key_less}
use Rattle.order_laws.specs.DdmTypes.ItemTable.{ItemTable}
use Rattle.order_laws.specs.FlatModel.Flat.{FlatMachine, item_words}
use Rattle.order_laws.specs.FlatModel.Legal.{changes_item, words_after}
use Rattle.order_laws.specs.TreeModel.State.Values.{LeafValue, DirValue, Node, Nodes, leaf_node, dir_node, no_nodes, more_nodes, MachineValue}
use Rattle.order_laws.specs.TreeModel.State.States.{is_held, entry_hold}
use Rattle.order_laws.specs.TreeModel.State.Leaf.{words_of_item, LeafEntry, leaf_entry}
use Rattle.order_laws.specs.TreeModel.State.Directory.{queue_of}
use Rattle.order_laws.specs.TreeModel.State.Child.{child_replies}
use Rattle.order_laws.specs.TreeModel.State.Place.{Spot, spot_path, spot_in}
use Rattle.order_laws.specs.TreeModel.State.Shape.{depth_of}
use Rattle.order_laws.specs.TreeModel.Turns.Witness.{sorted_ops}
use Rattle.order_laws.specs.TreeRules.Statements.{Holds, each, there_and, is_so}
use Rattle.order_laws.proofs.TreeRules.Statements.{Holds-from_test, test-from_Holds}
use Rattle.order_laws.specs.TreeRules.Order.Moments.{less, less_at, moment_length, before, past, parted, is_under, moment_at, spot_moment}
use Rattle.order_laws.specs.TreeRules.Order.Places.{LeafAt, leaf_path, leaf_now, leaves_in, placed_leaves, leaves_at}
use Rattle.order_laws.specs.TreeRules.Order.Copies.{CopyAt, copy_here, cut, first_erase, downs, copies_here, entry_copies, inner, handed, copies_of}
use Rattle.order_laws.specs.TreeRules.Order.Ops.{op_key, op_path}
use Rattle.order_laws.specs.TreeRules.Order.Core.{ended_before, knows_change}
use Rattle.order_lists.proofs.Filters.{each-weaker, each-append, each-left, each-right}
use Rattle.order_lists.proofs.Moments.{less-head, less-tail, less-parts, less-asymmetric, less_at-less, before-past}
use Rattle.order_lists.proofs.Sorted.{lesser}
use Rattle.order_lists.proofs.Values.{Agree}
use Rattle.order_lists.proofs.Words.{is_after_end, is_not_after_end}
use Rattle.order_lists.proofs.CopyWords.{HasWordsOfChanges}
use Rattle.order_laws.proofs.Hart.Facts.{EndsLater}

-- ---- the copy of a leaf's entry

-- a copy of which this holds, with the leaf's place, the words of its entry, and a clock with which the leaf's `now` begins
pub record CopyOf (P : CopyAt → Type 0) (a : LeafAt) (e : LeafEntry) : Type 0 where
  pub copy : CopyAt
  pub fact : P copy
  pub place : copy.place ≡ leaf_path a
  pub words : copy.words ≡ e.words
  pub tail : List ℕ
  pub now : leaf_now a ≡ copy.clock ++ tail

module _ (x : ℕ) where
  abbrev pub HasItsCopy : (CopyAt → Type 0) → LeafAt → Type 0
  HasItsCopy P a = (e : LeafEntry) → leaf_entry x a.leaf ≡ Some e → is_held (entry_hold (Some e.state)) ≡ true → CopyOf P a e

  from_cut : (P : CopyAt → Type 0) (f : Option (List ℕ)) (ks : List CopyAt) → AllByRecursion P (map (cut f) ks) → AllByRecursion (λ k. P (cut f k)) ks
  from_cut P f [] h = tt
  from_cut P f (k ∷ ks) h = (h.0, from_cut P f ks h.1)

  uncut : (P : CopyAt → Type 0) (f : Option (List ℕ)) (a : LeafAt) → HasItsCopy (λ k. P (cut f k)) a → HasItsCopy P a
  uncut P f a h e i held =
      let c : CopyOf (λ k. P (cut f k)) a e = h e i held in
      record { copy = cut f c.copy; fact = c.fact; place = c.place; words = c.words; tail = c.tail; now = c.now }

  leaf_copy : (P : CopyAt → Type 0) (c : Spot) (v : LeafValue) → AllByRecursion P (entry_copies (spot_path c) (spot_moment c) (leaf_entry x v)) → HasItsCopy P (record { spot = c; leaf = v })
  leaf_copy P c v h e is held = record { copy = k; fact = (one (subst (λ o. AllByRecursion P (entry_copies (spot_path c) (spot_moment c) o)) is h)).0; place = refl; words = refl; tail = c.number ∷ v.done ∷ []; now = refl } where
    k : CopyAt
    k = copy_here (spot_path c) (spot_moment c) e.words

    only : entry_copies (spot_path c) (spot_moment c) (Some e) ≡ k ∷ []
    only = rw held refl

    one : AllByRecursion P (entry_copies (spot_path c) (spot_moment c) (Some e)) → AllByRecursion P (k ∷ [])
    one = subst (AllByRecursion P) only

  mutual
    entry_in : (P : CopyAt → Type 0) (c : Spot) (n : Node) → AllByRecursion P (inner x c n) → AllByRecursion (HasItsCopy P) (leaves_in c n)
    entry_in P c (leaf_node v) h = (leaf_copy P c v h, tt)
    entry_in P c (dir_node d ns) h =
        each-weaker _ _ (λ a g. uncut P (first_erase c.above (queue_of x d.down)) a g) _
        (entry_among (λ k. P (cut (first_erase c.above (queue_of x d.down)) k)) (spot_path c) (moment_at c.above d.epoch) d 0 ns
        (each-left _ (handed x (spot_path c) (moment_at c.above d.epoch) d 0 ns) (copies_here (spot_path c) (moment_at c.above d.epoch) (words_of_item x d.parked)) (from_cut P (first_erase c.above (queue_of x d.down)) _ (each-left P _ (downs (spot_path c) c.above (queue_of x d.down)) h))))

    entry_among : (P : CopyAt → Type 0) (path bound : List ℕ) (d : DirValue) (i : ℕ) (ns : Nodes) → AllByRecursion P (handed x path bound d i ns) → AllByRecursion (HasItsCopy P) (placed_leaves path d i ns)
    entry_among P path bound d i no_nodes h = tt
    entry_among P path bound d i (more_nodes n ns) h =
        each-append _ (leaves_in (spot_in path d i) n) (placed_leaves path d (i + 1) ns)
        (entry_in P (spot_in path d i) n (each-left P (inner x (spot_in path d i) n) (copies_here path bound (words_of_item x (child_replies n))) (each-left P (inner x (spot_in path d i) n ++ copies_here path bound (words_of_item x (child_replies n))) (handed x path bound d (i + 1) ns) h)))
        (entry_among P path bound d (i + 1) ns (each-right P (inner x (spot_in path d i) n ++ copies_here path bound (words_of_item x (child_replies n))) (handed x path bound d (i + 1) ns) h))

  -- of a machine: what is known of each copy is known of that of each entry
  pub entry_copy : (m : MachineValue) (P : CopyAt → Type 0) → AllByRecursion P (copies_of x m) → AllByRecursion (HasItsCopy P) (leaves_at m)
  unfolding copies_of leaves_at
  entry_copy m P h = entry_among P [] [] m.top 0 m.kids (each-left P (handed x [] [] m.top 0 m.kids) (copies_here [] [] (words_of_item x m.top.parked)) h)

-- ---- which changes the entry has: those before the leaf's `now`

pub less-append : (a b t : List ℕ) → less a b ≡ true → less a (b ++ t) ≡ true
less-append a [] t h = absurd (let wrong : ⊥ = cc in wrong)
less-append [] (n ∷ b) t h = refl
less-append (m ∷ a) (n ∷ b) t h = go (less-parts m n a b h) (less-append a b t) where
  go : (m < n) ⊎ ((m ≡ n) × (less a b ≡ true)) → (less a b ≡ true → less a (b ++ t) ≡ true) → less (m ∷ a) (n ∷ (b ++ t)) ≡ true
  go (inl i) rest = less-head m n a (b ++ t) i
  go (inr i) rest = less-tail m n a (b ++ t) i.0 (rest i.1)

pub before-append : (k t e : List ℕ) → length e ≤ length k → before k e ≡ true → before (k ++ t) e ≡ true
before-append k t e l h = ap (λ q. less q e) (take-append-le (length e) k t l) ∙ h

-- an end of the leaf's copy comes after the leaf's `now`
pub now_before_end : (k : CopyAt) (tail e : List ℕ) → EndsLater k → k.end ≡ Some e → before (k.clock ++ tail) e ≡ true
now_before_end k tail e late is =
    let here : (before k.clock e ≡ true) × (length e ≤ length k.clock) = subst (λ o. IfSome o (λ f. (before k.clock f ≡ true) × (length f ≤ length k.clock))) is late in
    before-append k.clock tail e here.1 here.0

-- what is past the end of the leaf's copy is past the leaf's `now`
pub past_end_later : (k : CopyAt) (tail key : List ℕ) → EndsLater k → Holds (ended_before k key) → less (k.clock ++ tail) key ≡ true
past_end_later k tail key late h = go k.end refl h where
  go : (o : Option (List ℕ)) → k.end ≡ o → Holds (there_and (λ e. is_so (past e key)) o) → less (k.clock ++ tail) key ≡ true
  go None is i = absurd (let wrong : ⊥ = cc in wrong)
  go (Some e) is i = before-past (k.clock ++ tail) e key (now_before_end k tail e late is) i

module _ (items : ItemTable) (depth x : ℕ) (op : Op) (k : CopyAt) (tail : List ℕ) (now : op_key depth op ≡ k.clock ++ tail) (late : EndsLater k) where
  -- one operation: its key is less than the new one's just where it doesn't come after the copy's end
  known_less : (o : Op) → key_less o.key op.key ≡ less (op_key depth o) (op_key depth op) → Holds (knows_change depth items x k o) → (is_under k.place (op_path depth o) ≡ true → less (op_key depth o) (op_key depth op) ≡ true) → changes_item items x o.effect ≡ true → key_less o.key op.key ≡ is_not_after_end depth items x k o
  known_less o same known own c = same ∙ go (is_after_end depth items x k o) refl where
    by_place : is_after_end depth items x k o ≡ false → (u : Bool) → is_under k.place (op_path depth o) ≡ u → less (op_key depth o) (op_key depth op) ≡ true
    by_place i true u = own u
    by_place i false u = by_rule (known c u) where
      by_rule : (less_at (moment_length (parted k.place (op_path depth o))) (op_key depth o) k.clock ≡ true) ⊎ Holds (ended_before k (op_key depth o)) → less (op_key depth o) (op_key depth op) ≡ true
      by_rule (inl h) = ap (less (op_key depth o)) now ∙ less-append (op_key depth o) k.clock tail (less_at-less (moment_length (parted k.place (op_path depth o))) (op_key depth o) k.clock h)
      by_rule (inr h) = absurd (true≢false (sym (test-from_Holds (ended_before k (op_key depth o)) h) ∙ i))

    go : (t : Bool) → is_after_end depth items x k o ≡ t → less (op_key depth o) (op_key depth op) ≡ is_not_after_end depth items x k o
    go true i = less-asymmetric (op_key depth op) (op_key depth o) (ap (λ n. less n (op_key depth o)) now ∙ past_end_later k tail (op_key depth o) late (Holds-from_test (ended_before k (op_key depth o)) i)) ∙ sym (ap not i)
    go false i = by_place i (is_under k.place (op_path depth o)) refl ∙ sym (ap not i)

module _ (s : FlatMachine) (m : MachineValue) (x : ℕ) (op : Op) where
  -- words, ends and clocks of one copy
  pub record IsToldCopy (k : CopyAt) : Type 0 where
    pub words : HasWordsOfChanges s m x k
    pub late : EndsLater k
    pub known : Holds (each (knows_change (depth_of m) m.items x k) m.ops)

  -- of one operation at the leaf: the order of records is that of numbers, and one of the leaf is less than its `now`
  pub record IsOwnLess (a : LeafAt) (o : Op) : Type 0 where
    pub same : key_less o.key op.key ≡ less (op_key (depth_of m) o) (op_key (depth_of m) op)
    pub own : is_under (leaf_path a) (op_path (depth_of m) o) ≡ true → less (op_key (depth_of m) o) (op_key (depth_of m) op) ≡ true

  pub ready_words : (a : LeafAt) (e : LeafEntry) → op_key (depth_of m) op ≡ leaf_now a → AllByRecursion (IsOwnLess a) m.ops → CopyOf IsToldCopy a e → e.words ≡ words_after m.items x (item_words s x) (lesser op (sorted_ops m.ops))
  ready_words a e now own c = sym c.words ∙ c.fact.words (λ (o : Op). key_less o.key op.key) (go m.ops own c.fact.known) where
    go : (os : List Op) → AllByRecursion (IsOwnLess a) os → Holds (each (knows_change (depth_of m) m.items x c.copy) os) → Agree m.items x (λ (o : Op). key_less o.key op.key) (is_not_after_end (depth_of m) m.items x c.copy) os
    go [] h k = tt
    go (o ∷ os) h k = (known_less m.items (depth_of m) x op c.copy c.tail (now ∙ c.now) c.fact.late o h.0.same k.0 (λ u. h.0.own (ap (λ p. is_under p (op_path (depth_of m) o)) (sym c.place) ∙ u)), go os h.1 k.1)
