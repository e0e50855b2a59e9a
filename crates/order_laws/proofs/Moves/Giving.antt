-- A child whose reply is granted or whose copy leaves: the copy that it hands up before.
-- Letters: x is the item, n the child, v a leaf, d a directory, i the child's number.
use Rattle.std.proofs.Common.{◌≡◌, ℕ, true, false, List, [], ◌∷◌, ◌++◌, map, take, Option, Some, None, option_map, refl, sym, ap, subst, ◌∙◌, inl}
use Rattle.std.specs.Prelude.{filter, unwrap_or}
use Rattle.order_laws.specs.DdmTypes.declared.answers.PendingWhy.{PendingWhy}
use Rattle.order_laws.specs.DdmTypes.declared.sizes.LeafState.{LeafState}
use Rattle.order_laws.specs.DdmTypes.declared.keys.Stamp.{Stamp}
use Rattle.order_laws.specs.TreeModel.State.Lists.{first_of, has_some}
use Rattle.order_laws.specs.TreeModel.State.States.{may_leave}
use Rattle.order_laws.specs.TreeModel.State.Values.{BufferValue, DownValue, LeafValue, DirValue, Node, leaf_node, dir_node}
use Rattle.order_laws.specs.TreeModel.State.Leaf.{buffer_item, buffer_entry, buffered, way_at, entry_at, leaf_entry, words_of_item, copy_item, may_leave_buffer, leaf_leaving}
use Rattle.order_laws.specs.TreeModel.State.Directory.{queue_of, queue_kinds, entry_kind, pending, dir_leaving}
use Rattle.order_laws.specs.TreeModel.State.Child.{child_replies, child_reply, child_leaving, child_given, buffer_words, pending_below}
use Rattle.order_laws.specs.TreeModel.State.Place.{Spot}
use Rattle.order_laws.specs.TreeRules.Bus.Own.{IsLeafOk}
use Rattle.order_laws.specs.TreeRules.Bus.Rules.{IsChildOk}
use Rattle.order_laws.specs.TreeRules.Order.Copies.{CopyAt, cut, copy_here, copies_here, first_erase, downs, inner, handed}
use Rattle.order_laws.specs.TreeRules.Order.Directories.{IsClocked}
use Rattle.order_laws.specs.TreeRules.Order.Moments.{moment_at, moment_length}
use Rattle.bus_laws.proofs.HartFacts.{entries-from_rules}
use Rattle.bus_laws.proofs.LeafGives.{each-buffered, get-filter}
use Rattle.bus_laws.proofs.Lists.{chosen-get}
use Rattle.bus_laws.proofs.ItemLists.{words-first, words-got}
use Rattle.bus_laws.proofs.DirGives.{quiet-from_pending}
use Rattle.order_lists.proofs.Clocks.{here}
use Rattle.order_lists.proofs.Moments.{at_most-at, at_most-transitive}
use Rattle.order_lists.proofs.Paths.{under-append}
use Rattle.order_laws.specs.Moves.Moved.{In}
use Rattle.order_laws.proofs.Moves.Sources.{In-left, In-right, In-map}
use Rattle.order_laws.proofs.Moves.Leaves.{held_words, entry_copies-are}
use Rattle.order_laws.proofs.Moves.Rise.{IsNext, Rises, entry-rises}
use Rattle.order_laws.proofs.Moves.Child.{hand, replies_at}

-- ---- a leaf's copy that may leave stands in the buffer alone

held-leaving : (s : LeafState) (w : List ℕ) → may_leave s ≡ true → held_words (Some (record { state = s; words = w })) ≡ w ∷ []
held-leaving LeafState.Shared w h = refl
held-leaving LeafState.Exclusive w h = refl
held-leaving LeafState.Waiting w h = cc
held-leaving LeafState.Reading w h = cc
held-leaving LeafState.ReadingWaiting w h = cc

leaf-leaves : (n choice x : ℕ) (v : LeafValue) → IsLeafOk n v → leaf_leaving choice v.buffer ≡ Some x → held_words (leaf_entry x v) ≡ child_given x (leaf_node v) ∷ []
unfolding leaf_leaving entry_at
leaf-leaves n choice x v ok leaves =
    let has = entries-from_rules n v ok in
    let found = chosen-get buffer_item choice x (filter may_leave_buffer v.buffer) leaves in
    let e : BufferValue = found.0 in
    let held = get-filter may_leave_buffer (λ (f : BufferValue). (way_at f.item v.ways ≡ None) × (buffered f.item v.buffer ≡ Some f)) v.buffer found.1.0 e found.1.1 (λ k d l. ((has.aside k d l).alone, each-buffered v.buffer has.once k d l)) in
    let no_way : way_at e.item v.ways ≡ None = held.0.0 in
    let there : buffered e.item v.buffer ≡ Some e = held.0.1 in
    let entry : leaf_entry e.item v ≡ Some (buffer_entry e) = rw (no_way, there) refl in
    let given : child_given e.item (leaf_node v) ≡ e.words = ap (λ o. unwrap_or (option_map buffer_words o) []) there in
    let words : held_words (leaf_entry e.item v) ≡ e.words ∷ [] = ap held_words entry ∙ held-leaving e.state e.words held.1 in
    subst (λ i. held_words (leaf_entry i v) ≡ child_given i (leaf_node v) ∷ []) found.2 (words ∙ ap (λ w. w ∷ []) (sym given))

-- ---- a directory's is its parked copy, and nothing of the item comes down to it

first-words : (ws : List (List ℕ)) → has_some ws ≡ true → (place clock : List ℕ) → In (copy_here place clock (unwrap_or (first_of ws) [])) (copies_here place clock ws)
first-words [] h place clock = cc
first-words (w ∷ ws) h place clock = inl refl

pub no-queue : (x : ℕ) (d : DirValue) → has_some (queue_kinds x d.down) ≡ false → queue_of x d.down ≡ []
no-queue x d h = by (queue_of x d.down) h where
  by : (q : List DownValue) → has_some (map entry_kind q) ≡ false → q ≡ []
  by [] h = refl
  by (e ∷ q) h = cc

none-below : (o : Option PendingWhy) (b : ℕ) → option_map (λ (why : PendingWhy). let both : ℕ × PendingWhy = (b, why) in both) o ≡ None → o ≡ None
none-below None b e = refl
none-below (Some why) b e = cc

module _ (x : ℕ) (path bound bound' : List ℕ) (s s' : Stamp) (Has : ℕ → Type 0) (next : IsNext path bound bound' (moment_at path s) (moment_at path s')) where
  -- a copy that child i hands up, and that may be told or parked
  pub record HandsUp (i : ℕ) (n : Node) (words : List ℕ) : Type 0 where
    pub copy : CopyAt
    pub there : In copy (hand x path bound s i n)
    pub is : copy.words ≡ words
    pub rises : Rises path bound' copy

  dir-rises : (i : ℕ) (d : DirValue) (words : List ℕ) → IsClocked (here (record { above = path; number = i; present = s }) d) → Rises path bound' (copy_here (path ++ i ∷ []) (moment_at path d.epoch) words)
  dir-rises i d words k = record {
    under = under-append path (i ∷ []);
    least = λ j l. at_most-transitive (take (moment_length j) (moment_at path d.epoch)) (take (moment_length j) (moment_at path s)) (take (moment_length j) bound') (at_most-at (moment_length j) (moment_at path d.epoch) (moment_at path s) k.taken) ((entry-rises path bound bound' (moment_at path s) (moment_at path s') Has next i words).least j l);
    fresh = refl;
  }

  abbrev pub IsInTime : ℕ → Node → Type 0
  IsInTime i (leaf_node v) = Unit {0}
  IsInTime i (dir_node d ns) = IsClocked (here (record { above = path; number = i; present = s }) d)

  pub leaving-copy : (k choice i : ℕ) (n : Node) → child_leaving choice n ≡ Some x → pending_below x n ≡ None → IsChildOk k n → IsInTime i n → HandsUp i n (child_given x n)
  unfolding dir_leaving
  leaving-copy k choice i (leaf_node v) leaves free ok time =
      let one : CopyAt = copy_here (path ++ i ∷ []) (moment_at path s) (child_given x (leaf_node v)) in
      let there : In one (copies_here (path ++ i ∷ []) (moment_at path s) (held_words (leaf_entry x v))) = subst (λ ws. In one (copies_here (path ++ i ∷ []) (moment_at path s) ws)) (sym (leaf-leaves k choice x v ok leaves)) (inl refl) in
      record {
        copy = one;
        there = In-left one (inner x (record { above = path; number = i; present = s }) (leaf_node v)) (replies_at x path bound (leaf_node v)) (subst (λ l. In one l) (sym (entry_copies-are (path ++ i ∷ []) (moment_at path s) (leaf_entry x v))) there);
        is = refl;
        rises = entry-rises path bound bound' (moment_at path s) (moment_at path s') Has next i (child_given x (leaf_node v));
      }
  leaving-copy k choice i (dir_node d ns) leaves free ok time =
      let found = chosen-get copy_item choice x d.parked leaves in
      let some : has_some (words_of_item x d.parked) ≡ true = subst (λ y. has_some (words_of_item y d.parked) ≡ true) found.2 (words-got d.parked found.1.0 found.0 found.1.1) in
      let q : queue_of x d.down ≡ [] = no-queue x d (quiet-from_pending x d (none-below (pending x d) d.bus free)).queue in
      let c : Spot = record { above = path; number = i; present = s } in
      let one : CopyAt = copy_here (path ++ i ∷ []) (moment_at path d.epoch) (child_given x (dir_node d ns)) in
      let parked : List CopyAt = copies_here (path ++ i ∷ []) (moment_at path d.epoch) (words_of_item x d.parked) in
      let kids : List CopyAt = handed x (path ++ i ∷ []) (moment_at path d.epoch) d 0 ns in
      let below : In one (map (cut None) (kids ++ parked)) = In-map (cut None) one (kids ++ parked) (In-right one kids parked (first-words (words_of_item x d.parked) some (path ++ i ∷ []) (moment_at path d.epoch))) in
      let inside : In one (map (cut (first_erase path (queue_of x d.down))) (kids ++ parked) ++ downs (path ++ i ∷ []) path (queue_of x d.down)) = subst (λ l. In one (map (cut (first_erase path l)) (kids ++ parked) ++ downs (path ++ i ∷ []) path l)) (sym q) (In-left one (map (cut None) (kids ++ parked)) [] below) in
      record {
        copy = one;
        there = In-left one (inner x c (dir_node d ns)) (replies_at x path bound (dir_node d ns)) inside;
        is = refl;
        rises = dir-rises i d (child_given x (dir_node d ns)) time;
      }

-- ---- a reply

pub reply-copy : (x : ℕ) (path bound : List ℕ) (s : Stamp) (i : ℕ) (n : Node) (words : List ℕ) → child_reply n ≡ Some (record { item = x; words = words }) → In (copy_here path bound words) (hand x path bound s i n)
reply-copy x path bound s i n words has =
    let first = words-first (child_replies n) (record { item = x; words = words }) has in
    In-right (copy_here path bound words) (inner x (record { above = path; number = i; present = s }) n) (replies_at x path bound n) (subst (λ ws. In (copy_here path bound words) (copies_here path bound ws)) (sym first) (inl refl))
