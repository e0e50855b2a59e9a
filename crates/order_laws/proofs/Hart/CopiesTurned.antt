-- The copies of an item after a hart's turn: those before it, with the words of the leaf's entry changed where it stored.
use Rattle.std.proofs.Common.{◌≡◌, ℕ, ◌+◌, Bool, true, false, ◌⊎◌, inl, inr, List, [], ◌∷◌, ◌++◌, Option, Some, None, refl, sym, ap, subst, ◌∙◌}
use Rattle.std.proofs.lemmas.Bool.{true≢false}
use Rattle.order_laws.specs.DdmTypes.declared.operations.Effect.{Effect}
use Rattle.order_laws.specs.DdmTypes.ItemTable.{ItemTable}
use Rattle.order_laws.specs.FlatModel.Legal.{changes_item, stored_by}
use Rattle.order_laws.specs.TreeModel.State.Kinds.{brings_copy}
use Rattle.order_laws.specs.TreeModel.State.Values.{DownValue, LeafValue, DirValue, Node, Nodes, leaf_node, dir_node, no_nodes, more_nodes}
use Rattle.order_laws.specs.TreeModel.State.States.{is_held, entry_hold}
use Rattle.order_laws.specs.TreeModel.State.Leaf.{words_of_item, LeafEntry, leaf_entry}
use Rattle.order_laws.specs.TreeModel.State.Lists.{first_some}
use Rattle.order_laws.specs.TreeModel.State.Directory.{queue_of}
use Rattle.order_laws.specs.TreeModel.State.Child.{child_replies}
use Rattle.order_laws.specs.TreeModel.State.Place.{Spot, spot_path, spot_in}
use Rattle.order_laws.specs.TreeRules.Order.Moments.{moment_at, spot_moment, is_under}
use Rattle.order_laws.specs.TreeRules.Order.Copies.{CopyAt, cut, first_erase, downs, copies_here, entry_copies, inner, handed}
use Rattle.order_lists.proofs.Paths.{under-itself}
use Rattle.order_laws.specs.Pairs.{Pairs}
use Rattle.order_laws.proofs.Pairs.{pairs-append, pairs-map}
use Rattle.order_laws.proofs.Hart.LeafTurned.{EntryTurned}
use Rattle.order_laws.proofs.Hart.TreeTurned.{AtLeaf, NodeTurned, AmongTurned}

module _ (items : ItemTable) (x : ℕ) (effect : Effect) (at : List ℕ) where
  -- one copy before and after: at the leaf its words change where the effect changes the item
  pub record CopyTurned (k l : CopyAt) : Type 0 where
    pub place : l.place ≡ k.place
    pub clock : l.clock ≡ k.clock
    pub end : l.end ≡ k.end
    pub apart : (is_under at k.place ≡ false) ⊎ (k.place ≡ at)
    pub words : ((l.words ≡ k.words) × (k.place ≡ at → changes_item items x effect ≡ false)) ⊎ ((k.place ≡ at) × (changes_item items x effect ≡ true) × (l.words ≡ stored_by items x k.words effect))

  abbrev pub CopiesTurned : List CopyAt → List CopyAt → Type 0
  CopiesTurned = Pairs CopyTurned

  -- where the effect doesn't change the item, copies stay
  pub copy_stays : changes_item items x effect ≡ false → (k l : CopyAt) → CopyTurned k l → l ≡ k
  copy_stays none k l h = λ j. record { place = h.place j; clock = h.clock j; end = h.end j; words = same h.words j } where
    same : ((l.words ≡ k.words) × (k.place ≡ at → changes_item items x effect ≡ false)) ⊎ ((k.place ≡ at) × (changes_item items x effect ≡ true) × (l.words ≡ stored_by items x k.words effect)) → l.words ≡ k.words
    same (inl w) = w.0
    same (inr w) = absurd (true≢false (sym w.1 ∙ none))

  not_at : (place : List ℕ) → is_under at place ≡ false → place ≡ at → ⊥
  not_at place h e = true≢false (sym (under-itself at) ∙ ap (is_under at) (sym e) ∙ h)

  other_copy : (k : CopyAt) → is_under at k.place ≡ false → CopyTurned k k
  other_copy k h = record { place = refl; clock = refl; end = refl; apart = inl h; words = inl (refl, λ e. absurd (not_at k.place h e)) }

  cut_turned : (e : Option (List ℕ)) (k l : CopyAt) → CopyTurned k l → CopyTurned (cut e k) (cut e l)
  cut_turned e k l h = record { place = h.place; clock = h.clock; end = ap (λ o. first_some o e) h.end; apart = h.apart; words = h.words }

  pub here_turned : (path clock : List ℕ) (ws : List (List ℕ)) → is_under at path ≡ false → CopiesTurned (copies_here path clock ws) (copies_here path clock ws)
  here_turned path clock [] off = tt
  here_turned path clock (w ∷ ws) off = (other_copy _ off, here_turned path clock ws off)

  downs_turned : (path above : List ℕ) (q : List DownValue) → is_under at path ≡ false → CopiesTurned (downs path above q) (downs path above q)
  downs_turned path above [] off = tt
  downs_turned path above (e ∷ es) off = go (brings_copy e.kind) refl (downs_turned path above es off) where
    go : (t : Bool) → brings_copy e.kind ≡ t → CopiesTurned (downs path above es) (downs path above es) → CopiesTurned (downs path above (e ∷ es)) (downs path above (e ∷ es))
    go true i rest = rw i (other_copy _ off, rest)
    go false i rest = rw i rest

  entry_turned : (place clock : List ℕ) (o : Option LeafEntry) → ((k : CopyAt) → k.place ≡ place → CopyTurned k k) → CopiesTurned (entry_copies place clock o) (entry_copies place clock o)
  entry_turned place clock None h = tt
  entry_turned place clock (Some e) h = go (is_held (entry_hold (Some e.state))) refl where
    go : (t : Bool) → is_held (entry_hold (Some e.state)) ≡ t → CopiesTurned (entry_copies place clock (Some e)) (entry_copies place clock (Some e))
    go true i = rw i (h _ refl, tt)
    go false i = rw i tt

  own_turned : (place clock : List ℕ) (v w : LeafValue) → place ≡ at → EntryTurned items effect x v w → CopiesTurned (entry_copies place clock (leaf_entry x v)) (entry_copies place clock (leaf_entry x w))
  own_turned place clock v w i (inl h) = subst (λ ks. CopiesTurned (entry_copies place clock (leaf_entry x v)) ks) (sym (h.1.copies place clock)) (entry_turned place clock (leaf_entry x v) (λ k e. record { place = refl; clock = refl; end = refl; apart = inr (e ∙ i); words = inl (refl, λ j. h.0) }))
  own_turned place clock v w i (inr h) = rw (h.before, h.after, h.exclusive) (record { place = refl; clock = refl; end = refl; apart = inr i; words = inr (i, h.changes, refl) }, tt)

  module _ (Takes : AtLeaf) (takes : (c : Spot) (v w : LeafValue) → Takes c v w → EntryTurned items effect x v w × (w.replies ≡ v.replies)) where
    replies_same : (c : Spot) (n m : Node) → NodeTurned at Takes c n m → child_replies m ≡ child_replies n
    replies_same c (leaf_node v) (leaf_node w) (inl h) = ap (λ (u : LeafValue). u.replies) h.0
    replies_same c (leaf_node v) (leaf_node w) (inr h) = (takes c v w h.1).1
    replies_same c (leaf_node v) (dir_node e ms) h = absurd h
    replies_same c (dir_node d ns) (leaf_node w) h = absurd h
    replies_same c (dir_node d ns) (dir_node e ms) h = ap (λ (u : DirValue). u.replies) h.0

    leaf_turned : (c : Spot) (v w : LeafValue) → NodeTurned at Takes c (leaf_node v) (leaf_node w) → CopiesTurned (inner x c (leaf_node v)) (inner x c (leaf_node w))
    leaf_turned c v w (inl h) = subst (λ (u : LeafValue). CopiesTurned (inner x c (leaf_node v)) (inner x c (leaf_node u))) (sym h.0) (entry_turned (spot_path c) (spot_moment c) (leaf_entry x v) (λ k e. other_copy k (ap (is_under at) e ∙ h.1)))
    leaf_turned c v w (inr h) = own_turned (spot_path c) (spot_moment c) v w h.0 (takes c v w h.1).0

    dir_turned : (c : Spot) (d e : DirValue) (ns ms : Nodes) → e ≡ d → is_under at (spot_path c) ≡ false → CopiesTurned (handed x (spot_path c) (moment_at c.above d.epoch) d 0 ns) (handed x (spot_path c) (moment_at c.above d.epoch) d 0 ms) → CopiesTurned (inner x c (dir_node d ns)) (inner x c (dir_node e ms))
    dir_turned c d e ns ms same off h = subst (λ (u : DirValue). CopiesTurned (inner x c (dir_node d ns)) (inner x c (dir_node u ms))) (sym same) (pairs-append CopyTurned _ _ _ _ (pairs-map CopyTurned (cut (first_erase c.above (queue_of x d.down))) (cut_turned (first_erase c.above (queue_of x d.down))) _ _ (pairs-append CopyTurned (handed x (spot_path c) (moment_at c.above d.epoch) d 0 ns) (handed x (spot_path c) (moment_at c.above d.epoch) d 0 ms) _ _ h (here_turned (spot_path c) (moment_at c.above d.epoch) (words_of_item x d.parked) off))) (downs_turned (spot_path c) c.above (queue_of x d.down) off))

    hand_turned : (bound : List ℕ) (c : Spot) (n m : Node) → is_under at c.above ≡ false → NodeTurned at Takes c n m → CopiesTurned (inner x c n) (inner x c m) → CopiesTurned (inner x c n ++ copies_here c.above bound (words_of_item x (child_replies n))) (inner x c m ++ copies_here c.above bound (words_of_item x (child_replies m)))
    hand_turned bound c n m off t h = pairs-append CopyTurned (inner x c n) (inner x c m) _ _ h (subst (λ q. CopiesTurned (copies_here c.above bound (words_of_item x (child_replies n))) (copies_here c.above bound (words_of_item x q))) (sym (replies_same c n m t)) (here_turned c.above bound (words_of_item x (child_replies n)) off))

    mutual
      pub inner_turned : (c : Spot) (n m : Node) → NodeTurned at Takes c n m → CopiesTurned (inner x c n) (inner x c m)
      inner_turned c (leaf_node v) (leaf_node w) h = leaf_turned c v w h
      inner_turned c (leaf_node v) (dir_node e ms) h = absurd h
      inner_turned c (dir_node d ns) (leaf_node w) h = absurd h
      inner_turned c (dir_node d ns) (dir_node e ms) h = dir_turned c d e ns ms h.0 h.1 (handed_turned (spot_path c) (moment_at c.above d.epoch) d 0 ns ms h.1 h.2)

      pub handed_turned : (path bound : List ℕ) (d : DirValue) (i : ℕ) (ns ms : Nodes) → is_under at path ≡ false → AmongTurned at Takes path d i ns ms → CopiesTurned (handed x path bound d i ns) (handed x path bound d i ms)
      handed_turned path bound d i no_nodes no_nodes off h = tt
      handed_turned path bound d i no_nodes (more_nodes m ms) off h = absurd h
      handed_turned path bound d i (more_nodes n ns) no_nodes off h = absurd h
      handed_turned path bound d i (more_nodes n ns) (more_nodes m ms) off h = pairs-append CopyTurned (inner x (spot_in path d i) n ++ copies_here path bound (words_of_item x (child_replies n))) (inner x (spot_in path d i) m ++ copies_here path bound (words_of_item x (child_replies m))) _ _ (hand_turned bound (spot_in path d i) n m off h.0 (inner_turned (spot_in path d i) n m h.0)) (handed_turned path bound d (i + 1) ns ms off h.1)
