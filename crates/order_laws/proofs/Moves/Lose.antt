-- A child that is told to lose the item: what it hands up before and after, where an erase of the bus above may be taken.
use Rattle.std.proofs.Common.{◌≡◌, ℕ, ◌+◌, ◌<◌, Bool, true, false, List, [], ◌∷◌, ◌++◌, map, length, take, Option, Some, None, is_some, IfSome, refl, sym, ap, subst, ◌∙◌, ◌⊎◌, inl, inr}
use Rattle.std.specs.List.{AllByRecursion}
use Rattle.std.proofs.lemmas.List.{map-append}
use Rattle.order_laws.specs.DdmTypes.declared.answers.TxKind.TheVariants.{EraseTx}
use Rattle.order_laws.specs.DdmTypes.declared.keys.Stamp.{Stamp}
use Rattle.order_laws.specs.TreeModel.State.Lists.{first_some}
use Rattle.order_laws.specs.TreeModel.State.States.{is_held}
use Rattle.order_laws.specs.TreeModel.State.Values.{DownValue, DirValue, Node, Nodes, leaf_node, dir_node}
use Rattle.order_laws.specs.TreeModel.State.Leaf.{blank, leaf_entry, words_of_item, leaf_lose}
use Rattle.order_laws.specs.TreeModel.State.Directory.{dir_hold, dir_lose, queue_of}
use Rattle.order_laws.specs.TreeModel.State.Child.{child_lose, child_replies}
use Rattle.order_laws.specs.TreeModel.State.Place.{Spot, spot_path}
use Rattle.order_laws.specs.TreeRules.Order.Moments.{less, is_under, moment_at, moment_length, GoesOn}
use Rattle.order_laws.specs.TreeRules.Order.Copies.{CopyAt, cut, copies_here, inner}
use Rattle.order_lists.proofs.Moments.{less-irreflexive}
use Rattle.order_laws.specs.Moves.Moved.{Kept, Told, Ended, Moved, AllFrom}
use Rattle.order_laws.proofs.Moves.Sources.{AllFrom-append, AllFrom-images}
use Rattle.order_laws.proofs.Moves.Cuts.{cuts-twice}
use Rattle.order_laws.proofs.Moves.Queues.{NoErase, pushed_erase}
use Rattle.order_laws.proofs.Moves.Leaves.{entry_copies-are, lost-words}
use Rattle.order_laws.proofs.Moves.Inside.{queue-pushed, inner-inside, inside, below, bound}
use Rattle.order_laws.proofs.Moves.Child.{hand, replies_at}

abbrev pub HasEnd : CopyAt → Type 0
HasEnd k = is_some k.end ≡ true

-- the copies inside a directory that was told to lose the item: each without an end gets the new moment
lose-inner : (x : ℕ) (c : Spot) (s : Stamp) (d : DirValue) (ns : Nodes) → is_held (dir_hold x d) ≡ true → NoErase (queue_of x d.down) → inner x c (dir_node (dir_lose x s d) ns) ≡ map (cut (Some (moment_at c.above s))) (inner x c (dir_node d ns))
unfolding dir_lose
lose-inner x c s d ns held none =
    let e : DownValue = record { kind = EraseTx; item = x; words = blank d.sizes.width; stamp = s } in
    let down : queue_of x (dir_lose x s d).down ≡ queue_of x d.down ++ e ∷ [] = rw held (queue-pushed x d.down e refl) in
    inner-inside x c d ns (dir_lose x s d) refl refl ∙ (ap (λ q. inside x c d ns q (words_of_item x d.parked)) down ∙ pushed_erase (spot_path c) c.above (queue_of x d.down) e (below x c d ns ++ copies_here (spot_path c) (bound x c d ns) (words_of_item x d.parked)) none refl)

free-inner : (x : ℕ) (c : Spot) (s : Stamp) (d : DirValue) (ns : Nodes) → is_held (dir_hold x d) ≡ false → inner x c (dir_node (dir_lose x s d) ns) ≡ inner x c (dir_node d ns)
unfolding dir_lose
free-inner x c s d ns free = inner-inside x c d ns (dir_lose x s d) refl refl ∙ rw free refl

-- `erased` is the moment of an erase of the bus above that was over all children, if there was one: the new moment goes on from it
module _ (x : ℕ) (path old : List ℕ) (s : Stamp) (erased : Option (List ℕ)) (Has : ℕ → Type 0) (on : IfSome erased (GoesOn (moment_at path s))) where
  abbrev Move : CopyAt → CopyAt → Type 0
  Move = Moved path old (moment_at path s) Has

  -- a copy inside a child
  pub record IsInside (k : CopyAt) : Type 0 where
    pub under : is_under path k.place ≡ true
    pub clock : GoesOn k.clock old

  pub record IsDirReady (c : Spot) (d : DirValue) (ns : Nodes) : Type 0 where
    pub inside : AllByRecursion IsInside (inner x c (dir_node d ns))
    pub held : is_held (dir_hold x d) ≡ true → NoErase (queue_of x d.down)
    pub free : is_held (dir_hold x d) ≡ false → AllByRecursion HasEnd (inner x c (dir_node d ns))

  -- what is known of a child before it is told, of a directory alone
  abbrev pub IsNodeReady : Spot → Node → Type 0
  IsNodeReady c (leaf_node v) = Unit {0}
  IsNodeReady c (dir_node d ns) = IsDirReady c d ns

  same-clock : (k k' : CopyAt) → k'.place ≡ k.place → k'.clock ≡ k.clock → (j : ℕ) → j < length k'.place → Kept j k k' ⊎ Told path old (moment_at path s) Has j k'
  same-clock k k' place clock j l = inl (record { deep = subst (λ p. j < length p) place l; same = ap (take (j + 1)) place; clock = subst (λ t. less (take (moment_length j) t) (take (moment_length j) k.clock) ≡ false) (sym clock) (less-irreflexive (take (moment_length j) k.clock)) })

  -- a copy has the erase above as its end, if it has no other; then the new one
  ended-moved : (k : CopyAt) → IsInside k → Move (cut erased k) (cut (Some (moment_at path s)) k)
  ended-moved k h = record { words = refl; end = ends k.end refl; clock = same-clock (cut erased k) (cut (Some (moment_at path s)) k) refl refl } where
    ends : (e : Option (List ℕ)) → k.end ≡ e → (first_some k.end (Some (moment_at path s)) ≡ first_some k.end erased) ⊎ Ended path old (moment_at path s) Has (cut erased k) (cut (Some (moment_at path s)) k)
    ends None is = inr (record { is = rw is refl; from = h.under; to = h.under; clock = h.clock; later = rw is on })
    ends (Some e) is = inl (rw is refl)

  -- a copy with an end of its own
  kept-moved : (k : CopyAt) → HasEnd k → Move (cut erased k) (cut None k)
  kept-moved k h = record { words = refl; end = ends k.end refl; clock = same-clock (cut erased k) (cut None k) refl refl } where
    ends : (e : Option (List ℕ)) → k.end ≡ e → (first_some k.end None ≡ first_some k.end erased) ⊎ Ended path old (moment_at path s) Has (cut erased k) (cut None k)
    ends None is =
        let wrong : false ≡ true = rw is at h in
        cc
    ends (Some e) is = inl (rw is refl)

  dir-inner : (c c' : Spot) (d : DirValue) (ns : Nodes) → c.above ≡ path → inner x c' (dir_node d ns) ≡ inner x c (dir_node d ns) → IsDirReady c d ns → (h : Bool) → is_held (dir_hold x d) ≡ h → AllFrom Move (map (cut erased) (inner x c (dir_node d ns))) (map (cut None) (inner x c (dir_node (dir_lose x s d) ns)))
  dir-inner c c' d ns at same r true is =
      let moment : moment_at c.above s ≡ moment_at path s = ap (λ p. moment_at p s) at in
      let lost_is : map (cut None) (inner x c (dir_node (dir_lose x s d) ns)) ≡ map (cut (Some (moment_at path s))) (inner x c (dir_node d ns)) = ap (map (cut None)) (lose-inner x c s d ns is (r.held is)) ∙ cuts-twice (Some (moment_at c.above s)) None (inner x c (dir_node d ns)) ∙ ap (λ m. map (cut (Some m)) (inner x c (dir_node d ns))) moment in
      subst (λ l. AllFrom Move (map (cut erased) (inner x c (dir_node d ns))) l) (sym lost_is) (AllFrom-images Move IsInside (cut erased) (cut (Some (moment_at path s))) ended-moved (inner x c (dir_node d ns)) r.inside)
  dir-inner c c' d ns at same r false is = subst (λ l. AllFrom Move (map (cut erased) (inner x c (dir_node d ns))) (map (cut None) l)) (sym (free-inner x c s d ns is)) (AllFrom-images Move HasEnd (cut erased) (cut None) kept-moved (inner x c (dir_node d ns)) (r.free is))

  node-inner : (i : ℕ) (t : Stamp) (n : Node) → IsNodeReady (record { above = path; number = i; present = t }) n → AllFrom Move (map (cut erased) (inner x (record { above = path; number = i; present = t }) n)) (map (cut None) (inner x (record { above = path; number = i; present = s }) (child_lose x s n)))
  node-inner i t (leaf_node v) r = rw (entry_copies-are (path ++ i ∷ []) (moment_at path s) (leaf_entry x (leaf_lose x v)), lost-words x v) tt
  node-inner i t (dir_node d ns) r = dir-inner (record { above = path; number = i; present = t }) (record { above = path; number = i; present = s }) d ns refl refl r (is_held (dir_hold x d)) refl

  pub lose-hand : (bound bound' : List ℕ) (i : ℕ) (t : Stamp) (n : Node) → IsNodeReady (record { above = path; number = i; present = t }) n → words_of_item x (child_replies (child_lose x s n)) ≡ [] → AllFrom Move (map (cut erased) (hand x path bound t i n)) (map (cut None) (hand x path bound' s i (child_lose x s n)))
  lose-hand bound bound' i t n r none =
      let own = inner x (record { above = path; number = i; present = t }) n in
      let own' = inner x (record { above = path; number = i; present = s }) (child_lose x s n) in
      rw (none, map-append (cut erased) own (replies_at x path bound n), map-append (cut None) own' []) (AllFrom-append Move (map (cut erased) own) (map (cut None) own') (map (cut erased) (replies_at x path bound n)) [] (node-inner i t n r) tt)
