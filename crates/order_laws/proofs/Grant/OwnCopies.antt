-- In a bus's turn each copy of an item at the place of a leaf that held it comes from the leaf's own entry.
-- Letters: a is a leaf before, b the same one after, k a copy, x the item.
use Rattle.std.proofs.Common.{◌≡◌, ℕ, suc, ◌+◌, ◌<◌, Bool, true, false, true≢false, List, [], ◌∷◌, ◌++◌, map, length, take, drop, Option, Some, None, refl, sym, ap, subst, ◌∙◌, ◌⊎◌, inl, inr, arith, append_assoc}
use Rattle.std.specs.List.{AllByRecursion}
use Rattle.std.proofs.lemmas.List.{length-append, append-nil, take_all, take-append-drop}
use Rattle.order_laws.specs.DdmTypes.declared.turns.Turn.{Turn}
use Rattle.order_laws.specs.TreeModel.State.Kinds.{brings_copy}
use Rattle.order_laws.specs.TreeModel.State.States.{entry_hold, is_held}
use Rattle.order_laws.specs.TreeModel.State.Values.{DownValue, DirValue, Node, Nodes, leaf_node, dir_node, no_nodes, more_nodes, children, MachineValue, root_of}
use Rattle.order_laws.specs.TreeModel.State.Leaf.{words_of_item, LeafEntry, leaf_entry, leaf_hold}
use Rattle.order_laws.specs.TreeModel.State.Directory.{queue_of}
use Rattle.order_laws.specs.TreeModel.State.Child.{child_replies}
use Rattle.order_laws.specs.TreeModel.State.Place.{Spot, spot_path, spot_in}
use Rattle.order_laws.specs.TreeModel.State.Shape.{IsShaped}
use Rattle.order_laws.specs.TreeModel.Turns.Children.{child_at}
use Rattle.order_laws.specs.TreeRules.Bus.Rules.{IsMachineOk}
use Rattle.order_laws.specs.TreeRules.Order.Copies.{CopyAt, cut, first_erase, downs, copies_here, entry_copies, gathered, inner, handed, copies_of}
use Rattle.order_laws.specs.TreeRules.Order.Moments.{is_under, moment_at, spot_moment}
use Rattle.order_laws.specs.TreeRules.Order.Places.{LeafAt, leaf_path, leaves_at, leaves_in, placed_leaves}
use Rattle.order_laws.specs.TreeRules.Order.Rules.{IsTimed}
use Rattle.order_lists.proofs.Filters.{each-weaker, each-both, each-append}
use Rattle.order_lists.proofs.Paths.{IsFrom, from_child, from_later, under-itself, under-append, under-trans, under-shorter, under-length, under-same, leaves_under, placed_from}
use Rattle.order_lists.proofs.Placed.{inner_under}
use Rattle.order_laws.specs.Grant.{after_bus}
use Rattle.order_laws.specs.Moves.Carries.{node_at, old_moment, new_moment, HoldsAfter, IsLeafFree, MovedBy}
use Rattle.order_laws.specs.Moves.CopiesMoved.{IsBusTurn, TurnMoves, MovesOf}
use Rattle.order_laws.specs.Moves.LeavesKept.{LeafKept}
use Rattle.order_laws.specs.Moves.Moved.{In, From, Kept, Told}
use Rattle.order_laws.specs.Pairs.{Pairs}
use Rattle.order_laws.proofs.Moves.Below.{AreCommandsPast}
use Rattle.order_laws.proofs.Moves.CopiesMoved.{turn-moves, copies-same, reservations-kept}
use Rattle.order_laws.proofs.Moves.Sources.{each-in, each-map}
use Rattle.order_laws.proofs.Grant.Reserved.{ended-moved}
use Rattle.order_laws.proofs.Grant.ReservedKept.{each-member, FromOwn, OwnCopyStays, OwnCopiesStay}

-- ---- the copies at a leaf's place

-- a copy at the leaf's place, or below it, is that of its entry, with the present moment of its bus
abbrev pub IsOfEntry : LeafAt → CopyAt → Type 0
IsOfEntry a k = is_under (leaf_path a) k.place ≡ true → (k.place ≡ leaf_path a) × (k.clock ≡ spot_moment a.spot)

entry_of : (a : LeafAt) (o : Option LeafEntry) → AllByRecursion (IsOfEntry a) (entry_copies (leaf_path a) (spot_moment a.spot) o)
entry_of a None = tt
entry_of a (Some e) = go (is_held (entry_hold (Some e.state))) refl where
  go : (t : Bool) → is_held (entry_hold (Some e.state)) ≡ t → AllByRecursion (IsOfEntry a) (entry_copies (leaf_path a) (spot_moment a.spot) (Some e))
  go true i = rw i ((λ u. (refl, refl)), tt)
  go false i = rw i tt

-- what stands at a directory's place isn't below a leaf of it
abbrev AllAt : List ℕ → List CopyAt → Type 0
AllAt path ks = AllByRecursion (λ k. k.place ≡ path) ks

here_at : (path clock : List ℕ) (ws : List (List ℕ)) → AllAt path (copies_here path clock ws)
here_at path clock [] = tt
here_at path clock (w ∷ ws) = (refl, here_at path clock ws)

downs_at : (path above : List ℕ) (q : List DownValue) → AllAt path (downs path above q)
downs_at path above [] = tt
downs_at path above (e ∷ es) = go (brings_copy e.kind) refl (downs_at path above es) where
  go : (t : Bool) → brings_copy e.kind ≡ t → AllAt path (downs path above es) → AllAt path (downs path above (e ∷ es))
  go true i rest = rw i (refl, rest)
  go false i rest = rw i rest

not_above : (path : List ℕ) (a : LeafAt) → length path < length (leaf_path a) → (k : CopyAt) → k.place ≡ path → IsOfEntry a k
not_above path a longer k e u =
    let most = under-length (leaf_path a) path (ap (is_under (leaf_path a)) (sym e) ∙ u) in
    absurd (omega (arith, longer, most))

all_above : (path : List ℕ) (i : ℕ) (a : LeafAt) → IsFrom path i (leaf_path a) → (ks : List CopyAt) → AllAt path ks → AllByRecursion (IsOfEntry a) ks
all_above path i a from ks at = each-weaker (λ k. k.place ≡ path) (IsOfEntry a) (not_above path a from.longer) ks at

-- what the children from number i on hand up stands at the directory's place, or below one of them
abbrev IsHandedFrom : List ℕ → ℕ → CopyAt → Type 0
IsHandedFrom path i k = (k.place ≡ path) ⊎ IsFrom path i k.place

handed_places : (x : ℕ) (path bound : List ℕ) (d : DirValue) (i : ℕ) (ns : Nodes) → AllByRecursion (IsHandedFrom path i) (handed x path bound d i ns)
handed_places x path bound d i no_nodes = tt
handed_places x path bound d i (more_nodes n ns) =
    each-append (IsHandedFrom path i) (inner x (spot_in path d i) n ++ copies_here path bound (words_of_item x (child_replies n))) (handed x path bound d (i + 1) ns)
    (each-append (IsHandedFrom path i) (inner x (spot_in path d i) n) (copies_here path bound (words_of_item x (child_replies n))) (each-weaker _ (IsHandedFrom path i) (λ k u. inr (from_child path i k.place u)) _ (inner_under x (spot_in path d i) n)) (each-weaker _ (IsHandedFrom path i) (λ k e. inl e) _ (here_at path bound (words_of_item x (child_replies n)))))
    (each-weaker (IsHandedFrom path (i + 1)) (IsHandedFrom path i) later _ (handed_places x path bound d (i + 1) ns)) where
      later : (k : CopyAt) → IsHandedFrom path (i + 1) k → IsHandedFrom path i k
      later k (inl e) = inl e
      later k (inr f) = inr (from_later path i k.place f)

-- no copy below a child is below a leaf of a later one, nor the other way round
of_later : (path : List ℕ) (i : ℕ) (a : LeafAt) → IsFrom path (i + 1) (leaf_path a) → (k : CopyAt) → is_under (path ++ i ∷ []) k.place ≡ true → IsOfEntry a k
of_later path i a from k below u =
    let size : length (path ++ i ∷ []) ≡ length path + 1 = length-append path (i ∷ []) in
    absurd (true≢false (sym (under-shorter (path ++ i ∷ []) (leaf_path a) k.place below u (omega (arith, size, from.longer))) ∙ from.later i (omega arith)))

of_earlier : (path : List ℕ) (i : ℕ) (a : LeafAt) → is_under (path ++ i ∷ []) (leaf_path a) ≡ true → (k : CopyAt) → IsHandedFrom path (i + 1) k → IsOfEntry a k
of_earlier path i a below k (inl e) = not_above path a (from_child path i (leaf_path a) below).longer k e
of_earlier path i a below k (inr f) = λ u. absurd (true≢false (sym (under-trans (path ++ i ∷ []) (leaf_path a) k.place below u) ∙ f.later i (omega arith)))

mutual
  entries_in : (x : ℕ) (c : Spot) (n : Node) → AllByRecursion (λ a. AllByRecursion (IsOfEntry a) (inner x c n)) (leaves_in c n)
  entries_in x c (leaf_node v) = (entry_of (record { spot = c; leaf = v }) (leaf_entry x v), tt)
  entries_in x c (dir_node d ns) =
      let path : List ℕ = spot_path c in
      let bound : List ℕ = moment_at c.above d.epoch in
      let parked : List CopyAt = copies_here path bound (words_of_item x d.parked) in
      let erased : Option (List ℕ) = first_erase c.above (queue_of x d.down) in
      each-both (λ a. IsFrom path 0 (leaf_path a)) (λ a. AllByRecursion (IsOfEntry a) (handed x path bound d 0 ns)) (λ a. AllByRecursion (IsOfEntry a) (inner x c (dir_node d ns)))
      (λ a from own.
      each-append (IsOfEntry a) (map (cut erased) (gathered x path bound d ns)) (downs path c.above (queue_of x d.down))
      (each-map (cut erased) (IsOfEntry a) (IsOfEntry a) (λ k h. h) (gathered x path bound d ns) (each-append (IsOfEntry a) (handed x path bound d 0 ns) parked own (all_above path 0 a from parked (here_at path bound (words_of_item x d.parked)))))
      (all_above path 0 a from (downs path c.above (queue_of x d.down)) (downs_at path c.above (queue_of x d.down)))) (placed_leaves path d 0 ns) (placed_from path d 0 ns) (entries_among x path bound d 0 ns)

  entries_among : (x : ℕ) (path bound : List ℕ) (d : DirValue) (i : ℕ) (ns : Nodes) → AllByRecursion (λ a. AllByRecursion (IsOfEntry a) (handed x path bound d i ns)) (placed_leaves path d i ns)
  entries_among x path bound d i no_nodes = tt
  entries_among x path bound d i (more_nodes n ns) =
      let first : List CopyAt = inner x (spot_in path d i) n in
      let replies : List CopyAt = copies_here path bound (words_of_item x (child_replies n)) in
      let later : List CopyAt = handed x path bound d (i + 1) ns in
      each-append (λ a. AllByRecursion (IsOfEntry a) ((first ++ replies) ++ later)) (leaves_in (spot_in path d i) n) (placed_leaves path d (i + 1) ns)
      (each-both (λ a. AllByRecursion (IsOfEntry a) first) (λ a. is_under (path ++ i ∷ []) (leaf_path a) ≡ true) (λ a. AllByRecursion (IsOfEntry a) ((first ++ replies) ++ later))
      (λ a own below. each-append (IsOfEntry a) (first ++ replies) later (each-append (IsOfEntry a) first replies own (all_above path i a (from_child path i (leaf_path a) below) replies (here_at path bound (words_of_item x (child_replies n))))) (each-weaker (IsHandedFrom path (i + 1)) (IsOfEntry a) (of_earlier path i a below) later (handed_places x path bound d (i + 1) ns)))
      (leaves_in (spot_in path d i) n) (entries_in x (spot_in path d i) n) (leaves_under (spot_in path d i) n))
      (each-both (λ a. AllByRecursion (IsOfEntry a) later) (λ a. IsFrom path (i + 1) (leaf_path a)) (λ a. AllByRecursion (IsOfEntry a) ((first ++ replies) ++ later))
      (λ a own from. each-append (IsOfEntry a) (first ++ replies) later (each-append (IsOfEntry a) first replies (each-weaker (λ k. is_under (path ++ i ∷ []) k.place ≡ true) (IsOfEntry a) (of_later path i a from) first (inner_under x (spot_in path d i) n)) (all_above path (i + 1) a from replies (here_at path bound (words_of_item x (child_replies n))))) own)
      (placed_leaves path d (i + 1) ns) (entries_among x path bound d (i + 1) ns) (placed_from path d (i + 1) ns))

-- of each leaf of a machine
pub entries_of : (x : ℕ) (m : MachineValue) → AllByRecursion (λ a. AllByRecursion (IsOfEntry a) (copies_of x m)) (leaves_at m)
unfolding leaves_at copies_of
entries_of x m =
    let parked : List CopyAt = copies_here [] [] (words_of_item x m.top.parked) in
    each-both (λ a. IsFrom [] 0 (leaf_path a)) (λ a. AllByRecursion (IsOfEntry a) (handed x [] [] m.top 0 m.kids)) (λ a. AllByRecursion (IsOfEntry a) (handed x [] [] m.top 0 m.kids ++ parked)) (λ a from own. each-append (IsOfEntry a) (handed x [] [] m.top 0 m.kids) parked own (all_above [] 0 a from parked (here_at [] [] (words_of_item x m.top.parked)))) (placed_leaves [] m.top 0 m.kids) (placed_from [] m.top 0 m.kids) (entries_among x [] [] m.top 0 m.kids)

-- ---- a leaf by its path

-- at a path below the node with this path, or below one of its children from number i on
record FoundIn (path : List ℕ) (n : Node) (a : LeafAt) : Type 0 where
  rest : List ℕ
  at : leaf_path a ≡ path ++ rest
  is : node_at rest n ≡ leaf_node a.leaf

record FoundAmong (path : List ℕ) (i : ℕ) (ns : Nodes) (a : LeafAt) : Type 0 where
  number : ℕ
  offset : ℕ
  behind : number ≡ i + offset
  rest : List ℕ
  at : leaf_path a ≡ path ++ number ∷ rest
  is : node_at rest (child_at offset (children ns)) ≡ leaf_node a.leaf

mutual
  found_in : (c : Spot) (n : Node) → AllByRecursion (FoundIn (spot_path c) n) (leaves_in c n)
  found_in c (leaf_node v) = (record { rest = []; at = sym (append-nil (spot_path c)); is = refl }, tt)
  found_in c (dir_node d ns) = each-weaker (FoundAmong (spot_path c) 0 ns) (FoundIn (spot_path c) (dir_node d ns)) (λ a f. let behind : f.number ≡ 0 + f.offset = f.behind in let same : f.number ≡ f.offset = omega (arith, behind) in record { rest = f.number ∷ f.rest; at = f.at; is = ap (λ j. node_at f.rest (child_at j (children ns))) same ∙ f.is }) (placed_leaves (spot_path c) d 0 ns) (found_among (spot_path c) d 0 ns)

  found_among : (path : List ℕ) (d : DirValue) (i : ℕ) (ns : Nodes) → AllByRecursion (FoundAmong path i ns) (placed_leaves path d i ns)
  found_among path d i no_nodes = tt
  found_among path d i (more_nodes n ns) =
      each-append (FoundAmong path i (more_nodes n ns)) (leaves_in (spot_in path d i) n) (placed_leaves path d (i + 1) ns)
      (each-weaker (FoundIn (path ++ i ∷ []) n) (FoundAmong path i (more_nodes n ns)) (λ a f. record { number = i; offset = 0; behind = omega arith; rest = f.rest; at = f.at ∙ append_assoc path (i ∷ []) f.rest; is = f.is }) (leaves_in (spot_in path d i) n) (found_in (spot_in path d i) n))
      (each-weaker (FoundAmong path (i + 1) ns) (FoundAmong path i (more_nodes n ns)) (λ a f. let behind : f.number ≡ i + 1 + f.offset = f.behind in record { number = f.number; offset = suc f.offset; behind = omega (arith, behind); rest = f.rest; at = f.at; is = f.is }) (placed_leaves path d (i + 1) ns) (found_among path d (i + 1) ns))

abbrev pub IsFoundIn : MachineValue → LeafAt → Type 0
IsFoundIn m a = node_at (leaf_path a) (root_of m) ≡ leaf_node a.leaf

pub all_found : (m : MachineValue) → AllByRecursion (IsFoundIn m) (leaves_at m)
unfolding leaves_at
all_found m = each-weaker (FoundAmong [] 0 m.kids) (IsFoundIn m) (λ a f. let behind : f.number ≡ 0 + f.offset = f.behind in let same : f.number ≡ f.offset = omega (arith, behind) in ap (λ p. node_at p (root_of m)) f.at ∙ (ap (λ j. node_at f.rest (child_at j (children m.kids))) same ∙ f.is)) (placed_leaves [] m.top 0 m.kids) (found_among [] m.top 0 m.kids)

-- the node behind that of a directory
child_there : (p : List ℕ) (i : ℕ) (n : Node) (d : DirValue) (ns : Nodes) → node_at p n ≡ dir_node d ns → node_at (p ++ i ∷ []) n ≡ child_at i (children ns)
child_there [] i n d ns e = ap (node_at (i ∷ [])) e
child_there (j ∷ p) i (leaf_node v) d ns e = absurd (let wrong : ⊥ = cc in wrong)
child_there (j ∷ p) i (dir_node q ms) d ns e = child_there p i (child_at j (children ms)) d ns e

-- ---- one leaf

each-index : {X : Type 0} (P : ℕ → X → Type 0) (xs : List X) → ((i : ℕ) → AllByRecursion (P i) xs) → AllByRecursion (λ x. (i : ℕ) → P i x) xs
each-index P [] h = tt
each-index P (x ∷ xs) h = ((λ i. (h i).0), each-index P xs (λ i. (h i).1))

module _ (x : ℕ) (m : MachineValue) (a b : LeafAt) (kept : LeafKept a b) (own : AllByRecursion (IsOfEntry a) (copies_of x m)) where
  same_path : leaf_path b ≡ leaf_path a
  same_path = ap (λ p. p ++ b.spot.number ∷ []) kept.above ∙ ap (λ n. a.spot.above ++ n ∷ []) kept.number

  -- nothing was granted
  still_own : (k : CopyAt) → IsOfEntry a k × In k (copies_of x m) → k.place ≡ leaf_path b → FromOwn x m a k
  still_own k known at =
      let place : k.place ≡ leaf_path a = at ∙ same_path in
      record { source = k; there = known.1; place = place; clock = (known.0 (ap (is_under (leaf_path a)) place ∙ under-itself (leaf_path a))).1; ended = λ key h. h }

  module _ (m' : MachineValue) (t : TurnMoves x m m') (found : IsFoundIn m a) (held : is_held (leaf_hold x a.leaf) ≡ true) where
    -- the leaf isn't told the item
    not_told : (k' : CopyAt) → k'.place ≡ leaf_path a → Told t.bus.path (old_moment t.bus) (new_moment t.bus) (HoldsAfter x t.bus) (length a.spot.above) k' → ⊥
    not_told k' place told =
        let size : length (t.bus.path ++ told.child ∷ []) ≡ length t.bus.path + 1 = length-append t.bus.path (told.child ∷ []) in
        let own_size : length (leaf_path a) ≡ length a.spot.above + 1 = length-append a.spot.above (a.spot.number ∷ []) in
        let path : t.bus.path ++ told.child ∷ [] ≡ leaf_path a = under-same (t.bus.path ++ told.child ∷ []) (leaf_path a) (ap (is_under (t.bus.path ++ told.child ∷ [])) (sym place) ∙ told.under) (omega (arith, size, own_size, told.level)) in
        let child : child_at told.child (children t.bus.kids) ≡ leaf_node a.leaf = sym (child_there t.bus.path told.child (root_of m) t.bus.dir t.bus.kids t.before) ∙ (ap (λ p. node_at p (root_of m)) path ∙ found) in
        let free : is_held (leaf_hold x a.leaf) ≡ false = subst (IsLeafFree x) child told.holds.1 in
        true≢false (sym held ∙ free)

    from_own : (k' : CopyAt) → From (MovedBy x t.bus) (copies_of x m) k' → k'.place ≡ leaf_path b → FromOwn x m a k'
    from_own k' from at = go (from.related.clock (length a.spot.above) (omega (arith, ap length place, own_size))) where
      place : k'.place ≡ leaf_path a
      place = at ∙ same_path

      own_size : length (leaf_path a) ≡ length a.spot.above + 1
      own_size = length-append a.spot.above (a.spot.number ∷ [])

      go : Kept (length a.spot.above) from.source k' ⊎ Told t.bus.path (old_moment t.bus) (new_moment t.bus) (HoldsAfter x t.bus) (length a.spot.above) k' → FromOwn x m a k'
      go (inr told) = absurd (not_told k' place told)
      go (inl c) =
          let k : CopyAt = from.source in
          let n : ℕ = length a.spot.above + 1 in
          let begins : take n k.place ≡ leaf_path a = sym c.same ∙ (ap (take n) place ∙ take_all n (leaf_path a) (omega (arith, own_size))) in
          let under : is_under (leaf_path a) k.place ≡ true = subst (λ p. is_under (leaf_path a) p ≡ true) (take-append-drop n k.place) (subst (λ p. is_under (leaf_path a) (p ++ drop n k.place) ≡ true) (sym begins) (under-append (leaf_path a) (drop n k.place))) in
          let entry : (k.place ≡ leaf_path a) × (k.clock ≡ spot_moment a.spot) = each-in (IsOfEntry a) k (copies_of x m) own from.there under in
          record { source = k; there = from.there; place = entry.0; clock = entry.1; ended = λ key h. ended-moved t.bus.path (old_moment t.bus) (new_moment t.bus) (HoldsAfter x t.bus) key k k' from.related h }

-- ---- all leaves

module _ (m : MachineValue) (t : Turn) (shaped : IsShaped m) (ok : IsMachineOk m) (timed : IsTimed m) (past : AreCommandsPast m) (bus : IsBusTurn t) where
  -- what is known of a leaf before
  record IsLeafKnown (a : LeafAt) : Type 0 where
    found : IsFoundIn m a
    own : (x : ℕ) → AllByRecursion (IsOfEntry a) (copies_of x m)

  leaves-known : AllByRecursion IsLeafKnown (leaves_at m)
  leaves-known = each-both (IsFoundIn m) (λ a. (x : ℕ) → AllByRecursion (IsOfEntry a) (copies_of x m)) IsLeafKnown (λ a f o. record { found = f; own = o }) (leaves_at m) (all_found m) (each-index (λ x a. AllByRecursion (IsOfEntry a) (copies_of x m)) (leaves_at m) (λ x. entries_of x m))

  stays : (a b : LeafAt) → LeafKept a b → IsLeafKnown a → OwnCopyStays m t a b
  stays a b kept known x low held = go (turn-moves m shaped ok timed past t bus x) where
    go : MovesOf t m x → AllByRecursion (λ k. k.place ≡ leaf_path b → FromOwn x m a k) (copies_of x (after_bus t m))
    go (inl same) = subst (AllByRecursion (λ k. k.place ≡ leaf_path b → FromOwn x m a k)) (sym (copies-same x m (after_bus t m) same)) (each-both (IsOfEntry a) (λ k. In k (copies_of x m)) _ (λ k o there. still_own x m a b kept (known.own x) k (o, there)) (copies_of x m) (known.own x) (each-member (copies_of x m)))
    go (inr c) = each-weaker (From (MovedBy x c.bus) (copies_of x m)) _ (from_own x m a b kept (known.own x) (after_bus t m) c known.found held) (copies_of x (after_bus t m)) c.copies

  all-stay : (xs ys : List LeafAt) → Pairs LeafKept xs ys → AllByRecursion IsLeafKnown xs → Pairs (OwnCopyStays m t) xs ys
  all-stay [] [] k f = tt
  all-stay [] (b ∷ ys) k f = absurd k
  all-stay (a ∷ xs) [] k f = absurd k
  all-stay (a ∷ xs) (b ∷ ys) k f = (stays a b k.0 f.0, all-stay xs ys k.1 f.1)

  -- each copy at the place of a leaf that held the item comes from its own entry
  pub own-copies-stay : OwnCopiesStay m t
  own-copies-stay = all-stay (leaves_at m) (leaves_at (after_bus t m)) (reservations-kept m shaped ok timed past t bus) leaves-known
