-- One child of a bus: what it hands up before and after a turn of the bus, as far as the copies of one item are concerned.
use Rattle.std.proofs.Common.{◌≡◌, ℕ, List, [], ◌∷◌, ◌++◌, map, Option, IfSome, refl, sym, subst, inl, inr}
use Rattle.std.proofs.lemmas.List.{map-append}
use Rattle.order_laws.specs.DdmTypes.declared.keys.Stamp.{Stamp}
use Rattle.order_laws.specs.TreeModel.State.Values.{LeafValue, Node, leaf_node, dir_node}
use Rattle.order_laws.specs.TreeModel.State.Child.{child_replies}
use Rattle.order_laws.specs.TreeModel.State.Leaf.{leaf_entry, words_of_item}
use Rattle.order_laws.specs.TreeModel.State.Place.{Spot, spot_path}
use Rattle.order_laws.specs.TreeRules.Order.Copies.{CopyAt, cut, copy_here, copies_here, inner}
use Rattle.order_laws.specs.TreeRules.Order.Moments.{moment_at, GoesOn}
use Rattle.order_lists.proofs.Filters.{each-append}
use Rattle.order_laws.specs.Moves.Moved.{In, Moved, From, AllFrom}
use Rattle.order_laws.proofs.Moves.Sources.{Sub, Sub-left, Sub-right, Sub-map, AllFrom-more, AllFrom-append, AllFrom-sub, AllFrom-map, In-left, In-right}
use Rattle.order_laws.proofs.Moves.Cuts.{Moved-same, Moved-cut}
use Rattle.order_laws.proofs.Moves.Leaves.{held_words, entry_copies-are}
use Rattle.order_laws.proofs.Moves.Rise.{IsNext, Rises, here-risen, to-parent, to-child, entry-rises}

abbrev pub replies_at : ℕ → List ℕ → List ℕ → Node → List CopyAt
replies_at x path bound n = copies_here path bound (words_of_item x (child_replies n))

-- what child i of the bus with this path, this present stamp and this bound hands up
abbrev pub hand : ℕ → List ℕ → List ℕ → Stamp → ℕ → Node → List CopyAt
hand x path bound s i n = inner x (record { above = path; number = i; present = s }) n ++ replies_at x path bound n

-- ---- how it may stand then

-- these words are among those, wherever they stand
abbrev pub FewerWords : List (List ℕ) → List (List ℕ) → Type 0
FewerWords ws us = (place clock : List ℕ) → Sub (copies_here place clock ws) (copies_here place clock us)

module _ (x : ℕ) where
  -- it has no copies but those that it had
  abbrev pub IsFewer : Node → Node → Type 0
  IsFewer (leaf_node v) (leaf_node w) = FewerWords (held_words (leaf_entry x w)) (held_words (leaf_entry x v)) × FewerWords (words_of_item x w.replies) (words_of_item x v.replies)
  IsFewer (dir_node d ns) (dir_node e ms) = ((c : Spot) → Sub (inner x c (dir_node e ms)) (inner x c (dir_node d ns))) × FewerWords (words_of_item x e.replies) (words_of_item x d.replies)
  IsFewer (leaf_node v) (dir_node e ms) = ⊥
  IsFewer (dir_node d ns) (leaf_node w) = ⊥

  -- it has these words besides, told at this stamp; a leaf had none
  abbrev pub IsGiven : List ℕ → Stamp → Node → Node → Type 0
  IsGiven words s (leaf_node v) (leaf_node w) = (held_words (leaf_entry x w) ≡ words ∷ []) × (words_of_item x w.replies ≡ words_of_item x v.replies)
  IsGiven words s (dir_node d ns) (dir_node e ms) = ((c : Spot) → inner x c (dir_node e ms) ≡ inner x c (dir_node d ns) ++ copy_here (spot_path c) (moment_at c.above s) words ∷ []) × (words_of_item x e.replies ≡ words_of_item x d.replies)
  IsGiven words s (leaf_node v) (dir_node e ms) = ⊥
  IsGiven words s (dir_node d ns) (leaf_node w) = ⊥

  -- a leaf has put its words to its replies, a directory was told to answer
  abbrev pub IsAsked : Node → Node → Type 0
  IsAsked (leaf_node v) (leaf_node w) = (held_words (leaf_entry x w) ≡ held_words (leaf_entry x v)) × (words_of_item x w.replies ≡ words_of_item x v.replies ++ held_words (leaf_entry x v))
  IsAsked (dir_node d ns) (dir_node e ms) = ((c : Spot) → Sub (inner x c (dir_node e ms)) (inner x c (dir_node d ns))) × FewerWords (words_of_item x e.replies) (words_of_item x d.replies)
  IsAsked (leaf_node v) (dir_node e ms) = ⊥
  IsAsked (dir_node d ns) (leaf_node w) = ⊥

pub words-same : (ws us : List (List ℕ)) → ws ≡ us → FewerWords ws us
words-same ws us e place clock k h = subst (λ l. In k (copies_here place clock l)) e h

-- ---- from what it handed up

module _ (x : ℕ) (path bound bound' : List ℕ) (s s' : Stamp) (Has : ℕ → Type 0) (next : IsNext path bound bound' (moment_at path s) (moment_at path s')) where
  abbrev pub Move : CopyAt → CopyAt → Type 0
  Move = Moved path (moment_at path s) (moment_at path s') Has

  same-move : (k : CopyAt) → Move k k
  same-move = Moved-same path (moment_at path s) (moment_at path s') Has

  words-from : (place a b : List ℕ) (us ws : List (List ℕ)) → (AllFrom Move (copies_here place a ws) (copies_here place b ws)) → FewerWords ws us → AllFrom Move (copies_here place a us) (copies_here place b ws)
  words-from place a b us ws rises fewer = AllFrom-more Move (copies_here place a ws) (copies_here place a us) (copies_here place b ws) (fewer place a) rises

  replies-from : (us ws : List (List ℕ)) → FewerWords ws us → AllFrom Move (copies_here path bound us) (copies_here path bound' ws)
  replies-from us ws = words-from path bound bound' us ws (here-risen path bound bound' (moment_at path s) (moment_at path s') Has path bound bound' next.bound_rises ws)

  abbrev entries : ℕ → Stamp → List (List ℕ) → List CopyAt
  entries i t ws = copies_here (path ++ i ∷ []) (moment_at path t) ws

  entries-from : (i : ℕ) (us ws : List (List ℕ)) → FewerWords ws us → AllFrom Move (entries i s us) (entries i s' ws)
  entries-from i us ws = words-from (path ++ i ∷ []) (moment_at path s) (moment_at path s') us ws (here-risen path bound bound' (moment_at path s) (moment_at path s') Has (path ++ i ∷ []) (moment_at path s) (moment_at path s') next.rises ws)

  leaf-hand : (i : ℕ) (v w : LeafValue) → AllFrom Move (entries i s (held_words (leaf_entry x v)) ++ replies_at x path bound (leaf_node v)) (entries i s' (held_words (leaf_entry x w)) ++ replies_at x path bound' (leaf_node w)) → AllFrom Move (hand x path bound s i (leaf_node v)) (hand x path bound' s' i (leaf_node w))
  leaf-hand i v w h = rw (entry_copies-are (path ++ i ∷ []) (moment_at path s) (leaf_entry x v), entry_copies-are (path ++ i ∷ []) (moment_at path s') (leaf_entry x w)) h

  pub fewer-hand : (i : ℕ) (n m : Node) → IsFewer x n m → AllFrom Move (hand x path bound s i n) (hand x path bound' s' i m)
  fewer-hand i (leaf_node v) (leaf_node w) h = leaf-hand i v w (AllFrom-append Move (entries i s (held_words (leaf_entry x v))) (entries i s' (held_words (leaf_entry x w))) (replies_at x path bound (leaf_node v)) (replies_at x path bound' (leaf_node w)) (entries-from i (held_words (leaf_entry x v)) (held_words (leaf_entry x w)) h.0) (replies-from (words_of_item x v.replies) (words_of_item x w.replies) h.1))
  fewer-hand i (leaf_node v) (dir_node e ms) h = absurd h
  fewer-hand i (dir_node d ns) (leaf_node w) h = absurd h
  fewer-hand i (dir_node d ns) (dir_node e ms) h =
      let c : Spot = record { above = path; number = i; present = s } in
      let c' : Spot = record { above = path; number = i; present = s' } in
      AllFrom-append Move (inner x c (dir_node d ns)) (inner x c' (dir_node e ms)) (replies_at x path bound (dir_node d ns)) (replies_at x path bound' (dir_node e ms)) (AllFrom-sub Move same-move (inner x c (dir_node d ns)) (inner x c' (dir_node e ms)) (h.0 c')) (replies-from (words_of_item x d.replies) (words_of_item x e.replies) h.1)

  -- ---- a leaf answers: its entry is also its reply

  entry-reply : (i : ℕ) (ws : List (List ℕ)) → AllFrom Move (entries i s ws) (copies_here path bound' ws)
  entry-reply i [] = tt
  entry-reply i (w ∷ ws) =
      (record { source = copy_here (path ++ i ∷ []) (moment_at path s) w; there = inl refl; related = to-parent path bound bound' (moment_at path s) (moment_at path s') Has bound' _ (entry-rises path bound bound' (moment_at path s) (moment_at path s') Has next i w) }, AllFrom-more Move (entries i s ws) (entries i s (w ∷ ws)) (copies_here path bound' ws) (λ k h. inr h) (entry-reply i ws))

  pub asked-hand : (i : ℕ) (n m : Node) → IsAsked x n m → AllFrom Move (hand x path bound s i n) (hand x path bound' s' i m)
  asked-hand i (leaf_node v) (leaf_node w) h =
      let old = held_words (leaf_entry x v) in
      let before = words_of_item x v.replies in
      let both : AllFrom Move (entries i s old ++ copies_here path bound before) (copies_here path bound' (before ++ old)) = subst (λ l. AllFrom Move (entries i s old ++ copies_here path bound before) l) (sym (map-append (copy_here path bound') before old)) (each-append (From Move (entries i s old ++ copies_here path bound before)) (copies_here path bound' before) (copies_here path bound' old) (AllFrom-more Move (copies_here path bound before) (entries i s old ++ copies_here path bound before) (copies_here path bound' before) (λ k j. In-right k (entries i s old) (copies_here path bound before) j) (replies-from before before (λ place clock k j. j))) (AllFrom-more Move (entries i s old) (entries i s old ++ copies_here path bound before) (copies_here path bound' old) (λ k j. In-left k (entries i s old) (copies_here path bound before) j) (entry-reply i old))) in
      let own : AllFrom Move (entries i s old ++ copies_here path bound before) (entries i s' (held_words (leaf_entry x w))) = AllFrom-more Move (entries i s old) (entries i s old ++ copies_here path bound before) (entries i s' (held_words (leaf_entry x w))) (λ k j. In-left k (entries i s old) (copies_here path bound before) j) (entries-from i old (held_words (leaf_entry x w)) (words-same (held_words (leaf_entry x w)) old h.0)) in
      leaf-hand i v w (each-append (From Move (entries i s old ++ copies_here path bound before)) (entries i s' (held_words (leaf_entry x w))) (replies_at x path bound' (leaf_node w)) own (subst (λ ws. AllFrom Move (entries i s old ++ copies_here path bound before) (copies_here path bound' ws)) (sym h.1) both))
  asked-hand i (leaf_node v) (dir_node e ms) h = absurd h
  asked-hand i (dir_node d ns) (leaf_node w) h = absurd h
  asked-hand i (dir_node d ns) (dir_node e ms) h = fewer-hand i (dir_node d ns) (dir_node e ms) h

  -- ---- under the parent's own erase, from all that the parent handed up

  module _ (erased : Option (List ℕ)) (later : IfSome erased (GoesOn (moment_at path s'))) (all : List CopyAt) where
    pub cut-from : (xs ys : List CopyAt) → AllFrom Move xs ys → Sub (map (cut erased) xs) all → AllFrom Move all (map (cut erased) ys)
    cut-from xs ys h sub = AllFrom-more Move (map (cut erased) xs) all (map (cut erased) ys) sub (AllFrom-map Move (cut erased) (Moved-cut path (moment_at path s) (moment_at path s') Has erased later) xs ys h)

    -- in two parts
    pub both-from : (xs ys : List CopyAt) → AllFrom Move all (map (cut erased) xs) → AllFrom Move all (map (cut erased) ys) → AllFrom Move all (map (cut erased) (xs ++ ys))
    both-from xs ys h k = subst (λ l. AllFrom Move all l) (sym (map-append (cut erased) xs ys)) (each-append (From Move all) (map (cut erased) xs) (map (cut erased) ys) h k)

    -- a copy that the parent handed up before, and that may be told
    module _ (k : CopyAt) (there : In (cut erased k) all) (rises : Rises path bound' k) where
      told-from : (i : ℕ) → Has i → From Move all (cut erased (copy_here (path ++ i ∷ []) (moment_at path s') k.words))
      told-from i has = record { source = cut erased k; there = there; related = Moved-cut path (moment_at path s) (moment_at path s') Has erased later k _ (to-child path bound bound' (moment_at path s) (moment_at path s') Has next i k has rises) }

      pub parked-from : From Move all (cut erased (copy_here path bound' k.words))
      parked-from = record { source = cut erased k; there = there; related = Moved-cut path (moment_at path s) (moment_at path s') Has erased later k _ (to-parent path bound bound' (moment_at path s) (moment_at path s') Has bound' k rises) }

      pub given-hand : (i : ℕ) (n m : Node) → Has i → IsGiven x k.words s' n m → Sub (map (cut erased) (hand x path bound s i n)) all → AllFrom Move all (map (cut erased) (hand x path bound' s' i m))
      given-hand i (leaf_node v) (leaf_node w) has h sub =
          let c : Spot = record { above = path; number = i; present = s } in
          let own = inner x c (leaf_node v) in
          let parts = Sub-map (cut erased) own (replies_at x path bound (leaf_node v)) all sub in
          let one : AllFrom Move all (map (cut erased) (entries i s' (held_words (leaf_entry x w)))) = subst (λ ws. AllFrom Move all (map (cut erased) (entries i s' ws))) (sym h.0) (told-from i has, tt) in
          let inside : AllFrom Move all (map (cut erased) (inner x (record { above = path; number = i; present = s' }) (leaf_node w))) = rw (entry_copies-are (path ++ i ∷ []) (moment_at path s') (leaf_entry x w)) one in
          both-from (inner x (record { above = path; number = i; present = s' }) (leaf_node w)) (replies_at x path bound' (leaf_node w)) inside (cut-from (replies_at x path bound (leaf_node v)) (replies_at x path bound' (leaf_node w)) (replies-from (words_of_item x v.replies) (words_of_item x w.replies) (words-same _ _ h.1)) (Sub-right (map (cut erased) own) (map (cut erased) (replies_at x path bound (leaf_node v))) all parts))
      given-hand i (leaf_node v) (dir_node e ms) has h sub = absurd h
      given-hand i (dir_node d ns) (leaf_node w) has h sub = absurd h
      given-hand i (dir_node d ns) (dir_node e ms) has h sub =
          let c : Spot = record { above = path; number = i; present = s } in
          let c' : Spot = record { above = path; number = i; present = s' } in
          let own = inner x c (dir_node d ns) in
          let replies = replies_at x path bound (dir_node d ns) in
          let parts = Sub-map (cut erased) own replies all sub in
          let one = copy_here (path ++ i ∷ []) (moment_at path s') k.words ∷ [] in
          let inside : AllFrom Move all (map (cut erased) own) = AllFrom-sub Move same-move all (map (cut erased) own) (Sub-left (map (cut erased) own) (map (cut erased) replies) all parts) in
          let more : AllFrom Move all (map (cut erased) (inner x c (dir_node d ns) ++ one)) = both-from own one inside (told-from i has, tt) in
          both-from (inner x c' (dir_node e ms)) (replies_at x path bound' (dir_node e ms)) (subst (λ l. AllFrom Move all (map (cut erased) l)) (sym (h.0 c')) more) (cut-from replies (replies_at x path bound' (dir_node e ms)) (replies-from (words_of_item x d.replies) (words_of_item x e.replies) (words-same _ _ h.1)) (Sub-right (map (cut erased) own) (map (cut erased) replies) all parts))
