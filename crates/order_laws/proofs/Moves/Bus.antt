-- One turn of a bus: from what its children and its parent do with an item, where the copies come from that the parent hands up.
-- Letters: p is the parent, ns are its children, q and ms the same after the turn, b the clock of the parent's replies.
use Rattle.std.proofs.Common.{◌≡◌, ℕ, zero, suc, ◌+◌, ◌<◌, List, [], ◌∷◌, ◌++◌, map, length, Option, IfSome, sym, subst, inl, inr, arith}
use Rattle.std.specs.List.{AllByRecursion}
use Rattle.std.proofs.lemmas.List.{map-append}
use Rattle.order_laws.specs.TreeModel.State.Values.{DirValue, Node, nodes}
use Rattle.order_laws.specs.TreeModel.State.Leaf.{words_of_item}
use Rattle.order_laws.specs.TreeModel.State.Directory.{stamp_of}
use Rattle.order_laws.specs.TreeModel.State.Place.{Where, where_path}
use Rattle.order_laws.specs.TreeModel.Turns.Children.{child_at}
use Rattle.order_laws.specs.TreeRules.Order.Copies.{CopyAt, cut, copies_here, handed}
use Rattle.order_laws.specs.TreeRules.Order.Moments.{GoesOn}
use Rattle.order_lists.proofs.Filters.{each-append}
use Rattle.order_laws.specs.Moves.Moved.{In, Moved, From, AllFrom}
use Rattle.order_laws.specs.Moves.Parent.{bound_at, moment_in, erased_at, downs_at, replies_up, hand_of}
use Rattle.order_laws.proofs.Moves.Sources.{Sub, Sub-left, Sub-right, Sub-map, In-left, In-right, In-map, AllFrom-sub, Sub-images, each-sub}
use Rattle.order_laws.proofs.Moves.Cuts.{Moved-same}
use Rattle.order_laws.proofs.Moves.Rise.{IsNext, Rises, here-risen}
use Rattle.order_laws.proofs.Moves.Child.{FewerWords, IsFewer, IsGiven, IsAsked, hand, fewer-hand, asked-hand, given-hand, cut-from, parked-from}

-- ---- all children

module _ (R : CopyAt → CopyAt → Type 0) (f g : CopyAt → CopyAt) (all : List CopyAt) (x : ℕ) (path bound bound' : List ℕ) (p q : DirValue) where
  -- what child i hands up afterwards comes from all, if all has what it handed up before
  abbrev pub KidFrom : ℕ → Node → Node → Type 0
  KidFrom i n m = Sub (map f (hand x path bound (stamp_of p) i n)) all → AllFrom R all (map g (hand x path bound' (stamp_of q) i m))

  pub handed-from : (k : ℕ) (ns ms : List Node) → length ms ≡ length ns → ((i : ℕ) → i < length ns → KidFrom (k + i) (child_at i ns) (child_at i ms)) → Sub (map f (handed x path bound p k (nodes ns))) all → AllFrom R all (map g (handed x path bound' q k (nodes ms)))
  handed-from k [] [] many kids s = tt
  handed-from k [] (m ∷ ms) many kids s = absurd (omega (arith, many))
  handed-from k (n ∷ ns) [] many kids s = absurd (omega (arith, many))
  handed-from k (n ∷ ns) (m ∷ ms) many kids s =
      let own = hand x path bound (stamp_of p) k n in
      let rest = handed x path bound p (k + 1) (nodes ns) in
      let own' = hand x path bound' (stamp_of q) k m in
      let rest' = handed x path bound' q (k + 1) (nodes ms) in
      let parts = Sub-map f own rest all s in
      let zero_more : k + 0 ≡ k = omega arith in
      let first : KidFrom k n m = subst (λ j. KidFrom j n m) zero_more (kids 0 (omega arith)) in
      let later : (i : ℕ) → i < length ns → KidFrom (k + 1 + i) (child_at i ns) (child_at i ms) = λ i l. subst (λ j. KidFrom j (child_at i ns) (child_at i ms)) (let e : k + suc i ≡ k + 1 + i = omega arith in e) (kids (suc i) (omega (arith, l))) in
      subst (λ l. AllFrom R all l) (sym (map-append g own' rest')) (each-append (From R all) (map g own') (map g rest') (first (Sub-left (map f own) (map f rest) all parts)) (handed-from (k + 1) ns ms (omega (arith, many)) later (Sub-right (map f own) (map f rest) all parts)))

-- one of them
pub handed-in : (x : ℕ) (path bound : List ℕ) (p : DirValue) (k i : ℕ) (ns : List Node) (c : CopyAt) → i < length ns → In c (hand x path bound (stamp_of p) (k + i) (child_at i ns)) → In c (handed x path bound p k (nodes ns))
handed-in x path bound p k i [] c l h = absurd (omega (arith, l))
handed-in x path bound p k zero (n ∷ ns) c l h = In-left c _ (handed x path bound p (k + 1) (nodes ns)) (subst (λ j. In c (hand x path bound (stamp_of p) j n)) (let e : k + 0 ≡ k = omega arith in e) h)
handed-in x path bound p k (suc i) (n ∷ ns) c l h = In-right c (hand x path bound (stamp_of p) k n) _ (handed-in x path bound p (k + 1) i ns c (omega (arith, l)) (subst (λ j. In c (hand x path bound (stamp_of p) j (child_at i ns))) (let e : k + suc i ≡ k + 1 + i = omega arith in e) h))

pub from_zero : (i : ℕ) → i ≡ 0 + i
from_zero i = omega arith

-- ---- the whole bus

abbrev pub copy_text : CopyAt → List ℕ
copy_text k = k.words

module _ (x : ℕ) (w : Where) (b : List ℕ) (p q : DirValue) (ns : List Node) (Has : ℕ → Type 0) where
  abbrev pub Move : CopyAt → CopyAt → Type 0
  Move = Moved (where_path w) (moment_in w p) (moment_in w q) Has

  -- all that the parent handed up before
  abbrev pub all : List CopyAt
  all = hand_of x w b p (nodes ns)

  abbrev kids_before : List CopyAt
  kids_before = handed x (where_path w) (bound_at w p) p 0 (nodes ns)

  abbrev parked_before : List CopyAt
  parked_before = copies_here (where_path w) (bound_at w p) (words_of_item x p.parked)

  in-gathered : (k : CopyAt) → In k (kids_before ++ parked_before) → In (cut (erased_at x w p) k) all
  in-gathered k h = In-left _ (map (cut (erased_at x w p)) (kids_before ++ parked_before) ++ downs_at x w p) (replies_up x w b p) (In-left _ (map (cut (erased_at x w p)) (kids_before ++ parked_before)) (downs_at x w p) (In-map (cut (erased_at x w p)) k (kids_before ++ parked_before) h))

  pub in-kid : (i : ℕ) (k : CopyAt) → i < length ns → In k (hand x (where_path w) (bound_at w p) (stamp_of p) i (child_at i ns)) → In (cut (erased_at x w p) k) all
  in-kid i k l h = in-gathered k (In-left k kids_before parked_before (handed-in x (where_path w) (bound_at w p) p 0 i ns k l (subst (λ j. In k (hand x (where_path w) (bound_at w p) (stamp_of p) j (child_at i ns))) (from_zero i) h)))

  pub in-parked : (k : CopyAt) → In k parked_before → In (cut (erased_at x w p) k) all
  in-parked k h = in-gathered k (In-right k kids_before parked_before h)

  pub in-downs : (k : CopyAt) → In k (downs_at x w p) → In k all
  in-downs k h = In-left k (map (cut (erased_at x w p)) (kids_before ++ parked_before) ++ downs_at x w p) (replies_up x w b p) (In-right k (map (cut (erased_at x w p)) (kids_before ++ parked_before)) (downs_at x w p) h)

  pub in-replies : (k : CopyAt) → In k (replies_up x w b p) → In k all
  in-replies k h = In-right k (map (cut (erased_at x w p)) (kids_before ++ parked_before) ++ downs_at x w p) (replies_up x w b p) h

  gathered-sub : Sub (map (cut (erased_at x w p)) kids_before ++ map (cut (erased_at x w p)) parked_before) all
  gathered-sub = Sub-map (cut (erased_at x w p)) kids_before parked_before all (Sub-left (map (cut (erased_at x w p)) (kids_before ++ parked_before)) (downs_at x w p) all (Sub-left (map (cut (erased_at x w p)) (kids_before ++ parked_before) ++ downs_at x w p) (replies_up x w b p) all (λ k h. h)))

  pub kids-sub : Sub (map (cut (erased_at x w p)) kids_before) all
  kids-sub = Sub-left (map (cut (erased_at x w p)) kids_before) (map (cut (erased_at x w p)) parked_before) all gathered-sub

  pub parked-sub : Sub (map (cut (erased_at x w p)) parked_before) all
  parked-sub = Sub-right (map (cut (erased_at x w p)) kids_before) (map (cut (erased_at x w p)) parked_before) all gathered-sub

  -- from its parts
  pub hand-from : (ms : List Node) → AllFrom Move all (map (cut (erased_at x w q)) (handed x (where_path w) (bound_at w q) q 0 (nodes ms))) → AllFrom Move all (map (cut (erased_at x w q)) (copies_here (where_path w) (bound_at w q) (words_of_item x q.parked))) → AllFrom Move all (downs_at x w q) → AllFrom Move all (replies_up x w b q) → AllFrom Move all (hand_of x w b q (nodes ms))
  hand-from ms kids parked down replies =
      let kids_after = handed x (where_path w) (bound_at w q) q 0 (nodes ms) in
      let parked_after = copies_here (where_path w) (bound_at w q) (words_of_item x q.parked) in
      let gathered : AllFrom Move all (map (cut (erased_at x w q)) (kids_after ++ parked_after)) = subst (λ l. AllFrom Move all l) (sym (map-append (cut (erased_at x w q)) kids_after parked_after)) (each-append (From Move all) (map (cut (erased_at x w q)) kids_after) (map (cut (erased_at x w q)) parked_after) kids parked) in
      each-append (From Move all) (map (cut (erased_at x w q)) (kids_after ++ parked_after) ++ downs_at x w q) (replies_up x w b q) (each-append (From Move all) (map (cut (erased_at x w q)) (kids_after ++ parked_after)) (downs_at x w q) gathered down) replies

  pub sub-from : (ks : List CopyAt) → Sub ks all → AllFrom Move all ks
  sub-from ks s = AllFrom-sub Move (Moved-same (where_path w) (moment_in w p) (moment_in w q) Has) all ks s

  -- ---- a turn in which copies may be told to children or parked, and no end changes

  -- copies that may be told
  pub record IsGift (k : CopyAt) : Type 0 where
    pub there : In (cut (erased_at x w p) k) all
    pub rises : Rises (where_path w) (bound_at w q) k

  -- a child has no more copies, or answers, or was told one of these
  pub data KidMoves (gifts : List CopyAt) (i : ℕ) (n m : Node) : Type 0 where
    kid_fewer : IsFewer x n m → KidMoves gifts i n m
    kid_asked : IsAsked x n m → KidMoves gifts i n m
    kid_given : (k : CopyAt) → In k gifts → Has i → IsGiven x k.words (stamp_of q) n m → KidMoves gifts i n m

  pub record IsServed (gifts : List CopyAt) (ms : List Node) : Type 0 where
    pub erased : erased_at x w q ≡ erased_at x w p
    pub many : length ms ≡ length ns
    pub kids : (i : ℕ) → i < length ns → KidMoves gifts i (child_at i ns) (child_at i ms)
    pub parked : FewerWords (words_of_item x q.parked) (map copy_text gifts ++ words_of_item x p.parked)

  module _ (next : IsNext (where_path w) (bound_at w p) (bound_at w q) (moment_in w p) (moment_in w q)) (later : IfSome (erased_at x w p) (GoesOn (moment_in w q))) where
    abbrev erased : Option (List ℕ)
    erased = erased_at x w p

    gift-in : (gifts : List CopyAt) (k : CopyAt) → AllByRecursion IsGift gifts → In k gifts → IsGift k
    gift-in [] k gs h = absurd h
    gift-in (g ∷ gifts) k gs (inl e) = subst IsGift (sym e) gs.0
    gift-in (g ∷ gifts) k gs (inr h) = gift-in gifts k gs.1 h

    kid-from : (gifts : List CopyAt) → AllByRecursion IsGift gifts → (i : ℕ) (n m : Node) → KidMoves gifts i n m → KidFrom Move (cut erased) (cut erased) all x (where_path w) (bound_at w p) (bound_at w q) p q i n m
    kid-from gifts gs i n m (kid_fewer h) sub = cut-from x (where_path w) (bound_at w p) (bound_at w q) (stamp_of p) (stamp_of q) Has next erased later all (hand x (where_path w) (bound_at w p) (stamp_of p) i n) (hand x (where_path w) (bound_at w q) (stamp_of q) i m) (fewer-hand x (where_path w) (bound_at w p) (bound_at w q) (stamp_of p) (stamp_of q) Has next i n m h) sub
    kid-from gifts gs i n m (kid_asked h) sub = cut-from x (where_path w) (bound_at w p) (bound_at w q) (stamp_of p) (stamp_of q) Has next erased later all (hand x (where_path w) (bound_at w p) (stamp_of p) i n) (hand x (where_path w) (bound_at w q) (stamp_of q) i m) (asked-hand x (where_path w) (bound_at w p) (bound_at w q) (stamp_of p) (stamp_of q) Has next i n m h) sub
    kid-from gifts gs i n m (kid_given k among has h) sub =
        let g = gift-in gifts k gs among in
        given-hand x (where_path w) (bound_at w p) (bound_at w q) (stamp_of p) (stamp_of q) Has next erased later all k g.there g.rises i n m has h sub

    gifts-parked : (gifts : List CopyAt) → AllByRecursion IsGift gifts → AllFrom Move all (map (cut erased) (copies_here (where_path w) (bound_at w q) (map copy_text gifts ++ words_of_item x p.parked)))
    gifts-parked [] gs = cut-from x (where_path w) (bound_at w p) (bound_at w q) (stamp_of p) (stamp_of q) Has next erased later all parked_before (copies_here (where_path w) (bound_at w q) (words_of_item x p.parked)) (here-risen (where_path w) (bound_at w p) (bound_at w q) (moment_in w p) (moment_in w q) Has (where_path w) (bound_at w p) (bound_at w q) next.bound_rises (words_of_item x p.parked)) parked-sub
    gifts-parked (k ∷ gifts) gs = (parked-from x (where_path w) (bound_at w p) (bound_at w q) (stamp_of p) (stamp_of q) Has next erased later all k gs.0.there gs.0.rises, gifts-parked gifts gs.1)

    -- the copies that come down and the replies of the parent itself are told apart
    pub served-from : (gifts : List CopyAt) (ms : List Node) → AllByRecursion IsGift gifts → IsServed gifts ms → AllFrom Move all (downs_at x w q) → AllFrom Move all (replies_up x w b q) → AllFrom Move all (hand_of x w b q (nodes ms))
    served-from gifts ms gs served down replies =
        let kids = handed-from Move (cut erased) (cut erased) all x (where_path w) (bound_at w p) (bound_at w q) p q 0 ns ms served.many (λ i l. subst (λ j. KidFrom Move (cut erased) (cut erased) all x (where_path w) (bound_at w p) (bound_at w q) p q j (child_at i ns) (child_at i ms)) (from_zero i) (kid-from gifts gs i (child_at i ns) (child_at i ms) (served.kids i l))) kids-sub in
        let parked_after : List CopyAt = copies_here (where_path w) (bound_at w q) (words_of_item x q.parked) in
        let parked : AllFrom Move all (map (cut erased) parked_after) = each-sub (From Move all) (map (cut erased) parked_after) _ (Sub-images (cut erased) parked_after (copies_here (where_path w) (bound_at w q) (map copy_text gifts ++ words_of_item x p.parked)) (served.parked (where_path w) (bound_at w q))) (gifts-parked gifts gs) in
        hand-from ms (subst (λ o. AllFrom Move all (map (cut o) (handed x (where_path w) (bound_at w q) q 0 (nodes ms)))) (sym served.erased) kids) (subst (λ o. AllFrom Move all (map (cut o) parked_after)) (sym served.erased) parked) down replies
