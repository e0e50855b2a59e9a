-- Rows of a bus's turn in which a copy goes up: a reply or the parked copy to the parent's own replies, and the parked copy into
-- the parent's own down list.
-- Letters: p is the parent, q after it, ns its children, w where the parent stands, x the item.
use Rattle.std.proofs.Common.{◌≡◌, ℕ, ◌+◌, ◌*◌, ◌<◌, ◌≤◌, false, List, [], ◌∷◌, ◌++◌, length, take, None, refl, sym, ap, subst, ◌∙◌, inl, arith}
use Rattle.std.proofs.lemmas.List.{map-append, length-append, take-append-le, take-take}
use Rattle.order_laws.specs.DdmTypes.declared.answers.TxKind.TheVariants.{DataTx}
use Rattle.order_laws.specs.DdmTypes.declared.keys.Stamp.{Stamp}
use Rattle.order_laws.specs.TreeModel.State.Values.{DownValue, DirValue, Node, nodes, dir_node}
use Rattle.order_laws.specs.TreeModel.State.Leaf.{words_of_item}
use Rattle.order_laws.specs.TreeModel.State.Directory.{queue_of}
use Rattle.order_laws.specs.TreeModel.State.Place.{Spot, Where, at_top, at_child, where_path, spot_path, stamp_above}
use Rattle.order_laws.specs.TreeModel.Turns.Children.{child_at}
use Rattle.order_laws.specs.TreeRules.Order.Copies.{CopyAt, cut, copy_here, copies_here, first_erase, downs}
use Rattle.order_laws.specs.TreeRules.Order.Moments.{less, less_at, moment_at, moment_length, spot_moment}
use Rattle.order_lists.proofs.Filters.{each-append}
use Rattle.order_lists.proofs.Moments.{at_most-at}
use Rattle.order_laws.specs.Moves.Moved.{In, Moved, From, AllFrom}
use Rattle.order_laws.specs.Moves.Parent.{bound_at, moment_in, erased_at, downs_at, replies_up, hand_of}
use Rattle.order_laws.specs.Moves.Carries.{IsBoundOf, IsBoundAt}
use Rattle.order_laws.proofs.Moves.Sources.{Sub}
use Rattle.order_laws.proofs.Moves.Rise.{parent-rises, to-parent}
use Rattle.order_laws.proofs.Moves.Child.{FewerWords, IsFewer, words-same}
use Rattle.order_laws.proofs.Moves.Calls.{words-none}
use Rattle.order_laws.proofs.Moves.Bus.{kid_fewer, sub-from, in-replies, in-parked}
use Rattle.order_laws.proofs.Moves.Ordered.{OrderedAt}
use Rattle.order_laws.proofs.Moves.RowTime.{RowTime}
use Rattle.order_laws.proofs.Moves.Hands.{Has, MoveAt, Hands, hands-with, downs-left, replies-left}

-- ---- from the parent to the parent of the bus above

module _ (path old new : List ℕ) (H : ℕ → Type 0) (c : Spot) (at : path ≡ spot_path c) where
  pub sent : (a b words : List ℕ) → less (spot_moment c) a ≡ false → IsBoundOf c.above c.present b → Moved path old new H (copy_here path a words) (copy_here c.above b words)
  sent a b words past is = record { words = refl; end = inl refl; clock = λ j l. inl (record { deep = deep j l; same = ap (take (j + 1)) refl ∙ sym (ap (take (j + 1)) at ∙ take-append-le (j + 1) c.above (c.number ∷ []) (omega (arith, l))); clock = least j l }) } where
    deep : (j : ℕ) → j < length c.above → j < length path
    deep j l =
        let size : length path ≡ length c.above + 1 = ap length at ∙ length-append c.above (c.number ∷ []) in
        omega (arith, size, l)

    least : (j : ℕ) → j < length c.above → less_at (moment_length j) b a ≡ false
    least j l =
        let sized : 2 * length c.above ≤ length b + 1 = is.size in
        let fits : moment_length j ≤ length b = omega (arith, l, sized) in
        let same : take (moment_length j) b ≡ take (moment_length j) (spot_moment c) = sym (ap (take (moment_length j)) is.begins) ∙ take-take (moment_length j) (length b) (spot_moment c) fits in
        subst (λ t. less t (take (moment_length j) a) ≡ false) (sym same) (at_most-at (moment_length j) a (spot_moment c) past)

module _ (x : ℕ) (w : Where) (p q : DirValue) (ns ms : List Node) (time : RowTime w p q) (ordered : OrderedAt w (dir_node p (nodes ns))) (words : List ℕ) where
  abbrev Move : CopyAt → CopyAt → Type 0
  Move = MoveAt x w p q ns ms

  -- a copy at the parent goes to its replies
  module _ (erased : erased_at x w q ≡ erased_at x w p) (down : Sub (downs_at x w q) (downs_at x w p)) (parked : words_of_item x q.parked ≡ words_of_item x p.parked) (replies : words_of_item x q.replies ≡ words_of_item x p.replies ++ words ∷ []) (source : (b : List ℕ) → In (copy_here (where_path w) (bound_at w p) words) (hand_of x w b p (nodes ns))) where
    up-replies : (b : List ℕ) → IsBoundAt w b → AllFrom Move (hand_of x w b p (nodes ns)) (replies_up x w b q)
    up-replies b is = by w refl where
      unchanged : (c : Spot) → w ≡ at_child c → Sub (copies_here c.above b (words_of_item x p.replies)) (hand_of x w b p (nodes ns))
      unchanged c e k h = in-replies x w b p q ns (Has x ns ms) k (subst (λ u. In k (replies_up x u b p)) (sym e) h)

      new : (c : Spot) → w ≡ at_child c → From Move (hand_of x w b p (nodes ns)) (copy_here c.above b words)
      new c e =
          let past : less (spot_moment c) (bound_at w p) ≡ false = above-past c e in
          record { source = copy_here (where_path w) (bound_at w p) words; there = source b; related = sent (where_path w) (moment_in w p) (moment_in w q) (Has x ns ms) c (ap where_path e) (bound_at w p) b words past (subst (λ u. IsBoundAt u b) e is) } where
            above-past : (c : Spot) → w ≡ at_child c → less (spot_moment c) (bound_at w p) ≡ false
            above-past c e =
                let o : OrderedAt (at_child c) (dir_node p (nodes ns)) = subst (λ u. OrderedAt u (dir_node p (nodes ns))) e ordered in
                subst (λ u. less (spot_moment c) (bound_at u p) ≡ false) (sym e) o.0.clocked.taken

      by : (u : Where) → w ≡ u → AllFrom Move (hand_of x w b p (nodes ns)) (replies_up x w b q)
      by at_top e = subst (λ u. AllFrom Move (hand_of x w b p (nodes ns)) (replies_up x u b q)) (sym e) tt
      by (at_child c) e =
          let before : List CopyAt = copies_here c.above b (words_of_item x p.replies) in
          let all : List CopyAt = hand_of x w b p (nodes ns) in
          let both : AllFrom Move all (before ++ copy_here c.above b words ∷ []) = each-append (From Move all) before (copy_here c.above b words ∷ []) (sub-from x w b p q ns (Has x ns ms) before (unchanged c e)) (new c e, tt) in
          let listed : copies_here c.above b (words_of_item x q.replies) ≡ before ++ copy_here c.above b words ∷ [] = ap (copies_here c.above b) replies ∙ map-append (copy_here c.above b) (words_of_item x p.replies) (words ∷ []) in
          subst (λ u. AllFrom Move all (replies_up x u b q)) (sym e) (subst (λ l. AllFrom Move all l) (sym listed) both)

    pub up-hands : length ms ≡ length ns → ((i : ℕ) → i < length ns → IsFewer x (child_at i ns) (child_at i ms)) → Hands x w p ns q ms
    up-hands many kids = hands-with x w p q ns ms time [] (λ b. tt) (λ b. record { erased = erased; many = many; kids = λ i l. kid_fewer (kids i l); parked = words-same _ _ parked }) (downs-left x w p q ns ms time down) up-replies

  -- the parked copy goes into the down list, at the present moment above; nothing of the item stood there
  module _ (empty : queue_of x p.down ≡ []) (e : DownValue) (stamp : e.stamp ≡ stamp_above w) (kind : e.kind ≡ DataTx) (text : e.words ≡ words) (queue : queue_of x q.down ≡ e ∷ []) (parked : words_of_item x q.parked ≡ []) (replies : words_of_item x q.replies ≡ words_of_item x p.replies) (has : In (copy_here (where_path w) (bound_at w p) words) (copies_here (where_path w) (bound_at w p) (words_of_item x p.parked))) where
    no-erased : (u : Where) → erased_at x u p ≡ None
    no-erased at_top = refl
    no-erased (at_child c) = ap (first_erase c.above) empty

    no-erased_after : (u : Where) → erased_at x u q ≡ None
    no-erased_after at_top = refl
    no-erased_after (at_child c) = ap (first_erase c.above) queue ∙ rw kind refl

    down-from : (b : List ℕ) → AllFrom Move (hand_of x w b p (nodes ns)) (downs_at x w q)
    down-from b = by w refl where
      parked-in : In (copy_here (where_path w) (bound_at w p) words) (hand_of x w b p (nodes ns))
      parked-in = subst (λ o. In (cut o (copy_here (where_path w) (bound_at w p) words)) (hand_of x w b p (nodes ns))) (no-erased w) (in-parked x w b p q ns (Has x ns ms) (copy_here (where_path w) (bound_at w p) words) has)

      by : (u : Where) → w ≡ u → AllFrom Move (hand_of x w b p (nodes ns)) (downs_at x w q)
      by at_top at = subst (λ u. AllFrom Move (hand_of x w b p (nodes ns)) (downs_at x u q)) (sym at) tt
      by (at_child c) at =
          let all : List CopyAt = hand_of x w b p (nodes ns) in
          let o : OrderedAt (at_child c) (dir_node p (nodes ns)) = subst (λ u. OrderedAt u (dir_node p (nodes ns))) at ordered in
          let past : less (spot_moment c) (bound_at w p) ≡ false = subst (λ u. less (spot_moment c) (bound_at u p) ≡ false) (sym at) o.0.clocked.taken in
          let moved : Move (copy_here (where_path w) (bound_at w p) words) (copy_here (where_path w) (spot_moment c) words) = to-parent (where_path w) (bound_at w p) (bound_at w q) (moment_in w p) (moment_in w q) (Has x ns ms) (spot_moment c) (copy_here (where_path w) (bound_at w p) words) (parent-rises (where_path w) (bound_at w p) (bound_at w q) (moment_in w p) (moment_in w q) (Has x ns ms) (bound_at w p) (spot_moment c) words past) in
          let one : From Move all (copy_here (where_path w) (spot_moment c) words) = record { source = copy_here (where_path w) (bound_at w p) words; there = parked-in; related = moved } in
          let stamped : e.stamp ≡ c.present = stamp ∙ ap stamp_above at in
          let list : downs (spot_path c) c.above (queue_of x q.down) ≡ copy_here (where_path w) (spot_moment c) words ∷ [] = ap (downs (spot_path c) c.above) queue ∙ (rw kind refl ∙ (ap (λ (s : Stamp). copy_here (spot_path c) (moment_at c.above s) e.words ∷ []) stamped ∙ (ap (λ t. copy_here (spot_path c) (spot_moment c) t ∷ []) text ∙ ap (λ u. copy_here (where_path u) (spot_moment c) words ∷ []) (sym at)))) in
          subst (λ u. AllFrom Move all (downs_at x u q)) (sym at) (subst (λ l. AllFrom Move all l) (sym list) (one, tt))

    pub down-hands : length ms ≡ length ns → ((i : ℕ) → i < length ns → IsFewer x (child_at i ns) (child_at i ms)) → Hands x w p ns q ms
    down-hands many kids = hands-with x w p q ns ms time [] (λ b. tt) (λ b. record { erased = no-erased_after w ∙ sym (no-erased w); many = many; kids = λ i l. kid_fewer (kids i l); parked = subst (λ ws. FewerWords ws (words_of_item x p.parked)) (sym parked) (words-none (words_of_item x p.parked)) }) down-from (replies-left x w p q ns ms time replies)
