-- Rows of a bus's turn in which a child gives a copy: a reply to the readers beside it, and a copy that leaves for another child or
-- for parking.
-- Letters: p is the parent, q after it, ns its children, c the child that gives, k the one that takes, x the item, u a note.
use Rattle.std.proofs.Common.{◌≡◌, ℕ, ◌<◌, Bool, true, false, List, [], ◌∷◌, ◌++◌, length, Some, refl, sym, ap, subst, inl}
use Rattle.std.specs.Prelude.{nat_eq, if◌then◌else◌}
use Rattle.std.proofs.lemmas.Bool.{eqb-true}
use Rattle.order_laws.specs.TreeModel.State.Lists.{map_from}
use Rattle.order_laws.specs.TreeModel.State.States.{is_held}
use Rattle.order_laws.specs.TreeModel.State.Values.{Note, DirValue, Node}
use Rattle.order_laws.specs.TreeModel.State.Leaf.{words_of_item}
use Rattle.order_laws.specs.TreeModel.State.Directory.{queue_of, is_reader, stamp_of}
use Rattle.order_laws.specs.TreeModel.State.Child.{child_hold, child_reply, child_take_data, child_take_inject, child_give_up, child_reply_taken}
use Rattle.order_laws.specs.TreeModel.State.Place.{Where, where_path}
use Rattle.order_laws.specs.TreeModel.Turns.Children.{child_at, only, replied_by, passed_on}
use Rattle.order_laws.proofs.TreeModel.Children.{map_from-length}
use Rattle.order_laws.specs.TreeRules.Order.Copies.{CopyAt, copy_here}
use Rattle.order_laws.specs.Moves.Parent.{bound_at, moment_in}
use Rattle.order_laws.proofs.Moves.Rise.{parent-rises}
use Rattle.order_laws.proofs.Moves.Child.{FewerWords, IsGiven}
use Rattle.order_laws.proofs.Moves.Calls.{same-fewer, reply-fewer, gone-fewer}
use Rattle.order_laws.proofs.Moves.Bus.{IsGift, KidMoves, kid_fewer, kid_given, in-kid}
use Rattle.order_laws.proofs.Moves.Beside.{only-fewer}
use Rattle.order_laws.proofs.Moves.RowTime.{RowTime}
use Rattle.order_laws.proofs.Moves.Hands.{Has, Hands, kids-by, served-hands, erased-same, downs-same}
use Rattle.order_laws.proofs.Moves.Brought.{if-by, has-told, words-more, words-behind}
use Rattle.order_laws.proofs.Moves.Facts.{HasGot}
use Rattle.order_laws.proofs.Moves.Giving.{HandsUp, reply-copy}

module _ (x : ℕ) (w : Where) (p q : DirValue) (ns : List Node) (time : RowTime w p q) (queue : queue_of x q.down ≡ queue_of x p.down) (replies : words_of_item x q.replies ≡ words_of_item x p.replies) where
  -- with one copy that may be told
  gift-hands : (g : ℕ → Node → Node) (one : CopyAt) → ((b : List ℕ) → IsGift x w b p q ns (Has x ns (map_from g 0 ns)) one) → ((b : List ℕ) (i : ℕ) → i < length ns → KidMoves x w b p q ns (Has x ns (map_from g 0 ns)) (one ∷ []) i (child_at i ns) (g i (child_at i ns))) → FewerWords (words_of_item x q.parked) (one.words ∷ words_of_item x p.parked) → Hands x w p ns q (map_from g 0 ns)
  gift-hands g one gift kids parked = served-hands x w p q ns (map_from g 0 ns) time (one ∷ []) (λ b. (gift b, tt)) (λ b. record { erased = erased-same x w p q queue; many = map_from-length g 0 ns; kids = kids-by x w p q ns (map_from g 0 ns) b (one ∷ []) g (kids b); parked = parked }) (downs-same x w p q queue) replies

  -- a reply, to the readers of a note
  module _ (parked : words_of_item x q.parked ≡ words_of_item x p.parked) (c : ℕ) (l : c < length ns) (words : List ℕ) (has : child_reply (child_at c ns) ≡ Some (record { item = x; words = words })) (u : Note) (apart : is_reader u c ≡ false) (gets : (i : ℕ) → i < length ns → is_reader u i ≡ true → HasGot x words (stamp_of q) (child_at i ns) (child_take_data x words (stamp_of q) (child_at i ns))) where
    abbrev g : ℕ → Node → Node
    g = replied_by c u x words (stamp_of q)

    abbrev ms : List Node
    ms = map_from g 0 ns

    abbrev reply : CopyAt
    reply = copy_here (where_path w) (bound_at w p) words

    reply-gift : (b : List ℕ) → IsGift x w b p q ns (Has x ns ms) reply
    reply-gift b = record {
      there = in-kid x w b p q ns (Has x ns ms) c reply l (reply-copy x (where_path w) (bound_at w p) (stamp_of p) c (child_at c ns) words has);
      rises = parent-rises (where_path w) (bound_at w p) (bound_at w q) (moment_in w p) (moment_in w q) (Has x ns ms) (bound_at w p) (bound_at w q) words time.time.next.bound_rises;
    }

    other-child : (i : ℕ) → is_reader u i ≡ true → nat_eq i c ≡ false
    other-child i is = by (nat_eq i c) refl where
      by : (t : Bool) → nat_eq i c ≡ t → t ≡ false
      by true e =
          let same : is_reader u c ≡ true = subst (λ j. is_reader u j ≡ true) (eqb-true i c e) is in
          cc
      by false e = refl

    pub reply-hands : Hands x w p ns q ms
    reply-hands = gift-hands g reply reply-gift (λ b i li. if-by (KidMoves x w b p q ns (Has x ns ms) (reply ∷ []) i (child_at i ns)) (is_reader u i) (child_take_data x words (stamp_of q) (only c child_reply_taken i (child_at i ns))) (only c child_reply_taken i (child_at i ns)) (λ is. told b i li is) (λ away. kid_fewer (only-fewer x c child_reply_taken (reply-fewer x) i (child_at i ns)))) (words-more words _ _ parked) where
      told : (b : List ℕ) (i : ℕ) → i < length ns → is_reader u i ≡ true → KidMoves x w b p q ns (Has x ns ms) (reply ∷ []) i (child_at i ns) (child_take_data x words (stamp_of q) (only c child_reply_taken i (child_at i ns)))
      told b i li is =
          let n : Node = child_at i ns in
          let same : only c child_reply_taken i n ≡ n = ap (λ t. if t then child_reply_taken n else n) (other-child i is) in
          let got : HasGot x words (stamp_of q) n (child_take_data x words (stamp_of q) (only c child_reply_taken i n)) = subst (λ m. HasGot x words (stamp_of q) n (child_take_data x words (stamp_of q) m)) (sym same) (gets i li is) in
          let holds : is_held (child_hold x (g i n)) ≡ true = subst (λ t. is_held (child_hold x (if t then child_take_data x words (stamp_of q) (only c child_reply_taken i n) else only c child_reply_taken i n)) ≡ true) (sym is) got.holds in
          kid_given reply (inl refl) (has-told x g ns i li holds got.free) got.given

  -- a copy that leaves
  module _ (c : ℕ) (l : c < length ns) (words : List ℕ) where
    abbrev HandsOne : (ℕ → Type 0) → Type 0
    HandsOne H = HandsUp x (where_path w) (bound_at w p) (bound_at w q) (stamp_of p) (stamp_of q) H time.time.next c (child_at c ns) words

    left-gift : (ms : List Node) (one : HandsOne (Has x ns ms)) (b : List ℕ) → IsGift x w b p q ns (Has x ns ms) one.copy
    left-gift ms one b = record { there = in-kid x w b p q ns (Has x ns ms) c one.copy l one.there; rises = one.rises }

    -- into parking
    pub parked-hands : words_of_item x q.parked ≡ words_of_item x p.parked ++ words ∷ [] → HandsOne (Has x ns (map_from (only c (child_give_up x)) 0 ns)) → Hands x w p ns q (map_from (only c (child_give_up x)) 0 ns)
    parked-hands parked one =
        let g : ℕ → Node → Node = only c (child_give_up x) in
        gift-hands g one.copy (left-gift (map_from g 0 ns) one) (λ b i li. kid_fewer (only-fewer x c (child_give_up x) (gone-fewer x) i (child_at i ns))) (subst (λ v. FewerWords (words_of_item x q.parked) (v ∷ words_of_item x p.parked)) (sym one.is) (words-behind words _ _ parked))

    -- for another child
    pub passed-hands : words_of_item x q.parked ≡ words_of_item x p.parked → (k : ℕ) → (k < length ns → HasGot x words (stamp_of q) (child_at k ns) (child_take_inject x words (stamp_of q) (child_at k ns))) → HandsOne (Has x ns (map_from (passed_on c k x words (stamp_of q)) 0 ns)) → Hands x w p ns q (map_from (passed_on c k x words (stamp_of q)) 0 ns)
    passed-hands parked k gets one =
        let g : ℕ → Node → Node = passed_on c k x words (stamp_of q) in
        let ms : List Node = map_from g 0 ns in
        gift-hands g one.copy (left-gift ms one) (λ b i li. if-by (KidMoves x w b p q ns (Has x ns ms) (one.copy ∷ []) i (child_at i ns)) (nat_eq i c) (child_give_up x (child_at i ns)) _ (λ is. kid_fewer (gone-fewer x (child_at i ns))) (λ away. if-by (KidMoves x w b p q ns (Has x ns ms) (one.copy ∷ []) i (child_at i ns)) (nat_eq i k) (child_take_inject x words (stamp_of q) (child_at i ns)) (child_at i ns) (λ is. told b i li away is) (λ other. kid_fewer (same-fewer x (child_at i ns))))) (words-more one.copy.words _ _ parked) where
          told : (b : List ℕ) (i : ℕ) → i < length ns → nat_eq i c ≡ false → nat_eq i k ≡ true → KidMoves x w b p q ns (Has x ns (map_from (passed_on c k x words (stamp_of q)) 0 ns)) (one.copy ∷ []) i (child_at i ns) (child_take_inject x words (stamp_of q) (child_at i ns))
          told b i li apart is =
              let n : Node = child_at i ns in
              let same : i ≡ k = eqb-true i k is in
              let got : HasGot x words (stamp_of q) n (child_take_inject x words (stamp_of q) n) = subst (λ j. HasGot x words (stamp_of q) (child_at j ns) (child_take_inject x words (stamp_of q) (child_at j ns))) (sym same) (gets (subst (λ j. j < length ns) same li)) in
              let holds : is_held (child_hold x (passed_on c k x words (stamp_of q) i n)) ≡ true = subst (λ t. is_held (child_hold x (if t then child_give_up x n else (if nat_eq i k then child_take_inject x words (stamp_of q) n else n))) ≡ true) (sym apart) (subst (λ t. is_held (child_hold x (if t then child_take_inject x words (stamp_of q) n else n)) ≡ true) (sym is) got.holds) in
              kid_given one.copy (inl refl) (has-told x (passed_on c k x words (stamp_of q)) ns i li holds got.free) (subst (λ v. IsGiven x v (stamp_of q) n (child_take_inject x words (stamp_of q) n)) (sym one.is) got.given)
