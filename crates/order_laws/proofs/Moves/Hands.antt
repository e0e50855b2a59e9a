-- What is proved of a row for one item: where the copies come from that the parent hands up; first where nothing is told.
-- Letters: p is the parent, ns are its children, q and ms the same after the turn, w is where p stands.
use Rattle.std.proofs.Common.{◌≡◌, ℕ, ◌<◌, true, List, [], length, refl, sym, ap, subst}
use Rattle.std.specs.List.{AllByRecursion}
use Rattle.order_laws.specs.TreeModel.State.Lists.{map_from}
use Rattle.order_laws.specs.TreeModel.State.States.{is_held}
use Rattle.order_laws.specs.TreeModel.State.Values.{DirValue, Node, nodes}
use Rattle.order_laws.specs.TreeModel.State.Leaf.{words_of_item}
use Rattle.order_laws.specs.TreeModel.State.Directory.{queue_of}
use Rattle.order_laws.specs.TreeModel.State.Child.{child_hold}
use Rattle.order_laws.specs.TreeModel.State.Place.{Where, at_top, at_child, where_path, spot_path}
use Rattle.order_laws.specs.TreeModel.Turns.Children.{child_at}
use Rattle.order_laws.proofs.TreeModel.Children.{child_at-map_from}
use Rattle.order_laws.specs.TreeRules.Order.Copies.{CopyAt, copies_here, first_erase, downs}
use Rattle.order_laws.specs.Moves.Moved.{In, Moved, AllFrom}
use Rattle.order_laws.specs.Moves.Parent.{moment_in, erased_at, downs_at, replies_up, hand_of}
use Rattle.order_laws.specs.Moves.Carries.{IsLeafFree, IsBoundAt}
use Rattle.order_laws.proofs.Moves.Sources.{Sub}
use Rattle.order_laws.proofs.Moves.Child.{words-same}
use Rattle.order_laws.proofs.Moves.Bus.{IsGift, KidMoves, kid_fewer, IsServed, served-from, sub-from, in-downs, in-replies}
use Rattle.order_laws.proofs.Moves.Beside.{IsBeside}
use Rattle.order_laws.proofs.Moves.RowTime.{RowTime}

-- child i holds the item afterwards, which a leaf did not before
abbrev pub Has : ℕ → List Node → List Node → ℕ → Type 0
Has x ns ms i = (is_held (child_hold x (child_at i ms)) ≡ true) × IsLeafFree x (child_at i ns)

abbrev pub MoveAt : ℕ → Where → DirValue → DirValue → List Node → List Node → CopyAt → CopyAt → Type 0
MoveAt x w p q ns ms = Moved (where_path w) (moment_in w p) (moment_in w q) (Has x ns ms)

abbrev pub Hands : ℕ → Where → DirValue → List Node → DirValue → List Node → Type 0
Hands x w p ns q ms = (b : List ℕ) → IsBoundAt w b → AllFrom (MoveAt x w p q ns ms) (hand_of x w b p (nodes ns)) (hand_of x w b q (nodes ms))

-- ---- what stays

pub erased-same : (x : ℕ) (w : Where) (p q : DirValue) → queue_of x q.down ≡ queue_of x p.down → erased_at x w q ≡ erased_at x w p
erased-same x at_top p q e = refl
erased-same x (at_child c) p q e = ap (first_erase c.above) e

pub downs-same : (x : ℕ) (w : Where) (p q : DirValue) → queue_of x q.down ≡ queue_of x p.down → Sub (downs_at x w q) (downs_at x w p)
downs-same x at_top p q e k h = h
downs-same x (at_child c) p q e k h = subst (λ l. In k (downs (spot_path c) c.above l)) e h

pub replies-same : (x : ℕ) (w : Where) (b : List ℕ) (p q : DirValue) → words_of_item x q.replies ≡ words_of_item x p.replies → Sub (replies_up x w b q) (replies_up x w b p)
replies-same x at_top b p q e k h = h
replies-same x (at_child c) b p q e k h = subst (λ ws. In k (copies_here c.above b ws)) e h

module _ (x : ℕ) (w : Where) (p q : DirValue) (ns ms : List Node) where
  -- each child by what it was told
  pub kids-by : (b : List ℕ) (gifts : List CopyAt) (g : ℕ → Node → Node) → ((i : ℕ) → i < length ns → KidMoves x w b p q ns (Has x ns ms) gifts i (child_at i ns) (g i (child_at i ns))) → (i : ℕ) → i < length ns → KidMoves x w b p q ns (Has x ns ms) gifts i (child_at i ns) (child_at i (map_from g 0 ns))
  kids-by b gifts g h i l = subst (λ m. KidMoves x w b p q ns (Has x ns ms) gifts i (child_at i ns) m) (sym (child_at-map_from g i ns l)) (h i l)

  module _ (time : RowTime w p q) where
    abbrev Move : CopyAt → CopyAt → Type 0
    Move = MoveAt x w p q ns ms

    -- a turn in which copies may be told, and no end changes; what comes down to the parent and its own replies are told apart
    pub hands-with : (gifts : List CopyAt) → ((b : List ℕ) → AllByRecursion (IsGift x w b p q ns (Has x ns ms)) gifts) → ((b : List ℕ) → IsServed x w b p q ns (Has x ns ms) gifts ms) → ((b : List ℕ) → AllFrom Move (hand_of x w b p (nodes ns)) (downs_at x w q)) → ((b : List ℕ) → IsBoundAt w b → AllFrom Move (hand_of x w b p (nodes ns)) (replies_up x w b q)) → Hands x w p ns q ms
    hands-with gifts gs served down replies b is = served-from x w b p q ns (Has x ns ms) time.time.next (time.ends x (served b).erased) gifts ms (gs b) (served b) (down b) (replies b is)

    pub downs-left : Sub (downs_at x w q) (downs_at x w p) → (b : List ℕ) → AllFrom Move (hand_of x w b p (nodes ns)) (downs_at x w q)
    downs-left down b = sub-from x w b p q ns (Has x ns ms) (downs_at x w q) (λ k h. in-downs x w b p q ns (Has x ns ms) k (down k h))

    pub replies-left : words_of_item x q.replies ≡ words_of_item x p.replies → (b : List ℕ) → IsBoundAt w b → AllFrom Move (hand_of x w b p (nodes ns)) (replies_up x w b q)
    replies-left replies b is = sub-from x w b p q ns (Has x ns ms) (replies_up x w b q) (λ k h. in-replies x w b p q ns (Has x ns ms) k (replies-same x w b p q replies k h))

    pub served-hands : (gifts : List CopyAt) → ((b : List ℕ) → AllByRecursion (IsGift x w b p q ns (Has x ns ms)) gifts) → ((b : List ℕ) → IsServed x w b p q ns (Has x ns ms) gifts ms) → Sub (downs_at x w q) (downs_at x w p) → words_of_item x q.replies ≡ words_of_item x p.replies → Hands x w p ns q ms
    served-hands gifts gs served down replies = hands-with gifts gs served (downs-left down) (replies-left replies)

    -- a turn that does nothing with the item
    pub beside-hands : IsBeside x p q ns ms → Hands x w p ns q ms
    beside-hands beside = served-hands [] (λ b. tt) (λ b. record { erased = erased-same x w p q beside.queue; many = beside.many; kids = λ i l. kid_fewer (beside.kids i l); parked = words-same _ _ beside.parked }) (downs-same x w p q beside.queue) beside.replies
