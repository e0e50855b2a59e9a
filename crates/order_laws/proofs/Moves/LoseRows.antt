-- Rows of a bus's turn in which children are told to lose the item: an erase that comes down, and one that a child asks for.
-- Letters: p is the parent, q after it, ns its children, w where the parent stands, x the item.
use Rattle.std.proofs.Common.{◌≡◌, ℕ, ◌+◌, ◌<◌, false, List, [], map, length, Option, None, IfSome, sym, subst}
use Rattle.std.specs.Prelude.{nat_eq}
use Rattle.order_laws.specs.TreeModel.State.Lists.{map_from}
use Rattle.order_laws.specs.TreeModel.State.Values.{DirValue, Node, nodes}
use Rattle.order_laws.specs.TreeModel.State.Leaf.{words_of_item}
use Rattle.order_laws.specs.TreeModel.State.Directory.{stamp_of}
use Rattle.order_laws.specs.TreeModel.State.Child.{child_lose, child_replies, child_request_taken}
use Rattle.order_laws.specs.TreeModel.State.Place.{Where, where_path}
use Rattle.order_laws.specs.TreeModel.Turns.Children.{child_at, erased_by, loses}
use Rattle.order_laws.proofs.TreeModel.Children.{map_from-length, child_at-map_from}
use Rattle.order_laws.specs.TreeRules.Order.Copies.{CopyAt, cut, copies_here, handed}
use Rattle.order_laws.specs.TreeRules.Order.Moments.{GoesOn}
use Rattle.order_laws.specs.Moves.Moved.{AllFrom}
use Rattle.order_laws.specs.Moves.Parent.{bound_at, moment_in, erased_at, downs_at, hand_of}
use Rattle.order_laws.proofs.Moves.Sources.{Sub, AllFrom-more}
use Rattle.order_laws.proofs.Moves.Rise.{here-risen}
use Rattle.order_laws.proofs.Moves.Child.{hand, fewer-hand, cut-from}
use Rattle.order_laws.proofs.Moves.Calls.{request-fewer}
use Rattle.order_laws.proofs.Moves.Bus.{KidFrom, handed-from, from_zero, kids-sub, parked-sub, hand-from}
use Rattle.order_laws.proofs.Moves.Brought.{if-by}
use Rattle.order_laws.proofs.Moves.Lose.{IsNodeReady, lose-hand}
use Rattle.order_laws.proofs.Moves.RowTime.{RowTime}
use Rattle.order_laws.proofs.Moves.Hands.{Has, MoveAt, Hands, downs-left, replies-left}

module _ (x : ℕ) (w : Where) (p q : DirValue) (ns : List Node) (time : RowTime w p q) (erased : Option (List ℕ)) (was : erased_at x w p ≡ erased) (none : erased_at x w q ≡ None) (on : IfSome erased (GoesOn (moment_in w q))) where
  -- what is known of a child that is told
  pub record MayLose (H : ℕ → Type 0) (i : ℕ) (m : Node) : Type 0 where
    pub ready : IsNodeReady x (where_path w) (moment_in w p) (stamp_of q) erased H on (record { above = where_path w; number = i; present = stamp_of p }) m
    pub no_reply : words_of_item x (child_replies (child_lose x (stamp_of q) m)) ≡ []

  module _ (g : ℕ → Node → Node) where
    abbrev ms : List Node
    ms = map_from g 0 ns

    abbrev Move : CopyAt → CopyAt → Type 0
    Move = MoveAt x w p q ns ms

    abbrev From : List CopyAt → ℕ → Node → Node → Type 0
    From all i n m = KidFrom Move (cut erased) (cut None) all x (where_path w) (bound_at w p) (bound_at w q) p q i n m

    lost-from : (all : List CopyAt) (i : ℕ) (n : Node) → MayLose (Has x ns ms) i n → From all i n (child_lose x (stamp_of q) n)
    lost-from all i n may sub = AllFrom-more Move (map (cut erased) (hand x (where_path w) (bound_at w p) (stamp_of p) i n)) all _ sub (lose-hand x (where_path w) (moment_in w p) (stamp_of q) erased (Has x ns ms) on (bound_at w p) (bound_at w q) i (stamp_of p) n may.ready may.no_reply)

    lose-all : (parked : (all : List CopyAt) → Sub (map (cut erased) (copies_here (where_path w) (bound_at w p) (words_of_item x p.parked))) all → AllFrom Move all (map (cut None) (copies_here (where_path w) (bound_at w q) (words_of_item x q.parked)))) → Sub (downs_at x w q) (downs_at x w p) → words_of_item x q.replies ≡ words_of_item x p.replies → ((all : List CopyAt) (i : ℕ) → i < length ns → From all i (child_at i ns) (g i (child_at i ns))) → Hands x w p ns q ms
    lose-all parked down replies kids b is =
        let all : List CopyAt = hand_of x w b p (nodes ns) in
        let each : (i : ℕ) → i < length ns → From all (0 + i) (child_at i ns) (child_at i ms) = λ i l. subst (λ j. From all j (child_at i ns) (child_at i ms)) (from_zero i) (subst (λ m. From all i (child_at i ns) m) (sym (child_at-map_from g i ns l)) (kids all i l)) in
        let before : Sub (map (cut erased) (handed x (where_path w) (bound_at w p) p 0 (nodes ns))) all = subst (λ o. Sub (map (cut o) (handed x (where_path w) (bound_at w p) p 0 (nodes ns))) all) was (kids-sub x w b p q ns (Has x ns ms)) in
        let parked_before : Sub (map (cut erased) (copies_here (where_path w) (bound_at w p) (words_of_item x p.parked))) all = subst (λ o. Sub (map (cut o) (copies_here (where_path w) (bound_at w p) (words_of_item x p.parked))) all) was (parked-sub x w b p q ns (Has x ns ms)) in
        let below = handed-from Move (cut erased) (cut None) all x (where_path w) (bound_at w p) (bound_at w q) p q 0 ns ms (map_from-length g 0 ns) each before in
        hand-from x w b p q ns (Has x ns ms) ms (subst (λ o. AllFrom Move all (map (cut o) (handed x (where_path w) (bound_at w q) q 0 (nodes ms)))) (sym none) below) (subst (λ o. AllFrom Move all (map (cut o) (copies_here (where_path w) (bound_at w q) (words_of_item x q.parked)))) (sym none) (parked all parked_before)) (downs-left x w p q ns ms time down b) (replies-left x w p q ns ms time replies b is)

  -- an erase that came down: all children, and nothing is left in parking
  pub erase-hands : words_of_item x q.parked ≡ [] → Sub (downs_at x w q) (downs_at x w p) → words_of_item x q.replies ≡ words_of_item x p.replies → ((i : ℕ) → i < length ns → MayLose (Has x ns (map_from (loses x (stamp_of q)) 0 ns)) i (child_at i ns)) → Hands x w p ns q (map_from (loses x (stamp_of q)) 0 ns)
  erase-hands parked down replies may =
      let g : ℕ → Node → Node = loses x (stamp_of q) in
      lose-all g (λ all sub. rw parked tt) down replies (λ all i l. lost-from g all i (child_at i ns) (may i l))

module _ (x : ℕ) (w : Where) (p q : DirValue) (ns : List Node) (time : RowTime w p q) (was : erased_at x w p ≡ None) (none : erased_at x w q ≡ None) where
  -- an erase that child c asked for: all other children
  pub asked-hands : (c : ℕ) → words_of_item x q.parked ≡ words_of_item x p.parked → Sub (downs_at x w q) (downs_at x w p) → words_of_item x q.replies ≡ words_of_item x p.replies → ((i : ℕ) → i < length ns → nat_eq i c ≡ false → MayLose x w p q ns time None was none tt (Has x ns (map_from (erased_by c x (stamp_of q)) 0 ns)) i (child_at i ns)) → Hands x w p ns q (map_from (erased_by c x (stamp_of q)) 0 ns)
  asked-hands c parked down replies may = lose-all x w p q ns time None was none tt g parked-from down replies (λ all i l. if-by (From x w p q ns time None was none tt g all i (child_at i ns)) (nat_eq i c) (child_request_taken (child_at i ns)) (child_lose x (stamp_of q) (child_at i ns)) (λ asks sub. asked all i sub) (λ other. lost-from x w p q ns time None was none tt g all i (child_at i ns) (may i l other))) where
    g : ℕ → Node → Node
    g = erased_by c x (stamp_of q)

    M : CopyAt → CopyAt → Type 0
    M = MoveAt x w p q ns (map_from (erased_by c x (stamp_of q)) 0 ns)

    H : ℕ → Type 0
    H = Has x ns (map_from (erased_by c x (stamp_of q)) 0 ns)

    asked : (all : List CopyAt) (i : ℕ) → Sub (map (cut None) (hand x (where_path w) (bound_at w p) (stamp_of p) i (child_at i ns))) all → AllFrom M all (map (cut None) (hand x (where_path w) (bound_at w q) (stamp_of q) i (child_request_taken (child_at i ns))))
    asked all i sub = cut-from x (where_path w) (bound_at w p) (bound_at w q) (stamp_of p) (stamp_of q) H time.time.next None tt all (hand x (where_path w) (bound_at w p) (stamp_of p) i (child_at i ns)) (hand x (where_path w) (bound_at w q) (stamp_of q) i (child_request_taken (child_at i ns))) (fewer-hand x (where_path w) (bound_at w p) (bound_at w q) (stamp_of p) (stamp_of q) H time.time.next i (child_at i ns) (child_request_taken (child_at i ns)) (request-fewer x (child_at i ns))) sub

    parked-from : (all : List CopyAt) → Sub (map (cut None) (copies_here (where_path w) (bound_at w p) (words_of_item x p.parked))) all → AllFrom M all (map (cut None) (copies_here (where_path w) (bound_at w q) (words_of_item x q.parked)))
    parked-from all sub = cut-from x (where_path w) (bound_at w p) (bound_at w q) (stamp_of p) (stamp_of q) H time.time.next None tt all (copies_here (where_path w) (bound_at w p) (words_of_item x p.parked)) (copies_here (where_path w) (bound_at w q) (words_of_item x q.parked)) (subst (λ ws. AllFrom M (copies_here (where_path w) (bound_at w p) (words_of_item x p.parked)) (copies_here (where_path w) (bound_at w q) ws)) (sym parked) (here-risen (where_path w) (bound_at w p) (bound_at w q) (moment_in w p) (moment_in w q) H (where_path w) (bound_at w p) (bound_at w q) time.time.next.bound_rises (words_of_item x p.parked))) sub
