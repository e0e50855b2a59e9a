-- Rows of a bus's turn that tell no child a copy: a read that joins, goes up, or is answered by a child, an exclusive that comes
-- down, and a copy that is dropped.
use Rattle.std.proofs.Common.{◌≡◌, ℕ, Bool, true, false, List, [], ◌∷◌, refl, sym, ap, subst, ◌∙◌, inr}
use Rattle.std.specs.Prelude.{nat_eq, if◌then◌else◌}
use Rattle.order_laws.specs.DdmTypes.declared.answers.TxKind.TheVariants.{EraseTx}
use Rattle.order_laws.specs.DdmTypes.declared.keys.Stamp.{Stamp}
use Rattle.order_laws.specs.TreeModel.State.Kinds.{is_kind, brings_copy}
use Rattle.order_laws.specs.TreeModel.State.Lists.{map_from}
use Rattle.order_laws.specs.TreeModel.State.Values.{DownValue, DirValue, Node}
use Rattle.order_laws.specs.TreeModel.State.Leaf.{words_of_item}
use Rattle.order_laws.specs.TreeModel.State.Directory.{queue_of}
use Rattle.order_laws.specs.TreeModel.State.Child.{child_take_exclusive, child_answer, child_give_up, child_request_taken}
use Rattle.order_laws.specs.TreeModel.State.Place.{Spot, Where, at_top, at_child, spot_path}
use Rattle.order_laws.specs.TreeModel.Turns.Children.{child_at, only, read_from}
use Rattle.order_laws.proofs.TreeModel.Children.{map_from-length}
use Rattle.order_laws.specs.TreeRules.Order.Copies.{CopyAt, first_erase, downs}
use Rattle.order_laws.specs.Moves.Moved.{In}
use Rattle.order_laws.specs.Moves.Parent.{erased_at, downs_at}
use Rattle.order_laws.proofs.Moves.Sources.{Sub}
use Rattle.order_laws.proofs.Moves.Child.{words-same}
use Rattle.order_laws.proofs.Moves.Inside.{queue-front}
use Rattle.order_laws.proofs.Moves.Calls.{request-fewer, same-fewer, exclusive-fewer, answer-asked, gone-fewer}
use Rattle.order_laws.proofs.Moves.Bus.{KidMoves, kid_fewer, kid_asked}
use Rattle.order_laws.proofs.Moves.Beside.{only-fewer, beside-all}
use Rattle.order_laws.proofs.Moves.RowTime.{RowTime}
use Rattle.order_laws.proofs.Moves.Hands.{Has, Hands, kids-by, served-hands, beside-hands}

-- ---- the first entry of a down list is taken, and it is no erase

module _ (w : Where) (p q : DirValue) (e : DownValue) (rest : List DownValue) (front : p.down ≡ e ∷ rest) (down : q.down ≡ rest) where
  pub queue-is : queue_of e.item p.down ≡ e ∷ queue_of e.item q.down
  queue-is = ap (queue_of e.item) front ∙ queue-front e rest ∙ ap (λ l. e ∷ queue_of e.item l) (sym down)

  pub erased-taken : is_kind EraseTx e.kind ≡ false → erased_at e.item w q ≡ erased_at e.item w p
  erased-taken other = by w where
    by : (w : Where) → erased_at e.item w q ≡ erased_at e.item w p
    by at_top = refl
    by (at_child c) = sym (ap (first_erase c.above) queue-is ∙ rw other refl)

  pub downs-taken : Sub (downs_at e.item w q) (downs_at e.item w p)
  downs-taken = by w where
    more : (c : Spot) (b : Bool) → brings_copy e.kind ≡ b → (k : CopyAt) → In k (downs (spot_path c) c.above (queue_of e.item q.down)) → In k (downs (spot_path c) c.above (e ∷ queue_of e.item q.down))
    more c true is k h = rw is (inr h)
    more c false is k h = rw is h

    by : (w : Where) → Sub (downs_at e.item w q) (downs_at e.item w p)
    by at_top k h = h
    by (at_child c) k h = subst (λ l. In k (downs (spot_path c) c.above l)) (sym queue-is) (more c (brings_copy e.kind) refl k h)

-- ---- the rows

module _ (x : ℕ) (w : Where) (p q : DirValue) (ns : List Node) where
  -- nothing but requests
  pub request-hands : queue_of x q.down ≡ queue_of x p.down → words_of_item x q.parked ≡ words_of_item x p.parked → words_of_item x q.replies ≡ words_of_item x p.replies → RowTime w p q → (c : ℕ) → Hands x w p ns q (map_from (only c child_request_taken) 0 ns)
  request-hands queue parked replies time c = beside-hands x w p q ns (map_from (only c child_request_taken) 0 ns) time (beside-all x p q ns queue parked replies (only c child_request_taken) (only-fewer x c child_request_taken (request-fewer x)))

  -- a copy is dropped
  pub dropped-hands : queue_of x q.down ≡ queue_of x p.down → words_of_item x q.parked ≡ words_of_item x p.parked → words_of_item x q.replies ≡ words_of_item x p.replies → RowTime w p q → (c : ℕ) → Hands x w p ns q (map_from (only c (child_give_up x)) 0 ns)
  dropped-hands queue parked replies time c = beside-hands x w p q ns (map_from (only c (child_give_up x)) 0 ns) time (beside-all x p q ns queue parked replies (only c (child_give_up x)) (only-fewer x c (child_give_up x) (gone-fewer x)))

  -- a child is told to answer
  module _ (erased : erased_at x w q ≡ erased_at x w p) (down : Sub (downs_at x w q) (downs_at x w p)) (parked : words_of_item x q.parked ≡ words_of_item x p.parked) (replies : words_of_item x q.replies ≡ words_of_item x p.replies) (time : RowTime w p q) where
    all-hands : (g : ℕ → Node → Node) → ((b : List ℕ) (i : ℕ) → KidMoves x w b p q ns (Has x ns (map_from g 0 ns)) [] i (child_at i ns) (g i (child_at i ns))) → Hands x w p ns q (map_from g 0 ns)
    all-hands g h = served-hands x w p q ns (map_from g 0 ns) time [] (λ b. tt) (λ b. record { erased = erased; many = map_from-length g 0 ns; kids = kids-by x w p q ns (map_from g 0 ns) b [] g (λ i l. h b i); parked = words-same _ _ parked }) down replies

    pub read_from-hands : (c k : ℕ) (s : Stamp) → Hands x w p ns q (map_from (read_from c k x s) 0 ns)
    read_from-hands c k s = all-hands (read_from c k x s) (λ b i. told b i (nat_eq i c) (nat_eq i k) (child_at i ns)) where
      told : (b : List ℕ) (i : ℕ) (asks answers : Bool) (n : Node) → KidMoves x w b p q ns (Has x ns (map_from (read_from c k x s) 0 ns)) [] i n (if asks then child_request_taken n else (if answers then child_answer x s n else n))
      told b i true answers n = kid_fewer (request-fewer x n)
      told b i false true n = kid_asked (answer-asked x s n)
      told b i false false n = kid_fewer (same-fewer x n)

    pub answer-hands : (k : ℕ) (s : Stamp) → Hands x w p ns q (map_from (only k (child_answer x s)) 0 ns)
    answer-hands k s = all-hands (only k (child_answer x s)) (λ b i. told b i (nat_eq i k) (child_at i ns)) where
      told : (b : List ℕ) (i : ℕ) (answers : Bool) (n : Node) → KidMoves x w b p q ns (Has x ns (map_from (only k (child_answer x s)) 0 ns)) [] i n (if answers then child_answer x s n else n)
      told b i true n = kid_asked (answer-asked x s n)
      told b i false n = kid_fewer (same-fewer x n)

    pub exclusive-hands : (d : ℕ) (s : Stamp) → Hands x w p ns q (map_from (only d (child_take_exclusive x s)) 0 ns)
    exclusive-hands d s = all-hands (only d (child_take_exclusive x s)) (λ b i. told b i (nat_eq i d) (child_at i ns)) where
      told : (b : List ℕ) (i : ℕ) (takes : Bool) (n : Node) → KidMoves x w b p q ns (Has x ns (map_from (only d (child_take_exclusive x s)) 0 ns)) [] i n (if takes then child_take_exclusive x s n else n)
      told b i true n = kid_fewer (exclusive-fewer x s n)
      told b i false n = kid_fewer (same-fewer x n)
