-- What a bus doesn't see of its child: it reads nothing of it, and what it makes of the child goes with a change of it.
-- Letters: n is a child, v a leaf, d a directory over the children ns, x is an item, s a stamp.
use Rattle.std.proofs.Common.{◌≡◌, ℕ, Bool, true, false, List, Option, None, refl}
use Rattle.std.specs.Prelude.{nat_eq, if◌then◌else◌}
use Rattle.time_laws.specs.DdmTypes.declared.answers.TxKind.{TxKind}
use Rattle.time_laws.specs.DdmTypes.declared.answers.TxKind.TheVariants.{ReadTx, DataTx, EraseTx, ExclusiveTx, InjectTx, OutTx}
use Rattle.time_laws.specs.DdmTypes.declared.keys.Stamp.{Stamp}
use Rattle.time_laws.specs.FlatModel.Hart.{HartValue}
use Rattle.tree_model.specs.State.Values.{Node, Nodes, leaf_node, dir_node}
use Rattle.tree_model.specs.State.Leaf.{leaf_hold, leaf_room, leaf_lose, leaf_take_data, leaf_take_exclusive, leaf_answer, leaf_take_inject, unreserved}
use Rattle.tree_model.specs.State.Child.{child_full_for, child_lose, child_take_data, child_take_exclusive, child_answer, child_take_inject, child_request_taken, child_reply_taken, child_give_up}
use Rattle.tree_model.specs.Turns.Children.{only}
use Rattle.time_laws.specs.Forget.{forget_node}
use Rattle.time_laws.specs.Blind.{SeenAlike, Unseen, with_inside}
use Rattle.time_laws.proofs.Related.{alike-itself}

-- a reservation that has ended ends no more
unreserved-ended : (ends : Bool) (x : ℕ) (r : Option ℕ) → (if ends then None else unreserved x r) ≡ unreserved x (if ends then None else r)
unreserved-ended true x r = refl
unreserved-ended false x r = refl

module _ (hart : HartValue) (done : ℕ) (ends : Bool) (below : Nodes → Nodes) where
  abbrev changed : Node → Node
  changed n = with_inside hart done ends below n

  full-inside : (kind : TxKind) (x : ℕ) (n : Node) → child_full_for kind x n ≡ child_full_for kind x (changed n)
  full-inside ReadTx x (leaf_node v) = refl
  full-inside DataTx x (leaf_node v) = refl
  full-inside EraseTx x (leaf_node v) = refl
  full-inside ExclusiveTx x (leaf_node v) = refl
  full-inside InjectTx x (leaf_node v) = refl
  full-inside OutTx x (leaf_node v) = refl
  full-inside kind x (dir_node d ns) = refl

  seen-inside : (n : Node) → SeenAlike n (changed n)
  unfolding leaf_hold leaf_room
  seen-inside (leaf_node v) = record {
    hold = λ x. refl;
    waits = λ x. refl;
    room = λ x. refl;
    reader_place = λ x. refl;
    full = λ kind x. full-inside kind x (leaf_node v);
    request = refl;
    reply = refl;
    leaving = λ choice. refl;
    below = λ x. refl;
    given = λ x. refl;
  }
  seen-inside (dir_node d ns) = record {
    hold = λ x. refl;
    waits = λ x. refl;
    room = λ x. refl;
    reader_place = λ x. refl;
    full = λ kind x. refl;
    request = refl;
    reply = refl;
    leaving = λ choice. refl;
    below = λ x. refl;
    given = λ x. refl;
  }

  lose-inside : (x : ℕ) (s : Stamp) (n : Node) → forget_node (changed (child_lose x s n)) ≡ forget_node (child_lose x s (changed n))
  unfolding leaf_lose
  lose-inside x s (leaf_node v) = rw (unreserved-ended ends x v.reservation) refl
  lose-inside x s (dir_node d ns) = refl

  take_data-inside : (x : ℕ) (words : List ℕ) (s : Stamp) (n : Node) → forget_node (changed (child_take_data x words s n)) ≡ forget_node (child_take_data x words s (changed n))
  unfolding leaf_take_data
  take_data-inside x words s (leaf_node v) = refl
  take_data-inside x words s (dir_node d ns) = refl

  take_exclusive-inside : (x : ℕ) (s : Stamp) (n : Node) → forget_node (changed (child_take_exclusive x s n)) ≡ forget_node (child_take_exclusive x s (changed n))
  unfolding leaf_take_exclusive
  take_exclusive-inside x s (leaf_node v) = refl
  take_exclusive-inside x s (dir_node d ns) = refl

  answer-inside : (x : ℕ) (s : Stamp) (n : Node) → forget_node (changed (child_answer x s n)) ≡ forget_node (child_answer x s (changed n))
  unfolding leaf_answer
  answer-inside x s (leaf_node v) = refl
  answer-inside x s (dir_node d ns) = refl

  take_inject-inside : (x : ℕ) (words : List ℕ) (s : Stamp) (n : Node) → forget_node (changed (child_take_inject x words s n)) ≡ forget_node (child_take_inject x words s (changed n))
  unfolding leaf_take_inject
  take_inject-inside x words s (leaf_node v) = refl
  take_inject-inside x words s (dir_node d ns) = refl

  request_taken-inside : (n : Node) → forget_node (changed (child_request_taken n)) ≡ forget_node (child_request_taken (changed n))
  request_taken-inside (leaf_node v) = refl
  request_taken-inside (dir_node d ns) = refl

  reply_taken-inside : (n : Node) → forget_node (changed (child_reply_taken n)) ≡ forget_node (child_reply_taken (changed n))
  reply_taken-inside (leaf_node v) = refl
  reply_taken-inside (dir_node d ns) = refl

  give_up-inside : (x : ℕ) (n : Node) → forget_node (changed (child_give_up x n)) ≡ forget_node (child_give_up x (changed n))
  give_up-inside x (leaf_node v) = rw (unreserved-ended ends x v.reservation) refl
  give_up-inside x (dir_node d ns) = refl

  -- ---- of one child

  seen-if : (b : Bool) (n : Node) → SeenAlike n (if b then changed n else n)
  seen-if true n = seen-inside n
  seen-if false n = alike-itself n

  goes-if : (told : Node → Node) → ((n : Node) → forget_node (changed (told n)) ≡ forget_node (told (changed n))) → (b : Bool) (n : Node) → forget_node (if b then changed (told n) else told n) ≡ forget_node (told (if b then changed n else n))
  goes-if told goes true n = goes n
  goes-if told goes false n = refl

pub inside-unseen : (child : ℕ) (hart : HartValue) (done : ℕ) (ends : Bool) (below : Nodes → Nodes) → Unseen (only child (with_inside hart done ends below))
inside-unseen child hart done ends below = record {
  seen = λ i n. seen-if hart done ends below (nat_eq i child) n;
  lose = λ x s i n. goes-if hart done ends below (child_lose x s) (lose-inside hart done ends below x s) (nat_eq i child) n;
  take_data = λ x words s i n. goes-if hart done ends below (child_take_data x words s) (take_data-inside hart done ends below x words s) (nat_eq i child) n;
  take_exclusive = λ x s i n. goes-if hart done ends below (child_take_exclusive x s) (take_exclusive-inside hart done ends below x s) (nat_eq i child) n;
  answer = λ x s i n. goes-if hart done ends below (child_answer x s) (answer-inside hart done ends below x s) (nat_eq i child) n;
  take_inject = λ x words s i n. goes-if hart done ends below (child_take_inject x words s) (take_inject-inside hart done ends below x words s) (nat_eq i child) n;
  request_taken = λ i n. goes-if hart done ends below child_request_taken (request_taken-inside hart done ends below) (nat_eq i child) n;
  reply_taken = λ i n. goes-if hart done ends below child_reply_taken (reply_taken-inside hart done ends below) (nat_eq i child) n;
  give_up = λ x i n. goes-if hart done ends below (child_give_up x) (give_up-inside hart done ends below x) (nat_eq i child) n;
}
