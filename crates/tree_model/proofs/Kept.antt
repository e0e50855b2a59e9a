-- What a bus tells a child, or takes from it, leaves what no turn of its bus changes.
use Rattle.std.proofs.Common.{◌≡◌, ℕ, Bool, true, false, List, refl, ◌∙◌}
use Rattle.std.specs.Prelude.{nat_eq, if◌then◌else◌}
use Rattle.tree_model.specs.DdmTypes.declared.keys.Stamp.{Stamp}
use Rattle.tree_model.specs.State.Values.{Note, Node, leaf_node, dir_node}
use Rattle.tree_model.specs.State.Leaf.{leaf_lose, leaf_take_data, leaf_take_exclusive, leaf_answer, leaf_take_inject}
use Rattle.tree_model.specs.State.Directory.{is_reader, dir_lose, dir_take_data, dir_take_exclusive, dir_answer, dir_take_inject}
use Rattle.tree_model.specs.State.Child.{child_lose, child_take_data, child_take_exclusive, child_answer, child_take_inject, child_request_taken, child_reply_taken, child_give_up}
use Rattle.tree_model.specs.Turns.Children.{only, read_from, erased_by, loses, reader_takes, replied_by, passed_on}
use Rattle.tree_model.specs.Laws.{kept_of}

pub child_lose-kept : (x : ℕ) (s : Stamp) (n : Node) → kept_of (child_lose x s n) ≡ kept_of n
unfolding leaf_lose dir_lose
child_lose-kept x s (leaf_node v) = refl
child_lose-kept x s (dir_node d ns) = refl

pub child_take_data-kept : (x : ℕ) (words : List ℕ) (s : Stamp) (n : Node) → kept_of (child_take_data x words s n) ≡ kept_of n
unfolding leaf_take_data dir_take_data
child_take_data-kept x words s (leaf_node v) = refl
child_take_data-kept x words s (dir_node d ns) = refl

pub child_take_exclusive-kept : (x : ℕ) (s : Stamp) (n : Node) → kept_of (child_take_exclusive x s n) ≡ kept_of n
unfolding leaf_take_exclusive dir_take_exclusive
child_take_exclusive-kept x s (leaf_node v) = refl
child_take_exclusive-kept x s (dir_node d ns) = refl

pub child_answer-kept : (x : ℕ) (s : Stamp) (n : Node) → kept_of (child_answer x s n) ≡ kept_of n
unfolding leaf_answer dir_answer
child_answer-kept x s (leaf_node v) = refl
child_answer-kept x s (dir_node d ns) = refl

pub child_take_inject-kept : (x : ℕ) (words : List ℕ) (s : Stamp) (n : Node) → kept_of (child_take_inject x words s n) ≡ kept_of n
unfolding leaf_take_inject dir_take_inject
child_take_inject-kept x words s (leaf_node v) = refl
child_take_inject-kept x words s (dir_node d ns) = refl

pub child_request_taken-kept : (n : Node) → kept_of (child_request_taken n) ≡ kept_of n
child_request_taken-kept (leaf_node v) = refl
child_request_taken-kept (dir_node d ns) = refl

pub child_reply_taken-kept : (n : Node) → kept_of (child_reply_taken n) ≡ kept_of n
child_reply_taken-kept (leaf_node v) = refl
child_reply_taken-kept (dir_node d ns) = refl

pub child_give_up-kept : (x : ℕ) (n : Node) → kept_of (child_give_up x n) ≡ kept_of n
child_give_up-kept x (leaf_node v) = refl
child_give_up-kept x (dir_node d ns) = refl

-- ---- what each child is told, by its number

-- of two nodes with the same kept parts as a third, either has them
either-kept : (b : Bool) (m k n : Node) → kept_of m ≡ kept_of n → kept_of k ≡ kept_of n → kept_of (if◌then◌else◌ b m k) ≡ kept_of n
either-kept true m k n first second = first
either-kept false m k n first second = second

pub only-kept : (c : ℕ) (f : Node → Node) → ((n : Node) → kept_of (f n) ≡ kept_of n) → (i : ℕ) (n : Node) → kept_of (only c f i n) ≡ kept_of n
only-kept c f kept i n = either-kept (nat_eq i c) (f n) n n (kept n) refl

pub read_from-kept : (c k x : ℕ) (s : Stamp) (i : ℕ) (n : Node) → kept_of (read_from c k x s i n) ≡ kept_of n
read_from-kept c k x s i n = either-kept (nat_eq i c) (child_request_taken n) _ n (child_request_taken-kept n) (either-kept (nat_eq i k) (child_answer x s n) n n (child_answer-kept x s n) refl)

pub erased_by-kept : (c x : ℕ) (s : Stamp) (i : ℕ) (n : Node) → kept_of (erased_by c x s i n) ≡ kept_of n
erased_by-kept c x s i n = either-kept (nat_eq i c) (child_request_taken n) (child_lose x s n) n (child_request_taken-kept n) (child_lose-kept x s n)

pub loses-kept : (x : ℕ) (s : Stamp) (i : ℕ) (n : Node) → kept_of (loses x s i n) ≡ kept_of n
loses-kept x s i n = child_lose-kept x s n

pub reader_takes-kept : (note : Note) (x : ℕ) (words : List ℕ) (s : Stamp) (i : ℕ) (n : Node) → kept_of (reader_takes note x words s i n) ≡ kept_of n
reader_takes-kept note x words s i n = either-kept (is_reader note i) (child_take_data x words s n) n n (child_take_data-kept x words s n) refl

pub replied_by-kept : (c : ℕ) (note : Note) (x : ℕ) (words : List ℕ) (s : Stamp) (i : ℕ) (n : Node) → kept_of (replied_by c note x words s i n) ≡ kept_of n
replied_by-kept c note x words s i n = reader_takes-kept note x words s i (only c child_reply_taken i n) ∙ only-kept c child_reply_taken child_reply_taken-kept i n

pub passed_on-kept : (c k x : ℕ) (words : List ℕ) (s : Stamp) (i : ℕ) (n : Node) → kept_of (passed_on c k x words s i n) ≡ kept_of n
passed_on-kept c k x words s i n = either-kept (nat_eq i c) (child_give_up x n) _ n (child_give_up-kept x n) (either-kept (nat_eq i k) (child_take_inject x words s n) n n (child_take_inject-kept x words s n) refl)
