-- What is known of a child that was found.
use Rattle.std.proofs.Common.{◌≡◌, ℕ, ◌+◌, ◌<◌, Bool, true, false, List, [], ◌∷◌, length, Some, None, refl, arith}
use Rattle.std.specs.Prelude.{not, ◌&&◌, nat_eq, nat_lt}
use Rattle.std.proofs.lemmas.Bool.{ltb-true, ne_eqb}
use Rattle.split_bus.specs.DdmTypes.declared.answers.TxKind.TheVariants.{InjectTx}
use Rattle.split_bus.specs.DdmTypes.declared.answers.QueueName.{QueueName}
use Rattle.split_bus.specs.TreeModel.State.Lists.{find_from, first_some, some_if}
use Rattle.split_bus.specs.TreeModel.State.Values.{DirValue, Node, leaf_node, dir_node}
use Rattle.split_bus.specs.TreeModel.State.Blank.{no_node}
use Rattle.split_bus.specs.TreeModel.State.Directory.{dir_room, down_full, inject_has_place, is_top}
use Rattle.split_bus.specs.TreeModel.State.Child.{child_full_for, child_holds, child_room, child_waits, reader_has_place}
use Rattle.split_bus.specs.TreeModel.Turns.Children.{child_at, has_room, other_holds, other_waits, room_after, room_before, waits_with_room}
use Rattle.split_bus.specs.TreeModel.Turns.Leave.{leave_taker}
use Rattle.split_bus.proofs.TreeModel.Children.{found-passes, found-within}
use Rattle.split_bus.proofs.TreeModel.Tests.{and-first, and-second, first_some-either, not-true}

-- another holder is another child
pub other_holder-apart : (c x k : ℕ) (ns : List Node) → find_from (other_holds c x) 0 ns ≡ Some k → nat_eq k c ≡ false
other_holder-apart c x k ns found = not-true _ (and-first _ (child_holds x (child_at k ns)) (found-passes (other_holds c x) k ns no_node found))

-- ---- a child with room

none_if : {X : Type 0} (b : Bool) (y : X) → b ≡ false → some_if b y ≡ None
none_if b y fails = rw fails refl

pub room-hears : (x : ℕ) (n : Node) → child_room x n ≡ true → child_full_for InjectTx x n ≡ None
unfolding dir_room
room-hears x (leaf_node v) room = refl
room-hears x (dir_node d ns) room = none_if (down_full d) (QueueName.Down d.bus) (not-true _ (and-first _ (inject_has_place x d) room))

pub room-place : (x : ℕ) (n : Node) → child_room x n ≡ true → reader_has_place x n ≡ true
unfolding dir_room
room-place x (leaf_node v) room = refl
room-place x (dir_node d ns) room = and-second (not (down_full d)) _ room

-- who takes an inject where nobody reads has room
pub taker-room : (x : ℕ) (ns : List Node) (k : ℕ) → first_some (find_from (waits_with_room x) 0 ns) (find_from (has_room x) 0 ns) ≡ Some k → child_room x (child_at k ns) ≡ true
taker-room x ns k found =
    first_some-either (λ j. child_room x (child_at j ns) ≡ true) (find_from (waits_with_room x) 0 ns) (find_from (has_room x) 0 ns) (λ j e. and-second (child_waits x (child_at j ns)) _ (found-passes (waits_with_room x) j ns no_node e)) (λ j e. found-passes (has_room x) j ns no_node e) k found

-- who takes a copy that leaves child c is another child with room
pub record IsOtherRoom (c x k : ℕ) (ns : List Node) : Type 0 where
  pub apart : nat_eq k c ≡ false
  pub room : child_room x (child_at k ns) ≡ true
  pub within : k < length ns

module _ (c x : ℕ) (ns : List Node) where
  waiter-other : (k : ℕ) → find_from (other_waits c x) 0 ns ≡ Some k → IsOtherRoom c x k ns
  waiter-other k found =
      let passes = found-passes (other_waits c x) k ns no_node found in
      record {
        apart = not-true _ (and-first _ (child_waits x (child_at k ns) && child_room x (child_at k ns)) passes);
        room = and-second (child_waits x (child_at k ns)) _ (and-second (not (nat_eq k c)) _ passes);
        within = found-within (other_waits c x) k ns no_node found;
      }

  behind-other : (k : ℕ) → find_from (room_after c x) 0 ns ≡ Some k → IsOtherRoom c x k ns
  behind-other k found =
      let passes = found-passes (room_after c x) k ns no_node found in
      let behind : c < k = ltb-true c k (and-first _ (child_room x (child_at k ns)) passes) in
      record {
        apart = ne_eqb k c (λ same. omega arith);
        room = and-second (nat_lt c k) _ passes;
        within = found-within (room_after c x) k ns no_node found;
      }

  before-other : (top : Bool) (k : ℕ) → find_from (room_before top c x) 0 ns ≡ Some k → IsOtherRoom c x k ns
  before-other top k found =
      let passes = and-second top _ (found-passes (room_before top c x) k ns no_node found) in
      let before : k < c = ltb-true k c (and-first _ (child_room x (child_at k ns)) passes) in
      record {
        apart = ne_eqb k c (λ same. omega arith);
        room = and-second (nat_lt k c) _ passes;
        within = found-within (room_before top c x) k ns no_node found;
      }

  pub leave_taker-other : (p : DirValue) (k : ℕ) → leave_taker c x p ns ≡ Some k → IsOtherRoom c x k ns
  leave_taker-other p k found =
      first_some-either (λ j. IsOtherRoom c x j ns) (find_from (other_waits c x) 0 ns) (first_some (find_from (room_after c x) 0 ns) (find_from (room_before (is_top p) c x) 0 ns)) waiter-other (first_some-either (λ j. IsOtherRoom c x j ns) (find_from (room_after c x) 0 ns) (find_from (room_before (is_top p) c x) 0 ns) behind-other (before-other (is_top p))) k found

-- on a bus other than the top's none before child c takes it
pub none-before : (c x i : ℕ) (ns : List Node) → find_from (room_before false c x) i ns ≡ None
none-before c x i [] = refl
none-before c x i (n ∷ ns) = none-before c x (i + 1) ns
