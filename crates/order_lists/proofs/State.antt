-- What the rules of time and of commands say of a machine's directories and copies: the joint of the lemmas on one state.
use Rattle.std.proofs.Common.{◌≡◌, ℕ, ◌+◌, ◌*◌, ◌≤◌, true, List, [], ◌∷◌, length, refl, ap, subst, ◌∙◌, arith}
use Rattle.std.specs.List.{AllByRecursion}
use Rattle.std.proofs.lemmas.List.{length-append}
use Rattle.order_lists.specs.DdmTypes.declared.operations.Op.{Op}
use Rattle.order_lists.specs.TreeModel.State.Values.{MachineValue}
use Rattle.order_lists.specs.TreeModel.State.Shape.{depth_of, IsShaped}
use Rattle.order_lists.specs.TreeModel.State.Leaf.{words_of_item}
use Rattle.tree_rules.specs.Statements.{Holds, each, each_pair}
use Rattle.tree_rules.specs.Order.Moments.{less, is_under, key_path, GoesOn}
use Rattle.tree_rules.specs.Order.Ops.{op_key, op_path}
use Rattle.tree_rules.specs.Order.Places.{LeafAt, leaf_path, leaf_now, leaves_at, DirAt, dir_path, taken_moment, dirs_at}
use Rattle.tree_rules.specs.Order.Copies.{handed, copies_here, copies_of}
use Rattle.tree_rules.specs.Order.Time.{is_leaf_of, has_leaf_path, is_before_now, may_stand_behind, lies_between, takes_past}
use Rattle.tree_rules.specs.Order.Core.{is_past_taken}
use Rattle.tree_rules.specs.Order.Rules.{IsTimed, ops_of_leaves, keys_have_paths, keys_are_past, taken_is_past, stamps_between, stamps_rise}
use Rattle.tree_rules.proofs.Statements.{each-facts}
use Rattle.order_lists.specs.Commands.{CommandsArePastTaken}
use Rattle.order_lists.proofs.Filters.{each-both, each-append, any-each}
use Rattle.order_lists.proofs.Moments.{GoesOn-less_than, same_numbers-true}
use Rattle.order_lists.proofs.Stamps.{moment_at-length}
use Rattle.order_lists.proofs.Levels.{all_levelled, all_at_depth}
use Rattle.order_lists.proofs.Clocks.{IsClocked, shallow}
use Rattle.order_lists.proofs.Paths.{under-length}
use Rattle.order_lists.proofs.Known.{IsKnownAt, placed_known}
use Rattle.order_lists.proofs.Queues.{IsOrdered}
use Rattle.order_lists.proofs.Ends.{IsTimely, handed-timely, here-timely}
use Rattle.order_lists.proofs.Late.{OpsKnownAt, IsLate, IsPrepared, handed-late, here-late}

-- ---- directories by themselves

pub all_clocked : (m : MachineValue) → IsShaped m → IsTimed m → AllByRecursion IsClocked (dirs_at m)
all_clocked m shaped timed = each-both _ _ _ (λ c l t. record { level = l.level; deep = l.deep; taken = t }) (dirs_at m) (all_levelled m shaped) (each-facts takes_past (dirs_at m) (timed.each taken_is_past))

abbrev RisesAndIsPast : DirAt → Type 0
RisesAndIsPast c = Holds (each_pair (may_stand_behind c) c.dir.down) × Holds (each (is_past_taken c) c.dir.down)

abbrev IsInRule : DirAt → Type 0
IsInRule c = Holds (each (lies_between c) c.dir.down) × RisesAndIsPast c

ordered_by : (c : DirAt) → IsClocked c → IsInRule c → IsOrdered c
ordered_by c k r = record { clocked = k; between = each-facts (lies_between c) c.dir.down r.0; rises = r.1.0; past_taken = each-facts (is_past_taken c) c.dir.down r.1.1 }

pub all_ordered : (m : MachineValue) → IsShaped m → IsTimed m → CommandsArePastTaken m → AllByRecursion IsOrdered (dirs_at m)
all_ordered m shaped timed past =
    each-both _ _ _ ordered_by (dirs_at m) (all_clocked m shaped timed)
    (each-both _ _ IsInRule (λ c a b. (a, b)) (dirs_at m) (each-facts _ (dirs_at m) (timed.each stamps_between)) (each-both _ _ RisesAndIsPast (λ c a b. (a, b)) (dirs_at m) (each-facts _ (dirs_at m) (timed.each stamps_rise)) (each-facts _ (dirs_at m) past)))

-- ---- operations don't run ahead

key_path-length : (k : List ℕ) → 2 * length (key_path k) ≤ length k
key_path-length [] = omega arith
key_path-length (s ∷ []) = omega arith
key_path-length (s ∷ c ∷ k) = let r : 2 * length (key_path k) ≤ length k = key_path-length k in omega (arith, r)

-- what the rules of keys say of an operation and a leaf of its hart
pub record IsOwnKey (depth : ℕ) (o : Op) (a : LeafAt) : Type 0 where
  pub path : op_path depth o ≡ leaf_path a
  pub before : less (op_key depth o) (leaf_now a) ≡ true

pub IsOwnKey-from_rules : (depth : ℕ) (o : Op) (a : LeafAt) → Holds (has_leaf_path depth o a) → Holds (is_before_now depth o a) → is_leaf_of o a ≡ true → IsOwnKey depth o a
IsOwnKey-from_rules depth o a path now at = record { path = same_numbers-true (op_path depth o) (leaf_path a) (path at); before = now at }

known_op : (depth : ℕ) (c : DirAt) (a : LeafAt) (o : Op) → length (taken_moment c) ≤ 2 * length (dir_path c) → IsKnownAt c a → IsOwnKey depth o a → is_under (dir_path c) (op_path depth o) ≡ true → GoesOn (op_key depth o) (taken_moment c)
known_op depth c a o short known own u =
    let under : is_under (dir_path c) (leaf_path a) ≡ true = subst (λ p. is_under (dir_path c) p ≡ true) own.path u in
    let long : length (dir_path c) ≤ length (op_path depth o) = under-length (dir_path c) (op_path depth o) u in
    GoesOn-less_than (op_key depth o) (leaf_now a) (taken_moment c) own.before (known under) (omega (arith, long, short, key_path-length (op_key depth o)))

module _ (m : MachineValue) (shaped : IsShaped m) (timed : IsTimed m) where
  leaves_are_known : AllByRecursion (λ c. AllByRecursion (IsKnownAt c) (leaves_at m)) (dirs_at m)
  unfolding dirs_at leaves_at
  leaves_are_known = placed_known [] m.top 0 m.kids (all_clocked m shaped timed)

  -- of each operation, the leaf of its hart
  pub own_keys : AllByRecursion (λ o. AllByRecursion (λ a. is_leaf_of o a ≡ true → IsOwnKey (depth_of m) o a) (leaves_at m)) m.ops
  own_keys =
      each-both _ _ _ (λ o p n. each-both _ _ _ (λ a i j at. IsOwnKey-from_rules (depth_of m) o a i j at) (leaves_at m) (each-facts (has_leaf_path (depth_of m) o) (leaves_at m) p) (each-facts (is_before_now (depth_of m) o) (leaves_at m) n)) m.ops
      (each-facts _ m.ops (timed.each keys_have_paths)) (each-facts _ m.ops (timed.each keys_are_past))

  -- its path is as long as the tree is deep
  pub ops_at_depth : AllByRecursion (λ o. length (op_path (depth_of m) o) ≡ depth_of m) m.ops
  ops_at_depth = each-both _ _ _ (λ o has own. any-each (is_leaf_of o) (length (op_path (depth_of m) o) ≡ depth_of m) (leaves_at m) has (each-both _ _ _ (λ a i j at. ap length (i at).path ∙ j) (leaves_at m) own (all_at_depth m shaped))) m.ops (each-facts _ m.ops (timed.each ops_of_leaves)) own_keys

  known_at : (c : DirAt) → IsClocked c → AllByRecursion (IsKnownAt c) (leaves_at m) → OpsKnownAt (depth_of m) m.ops c
  known_at c k known = each-both _ _ _ (λ o has own u. any-each (is_leaf_of o) (GoesOn (op_key (depth_of m) o) (taken_moment c)) (leaves_at m) has (each-both _ _ _ (λ a i j at. known_op (depth_of m) c a o short j (i at) u) (leaves_at m) own known)) m.ops (each-facts _ m.ops (timed.each ops_of_leaves)) own_keys where
    short : length (taken_moment c) ≤ 2 * length (dir_path c)
    short = let n : length (dir_path c) ≡ length c.spot.above + 1 = length-append c.spot.above (c.spot.number ∷ []) in let l : length (taken_moment c) ≡ 2 * length c.spot.above + 1 = moment_at-length c.spot.above c.dir.epoch (shallow c.spot k.deep) in omega (arith, l, n)

  -- an operation under a directory is no further than what the directory's bus took over
  pub ops_are_known : AllByRecursion (OpsKnownAt (depth_of m) m.ops) (dirs_at m)
  ops_are_known = each-both _ _ _ (λ c k known. known_at c k known) (dirs_at m) (all_clocked m shaped timed) leaves_are_known

  module _ (past : CommandsArePastTaken m) where
    -- every directory is prepared
    pub all_prepared : AllByRecursion (IsPrepared (depth_of m) m.ops) (dirs_at m)
    all_prepared = each-both _ _ _ (λ c o k. record { ordered = o; known = k }) (dirs_at m) (all_ordered m shaped timed past) ops_are_known

    -- ---- copies

    goes_on_none : (f : List ℕ) → GoesOn f []
    goes_on_none f = record { longer = omega arith; at_most = refl }

    -- an end comes after the clock of its copy
    pub copies_timely : (x : ℕ) → AllByRecursion (IsTimely []) (copies_of x m)
    unfolding copies_of dirs_at
    copies_timely x =
        each-append (IsTimely []) (handed x [] [] m.top 0 m.kids) (copies_here [] [] (words_of_item x m.top.parked)) (handed-timely x [] [] m.top 0 m.kids (λ f g. goes_on_none f) (all_ordered m shaped timed past))
        (here-timely [] [] (words_of_item x m.top.parked))

    -- and after each operation under the directory that it stands in
    pub copies_late : (x : ℕ) → AllByRecursion (IsLate (depth_of m) m.ops []) (copies_of x m)
    unfolding copies_of dirs_at
    copies_late x =
        each-append (IsLate (depth_of m) m.ops []) (handed x [] [] m.top 0 m.kids) (copies_here [] [] (words_of_item x m.top.parked)) (handed-late (depth_of m) m.ops x [] [] m.top 0 m.kids all_prepared)
        (here-late (depth_of m) m.ops [] [] (words_of_item x m.top.parked))
