-- What the proofs of a bus's turn take of the lists of one state, said of a directory's clocks and order as the rules have them.
-- A directory of the rules is one of those lists: `of_clocked` and `of_ordered`.
use Rattle.std.proofs.Common.{◌≡◌, ℕ, ◌<◌, Bool, true, false, not, List, length, IfSome, None, refl, sym, ◌∙◌}
use Rattle.std.specs.List.{AllByRecursion, list_any}
use Rattle.std.proofs.lemmas.Bool.{true≢false}
use Rattle.order_laws.specs.DdmTypes.declared.operations.Op.{Op}
use Rattle.order_laws.specs.DdmTypes.ItemTable.{ItemTable}
use Rattle.order_laws.specs.FlatModel.Flat.{FlatMachine}
use Rattle.order_laws.specs.FlatModel.Legal.{changes_item}
use Rattle.order_laws.specs.TreeModel.State.Values.{DirValue, Node, Nodes, children, MachineValue}
use Rattle.order_laws.specs.TreeModel.State.States.{is_exclusive}
use Rattle.order_laws.specs.TreeModel.State.Directory.{dir_hold, queue_of, stamp_of}
use Rattle.order_laws.specs.TreeModel.State.Place.{Spot, spot_path}
use Rattle.order_laws.specs.TreeModel.State.Shape.{depth_of, IsShaped}
use Rattle.order_laws.specs.TreeRules.Statements.{Holds, test_of, each, each_pair}
use Rattle.order_laws.specs.TreeRules.Bus.Faces.{parent_face, faces_of}
use Rattle.order_laws.specs.TreeRules.Bus.Item.{holds_exclusive, one_holds, ItemRules}
use Rattle.order_laws.specs.TreeRules.Bus.Rules.{items_of_machine}
use Rattle.order_laws.specs.TreeRules.Order.Claims.{last_exclusive, first_claim}
use Rattle.order_laws.specs.TreeRules.Order.Copies.{CopyAt, first_erase, inner, copies_of}
use Rattle.order_laws.specs.TreeRules.Order.Core.{is_past_taken, ended_before}
use Rattle.order_laws.specs.TreeRules.Order.Directories.{IsClocked, IsOrdered}
use Rattle.order_laws.specs.TreeRules.Order.Moments.{less, moment_at, spot_moment, GoesOn}
use Rattle.order_laws.specs.TreeRules.Order.Ops.{op_key, op_path, words_where}
use Rattle.order_laws.specs.TreeRules.Order.Places.{LeafAt, leaf_path, leaf_now, leaves_at, DirAt, dirs_at, dirs_in, placed_dirs, placed_leaves}
use Rattle.order_laws.specs.TreeRules.Order.Rules.{IsTimed, IsCore, commands_past_taken, words_right, clocks_know, ops_of_leaves, keys_have_paths, keys_are_past, stamps_between, stamps_rise}
use Rattle.order_laws.specs.TreeRules.Order.Time.{lies_between, may_stand_behind, is_leaf_of, has_leaf, has_leaf_path, is_before_now}
use Rattle.order_laws.proofs.TreeRules.Statements.{each-facts, test-from_Holds, Holds-from_test}
use Rattle.order_lists.proofs.Filters.{each-both, each-weaker, any-each}
use Rattle.order_lists.proofs.Moments.{same_numbers-true}
use Rattle.order_lists.proofs.Clocks as clocks
pub use Rattle.order_lists.proofs.Clocks.{NowGoesOn}
use Rattle.order_lists.proofs.Queues as queues
pub use Rattle.order_lists.proofs.Queues.{erase_later, some_weaker, first_erase-each}
pub use Rattle.order_lists.proofs.Stamps.{same_length}
use Rattle.order_lists.proofs.Ends as ends
pub use Rattle.order_lists.proofs.Ends.{before_later, IsTimely}
use Rattle.order_lists.proofs.Late as lists_late
pub use Rattle.order_lists.proofs.Late.{IsLate}
use Rattle.order_lists.proofs.Holders as holders
use Rattle.order_lists.proofs.ExclusiveClaims as exclusive
use Rattle.order_lists.proofs.State as state
use Rattle.order_lists.proofs.CopyWords as words

-- ---- a directory

pub of_clocked : (c : DirAt) → IsClocked c → clocks.IsClocked c
of_clocked c k = record { level = k.level; deep = k.deep; taken = k.taken }

pub of_ordered : (c : DirAt) → IsOrdered c → queues.IsOrdered c
of_ordered c o = record { clocked = of_clocked c o.clocked; between = each-facts (lies_between c) c.dir.down o.clocked.between; rises = o.clocked.rises; past_taken = each-facts (is_past_taken c) c.dir.down o.past_taken }

all_clocked : (cs : List DirAt) → AllByRecursion IsClocked cs → AllByRecursion clocks.IsClocked cs
all_clocked cs h = each-weaker IsClocked clocks.IsClocked of_clocked cs h

all_ordered : (cs : List DirAt) → AllByRecursion IsOrdered cs → AllByRecursion queues.IsOrdered cs
all_ordered cs h = each-weaker IsOrdered queues.IsOrdered of_ordered cs h

module _ (c : Spot) (d : DirValue) (k : IsClocked (clocks.here c d)) where
  pub shallow : length c.above < 4
  shallow = clocks.shallow c k.deep

  pub below_goes_on : (f : List ℕ) → GoesOn f (moment_at (spot_path c) (stamp_of d)) → GoesOn f (moment_at c.above d.epoch) × GoesOn f (spot_moment c)
  below_goes_on f g = clocks.below_goes_on c d (of_clocked (clocks.here c d) k) f g

pub queue-late : (x : ℕ) (c : Spot) (d : DirValue) → IsOrdered (clocks.here c d) → IfSome (first_erase c.above (queue_of x d.down)) (λ e. (length e ≡ length (moment_at c.above d.epoch)) × (less (moment_at c.above d.epoch) e ≡ true))
queue-late x c d o = queues.queue-late x c d (of_ordered (clocks.here c d) o)

pub placed_go_on : (path : List ℕ) (d : DirValue) (i : ℕ) (ns : Nodes) → AllByRecursion IsClocked (placed_dirs path d i ns) → AllByRecursion (NowGoesOn (moment_at path (stamp_of d))) (placed_leaves path d i ns)
placed_go_on path d i ns h = clocks.placed_go_on path d i ns (all_clocked (placed_dirs path d i ns) h)

-- ---- copies, claims

pub inner-timely : (x : ℕ) (c : Spot) (n : Node) → AllByRecursion IsOrdered (dirs_in c n) → AllByRecursion (IsTimely (spot_moment c)) (inner x c n)
inner-timely x c n h = ends.inner-timely x c n (all_ordered (dirs_in c n) h)

-- a directory, and the operations under it
pub record IsPrepared (depth : ℕ) (ops : List Op) (c : DirAt) : Type 0 where
  pub ordered : IsOrdered c
  pub known : lists_late.OpsKnownAt depth ops c

pub inner-late : (depth : ℕ) (ops : List Op) (x : ℕ) (c : Spot) (n : Node) → AllByRecursion (IsPrepared depth ops) (dirs_in c n) → AllByRecursion (IsLate depth ops (spot_path c)) (inner x c n)
inner-late depth ops x c n h = lists_late.inner-late depth ops x c n (each-weaker (IsPrepared depth ops) (lists_late.IsPrepared depth ops) (λ e p. record { ordered = of_ordered e p.ordered; known = p.known }) (dirs_in c n) h)

pub first_claim_goes_on : (x : ℕ) (path bound : List ℕ) (d : DirValue) (i : ℕ) (ns : Nodes) → ((f : List ℕ) → GoesOn f (moment_at path (stamp_of d)) → GoesOn f bound) → AllByRecursion IsOrdered (placed_dirs path d i ns) → IfSome (first_claim x path d i ns) (λ t. GoesOn t bound)
first_claim_goes_on x path bound d i ns up h = holders.first_claim_goes_on x path bound d i ns up (all_ordered (placed_dirs path d i ns) h)

pub dir_above : (x : ℕ) (d : DirValue) (ns : Nodes) → ItemRules (parent_face x d) (faces_of x (children ns)) → list_any holds_exclusive (faces_of x (children ns)) ≡ true → (is_exclusive (dir_hold x d) ≡ true) × ((one_holds (faces_of x (children ns)) ≡ true) × ((above : List ℕ) → last_exclusive above (queue_of x d.down) ≡ None))
dir_above x d ns rules found = let over = exclusive.dir_above x d ns rules found in (over.hold, (over.one, over.no_exclusive))

-- ---- a machine

abbrev pub AreCommandsPast : MachineValue → Type 0
AreCommandsPast m = Holds (each (λ c. each (is_past_taken c) c.dir.down) (dirs_at m))

module _ (m : MachineValue) (shaped : IsShaped m) (timed : IsTimed m) where
  abbrev Between : DirAt → Type 0
  Between c = Holds (each (lies_between c) c.dir.down)

  abbrev Rises : DirAt → Type 0
  Rises c = Holds (each_pair (may_stand_behind c) c.dir.down)

  pub dirs_clocked : AllByRecursion IsClocked (dirs_at m)
  dirs_clocked =
      let between : AllByRecursion Between (dirs_at m) = each-facts (λ c. each (lies_between c) c.dir.down) (dirs_at m) (timed.each stamps_between) in
      let rises : AllByRecursion Rises (dirs_at m) = each-facts (λ c. each_pair (may_stand_behind c) c.dir.down) (dirs_at m) (timed.each stamps_rise) in
      each-both clocks.IsClocked (λ c. Between c × Rises c) IsClocked (λ c k r. record { level = k.level; deep = k.deep; taken = k.taken; between = r.0; rises = r.1 }) (dirs_at m) (state.all_clocked m shaped timed)
      (each-both Between Rises _ (λ c a b. (a, b)) (dirs_at m) between rises)

  pub dirs_ordered : AreCommandsPast m → AllByRecursion IsOrdered (dirs_at m)
  dirs_ordered past = each-both IsClocked (λ c. Holds (each (is_past_taken c) c.dir.down)) IsOrdered (λ c k p. record { clocked = k; past_taken = p }) (dirs_at m) dirs_clocked (each-facts (λ c. each (is_past_taken c) c.dir.down) (dirs_at m) past)

-- what is true of each operation of a leaf with this fact is true of every operation
pub ops-by_leaves : (m : MachineValue) → IsTimed m → (P : Op → Type 0) (Q : LeafAt → Type 0) → ((o : Op) (a : LeafAt) → op_path (depth_of m) o ≡ leaf_path a → less (op_key (depth_of m) o) (leaf_now a) ≡ true → Q a → P o) → AllByRecursion Q (leaves_at m) → AllByRecursion P m.ops
ops-by_leaves m timed P Q f q = each-both _ _ _ (λ o has own. any-each (is_leaf_of o) (P o) (leaves_at m) has own) m.ops (each-facts (has_leaf (leaves_at m)) m.ops (timed.each ops_of_leaves)) (each-both _ _ _ by_leaf m.ops (each-facts (λ o. each (has_leaf_path (depth_of m) o) (leaves_at m)) m.ops (timed.each keys_have_paths)) (each-facts (λ o. each (is_before_now (depth_of m) o) (leaves_at m)) m.ops (timed.each keys_are_past))) where
  by_leaf : (o : Op) → Holds (each (has_leaf_path (depth_of m) o) (leaves_at m)) → Holds (each (is_before_now (depth_of m) o) (leaves_at m)) → AllByRecursion (λ a. is_leaf_of o a ≡ true → P o) (leaves_at m)
  by_leaf o paths nows = each-both _ _ _ (λ a h q at. f o a (same_numbers-true (op_path (depth_of m) o) (leaf_path a) (h.0 at)) (h.1 at) q) (leaves_at m) (each-both (λ a. Holds (has_leaf_path (depth_of m) o a)) (λ a. Holds (is_before_now (depth_of m) o a)) (λ a. Holds (has_leaf_path (depth_of m) o a) × Holds (is_before_now (depth_of m) o a)) (λ a p n. (p, n)) (leaves_at m) (each-facts (has_leaf_path (depth_of m) o) (leaves_at m) paths) (each-facts (is_before_now (depth_of m) o) (leaves_at m) nows)) q

-- ---- words

-- a test that an operation passes just where the copy didn't end before it
abbrev pub SortsByEnd : ℕ → (Op → Bool) → CopyAt → Op → Type 0
SortsByEnd depth p k o = (Holds (ended_before k (op_key depth o)) → p o ≡ false) × ((Holds (ended_before k (op_key depth o)) → ⊥) → p o ≡ true)

-- the copy's words are those after the operations of any such test
abbrev pub HasWordsOfChanges : FlatMachine → ℕ → ItemTable → List Op → ℕ → CopyAt → Type 0
HasWordsOfChanges s depth items ops x k = (p : Op → Bool) → AllByRecursion (λ o. changes_item items x o.effect ≡ true → SortsByEnd depth p k o) ops → k.words ≡ words_where s items ops x p

sorted_by : (depth : ℕ) (p : Op → Bool) (k : CopyAt) (o : Op) → SortsByEnd depth p k o → p o ≡ not (test_of (ended_before k (op_key depth o)))
sorted_by depth p k o h = go (test_of (ended_before k (op_key depth o))) refl where
  go : (t : Bool) → test_of (ended_before k (op_key depth o)) ≡ t → p o ≡ not t
  go true is = h.0 (Holds-from_test (ended_before k (op_key depth o)) is)
  go false is = h.1 (λ holds. true≢false (sym (test-from_Holds (ended_before k (op_key depth o)) holds) ∙ is))

pub words_of_copies : (s : FlatMachine) (m : MachineValue) → IsShaped m → IsTimed m → IsCore s m → (x : ℕ) → x < items_of_machine m → AllByRecursion (HasWordsOfChanges s (depth_of m) m.items m.ops x) (copies_of x m)
words_of_copies s m shaped timed core x low =
    each-weaker (words.HasWordsOfChanges s m x) (HasWordsOfChanges s (depth_of m) m.items m.ops x) (λ k h p sorts. h p (each-weaker (λ o. changes_item m.items x o.effect ≡ true → SortsByEnd (depth_of m) p k o) _ (λ o f changes. sorted_by (depth_of m) p k o (f changes)) m.ops sorts)) (copies_of x m)
    (words.words_of_copies s m x shaped timed (core.each commands_past_taken) (core.copies x low clocks_know) (core.copies x low words_right))
