-- A tree file that is accepted gives a tree: its levels have a shape, and its numbers are in range.
-- Letters: t is a tree.
use Rattle.std.proofs.Common.{◌≡◌, ℕ, ℤ, pos, negsuc, ◌<◌, ◌≤◌, Bool, true, false, ◌&&◌, ◌||◌, ◌⊎◌, inl, inr, List, [], ◌∷◌, length, Option, Some, None, Result, Ok, Err, refl, sym, ap, ◌∙◌, arith, cond}
use Rattle.std.specs.Prelude.{IsTrue, nat_eq, nat_le, nat_lt, sum}
use Rattle.std.specs.Str.{is_utf8}
use Rattle.std.proofs.lemmas.Bool.{and_parts, eqb-true, leb-true}
use Rattle.std.proofs.lemmas.Bool.Decides.{nat_tests}
use Rattle.toml.specs.Parse.{parse_document}
use Rattle.toml.specs.Data.{Data, Members, as_integer, as_str, get_member}
use Rattle.file_laws.specs.TreeModel.Start.Sources.{TreeValue}
use Rattle.file_laws.specs.DdmTypes.declared.sizes.TreeSizes.{TreeSizes}
use Rattle.file_laws.specs.BusLaws.IsTree.{AreUnder}
use Rattle.tree_config.specs.Levels.{IsShape, depth_of, is_uneven, leaves_of, levels_of}
use Rattle.tree_config.specs.Ranges.{AreSizes, IsInRange, highest_end, is_allowed, stacks_end}
use Rattle.tree_config.specs.Levels as levels
use Rattle.tree_config.specs.ShapeText.{Tree, leaf_tree, group_tree, node_text, read_from, shape_of}
use Rattle.tree_config.specs.TreeFile.{◌>>=◌, in_range, is_wide, item_bytes_at, judged_reading, judged_tree, key_name, least_unknown, levels_in, number, number_at, number_or, shape_at, shape_text, sizes_at, stack_bytes_at, tree_in, tree_of, tree_of_table, unless_unknown, value_at, whole_number}
use Rattle.tree_config.specs.declared.refusal.TreeKey.{TreeKey}
use Rattle.tree_config.specs.declared.refusal.TreeKey.TheVariants as key
use Rattle.tree_config.specs.declared.refusal.TreeRefusal.{TreeRefusal}
use Rattle.tree_config.specs.declared.refusal.TreeRefusal.TheVariants as refusal
use Rattle.tree_config.proofs.Even.{IsShape-levels_of, depth_of-group}
use Rattle.tree_config.proofs.GrammarScans.{err_ok, shape_of-text}
use Rattle.file_laws.specs.Trees.{IsFileTree}

-- ---- a tree with a shape and its numbers in their ranges

same-under : (n : ℕ) (ls : List (List ℕ)) → levels.AreUnder n ls → AreUnder n ls
same-under n [] u = tt
same-under n (l ∷ ls) u = (u.0, same-under (sum l) ls u.1)

either-of : (n a b : ℕ) (one : Bool) → nat_eq n a ≡ one → (one || nat_eq n b) ≡ true → (n ≡ a) ⊎ (n ≡ b)
either-of n a b true is e = inl (eqb-true n a is)
either-of n a b false is e = inr (eqb-true n b e)

ways-range : (n : ℕ) → (nat_eq n 1 || (nat_eq n 2 || nat_eq n 4)) ≡ true → (0 < n) × (n < 4294967296)
ways-range n = by_tests (nat_eq n 1) refl where
  of_two : (n ≡ 2) ⊎ (n ≡ 4) → (0 < n) × (n < 4294967296)
  of_two (inl is) = (omega (arith, is), omega (arith, is))
  of_two (inr is) = (omega (arith, is), omega (arith, is))

  by_tests : (one : Bool) → nat_eq n 1 ≡ one → (one || (nat_eq n 2 || nat_eq n 4)) ≡ true → (0 < n) × (n < 4294967296)
  by_tests true is e = let n_is = eqb-true n 1 is in (omega (arith, n_is), omega (arith, n_is))
  by_tests false is e = of_two (either-of n 2 4 (nat_eq n 2) refl e)

-- a number in a range that begins with 1
small-range : (high n : ℕ) → high ≤ 4096 → (nat_le 1 n && nat_le n high) ≡ true → (0 < n) × (n < 4294967296)
small-range high n low is =
    let parts = and_parts (nat_le 1 n) (nat_le n high) is in
    let above = leb-true 1 n parts.0 in
    let below = leb-true n high parts.1 in
    (omega (arith, above), omega (arith, below, low))

file-tree : (t : TreeValue) → IsShape t.levels → IsInRange t → IsFileTree t
file-tree t shape range =
    let ways = ways-range t.way_count range.ways in
    let sets = small-range 4096 t.sizes.sets (omega arith) range.sizes.sets in
    record {
      shape = shape;
      range = range;
      tree = record {
        some = shape.some;
        depth = shape.depth;
        under = same-under 1 t.levels shape.under;
        widths = shape.widths;
        sets = sets.0;
        ways = ways.0;
        item_bytes = either-of t.item_bytes 16 64 (nat_eq t.item_bytes 16) refl range.item_bytes;
      };
      small = record {
        ways = ways.1;
        buffer = (small-range 16 t.sizes.buffer (omega arith) range.sizes.buffer).1;
        parking = (small-range 64 t.sizes.parking (omega arith) range.sizes.parking).1;
        down = (small-range 4096 t.sizes.down (omega arith) range.sizes.down).1;
        requests = (small-range 4096 t.sizes.requests (omega arith) range.sizes.requests).1;
        replies = (small-range 4096 t.sizes.replies (omega arith) range.sizes.replies).1;
      };
    }

-- where two steps pass, each does
both_pass : {A B : Type 0} (m : Result A TreeRefusal) (next : A → Result B TreeRefusal) (b : B) → m >>= next ≡ Ok b → (a : A) × (m ≡ Ok a) × (next a ≡ Ok b)
both_pass (Ok a) next b e = (a, refl, e)
both_pass (Err r) next b e = cc

-- ---- the shape

at_most : (a b : ℕ) → nat_lt a b ≡ false → b ≤ a
at_most a b h = grind (arith, nat_tests)

-- a text that is read is that of a group
group_depth : (t : Tree) → shape_of (node_text t []) ≡ Ok t → 1 ≤ depth_of t
unfolding read_from
group_depth leaf_tree h = absurd (err_ok h)
group_depth (group_tree t ts) h = depth_of-group t ts

judged_shape : (t : Tree) (levels : List (List ℕ)) → 1 ≤ depth_of t → judged_tree t ≡ Ok levels → IsShape levels
judged_shape t levels some e = by_tests (is_uneven t) refl (nat_lt 4 (depth_of t)) refl (is_wide t) refl (nat_lt 64 (leaves_of (levels_of t))) refl e where
  by_tests : (uneven : Bool) → is_uneven t ≡ uneven → (deep : Bool) → nat_lt 4 (depth_of t) ≡ deep → (wide : Bool) → is_wide t ≡ wide → (many : Bool) → nat_lt 64 (leaves_of (levels_of t)) ≡ many
      → cond uneven (Err refusal.Uneven) (cond deep (Err refusal.TooDeep) (cond wide (Err refusal.TooWide) (cond many (Err refusal.TooManyLeaves) (Ok (levels_of t))))) ≡ Ok levels → IsShape levels
  by_tests true a deep b wide c many d e = cc
  by_tests false a true b wide c many d e = cc
  by_tests false a false b true c many d e = cc
  by_tests false a false b false c true d e = cc
  by_tests false a false b false c false d e = let same : levels_of t ≡ levels = cc in rw (← same) (IsShape-levels_of t some a (at_most 4 (depth_of t) b) c (at_most 64 (leaves_of (levels_of t)) d))

shape_of_text : (text : List ℕ) (levels : List (List ℕ)) → levels_in text ≡ Ok levels → IsShape levels
unfolding levels_in
shape_of_text text levels = by_reading (shape_of text) refl where
  by_reading : (r : Result Tree ℕ) → shape_of text ≡ r → judged_reading r ≡ Ok levels → IsShape levels
  by_reading (Ok t) is e = judged_shape t levels (group_depth t (ap shape_of (sym (shape_of-text text t is)) ∙ is)) e
  by_reading (Err place) is e = cc

shape_of_data : (o : Option (List ℕ)) (levels : List (List ℕ)) → shape_text o ≡ Ok levels → IsShape levels
shape_of_data None levels e = cc
shape_of_data (Some text) levels e = shape_of_text text levels e

shape_of_table : (ms : Members) (levels : List (List ℕ)) → shape_at ms ≡ Ok levels → IsShape levels
unfolding shape_at
shape_of_table ms levels e = let read = both_pass (value_at key.Shape ms) _ levels e in shape_of_data (as_str read.0) levels read.2

-- ---- numbers

allowed_if : (k : TreeKey) (m n : ℕ) (r : TreeRefusal) (b : Bool) → is_allowed k m ≡ b → cond b (Ok m) (Err r) ≡ Ok n → IsTrue (is_allowed k n)
allowed_if k m n r true is e = let same : m ≡ n = cc in rw (← same) is
allowed_if k m n r false is e = cc

allowed_in : (k : TreeKey) (z : ℤ) (n : ℕ) → in_range k z ≡ Ok n → IsTrue (is_allowed k n)
allowed_in k (pos m) n e = allowed_if k m n _ (is_allowed k m) refl e
allowed_in k (negsuc m) n e = cc

allowed_whole : (k : TreeKey) (o : Option ℤ) (n : ℕ) → whole_number k o ≡ Ok n → IsTrue (is_allowed k n)
allowed_whole k None n e = cc
allowed_whole k (Some z) n e = allowed_in k z n e

allowed_at : (k : TreeKey) (ms : Members) (n : ℕ) → number_at k ms ≡ Ok n → IsTrue (is_allowed k n)
unfolding number_at
allowed_at k ms n e = let read = both_pass (value_at k ms) (number k) n e in allowed_whole k (as_integer read.0) n read.2

allowed_sizes : (ms : Members) (s : TreeSizes) → sizes_at ms ≡ Ok s → AreSizes s
unfolding sizes_at
allowed_sizes ms s e =
    let sets = both_pass (number_at key.Sets ms) _ s e in
    let buffer = both_pass (number_at key.Buffer ms) _ s sets.2 in
    let parking = both_pass (number_at key.Parking ms) _ s buffer.2 in
    let down = both_pass (number_at key.Down ms) _ s parking.2 in
    let requests = both_pass (number_at key.Requests ms) _ s down.2 in
    let replies = both_pass (number_at key.Replies ms) _ s requests.2 in
    let same : (let read : TreeSizes = record { sets = sets.0; buffer = buffer.0; parking = parking.0; down = down.0; requests = requests.0; replies = replies.0 } in read) ≡ s = cc in
    rw (← same) (record {
      sets = allowed_at key.Sets ms sets.0 sets.1;
      buffer = allowed_at key.Buffer ms buffer.0 buffer.1;
      parking = allowed_at key.Parking ms parking.0 parking.1;
      down = allowed_at key.Down ms down.0 down.1;
      requests = allowed_at key.Requests ms requests.0 requests.1;
      replies = allowed_at key.Replies ms replies.0 replies.1;
    })

-- the bytes of a stack, and where the last of them ends
record AreStackBytes (base harts bytes : ℕ) : Type 0 where
  allowed : IsTrue (is_allowed key.StackBytes bytes)
  ends : stacks_end base harts bytes ≤ highest_end

stack_bytes_if : (base harts m bytes : ℕ) (r : TreeRefusal) (b : Bool) → nat_le (stacks_end base harts m) highest_end ≡ b → IsTrue (is_allowed key.StackBytes m) → cond b (Ok m) (Err r) ≡ Ok bytes → AreStackBytes base harts bytes
stack_bytes_if base harts m bytes r true is allowed e = let same : m ≡ bytes = cc in rw (← same) (record { allowed = allowed; ends = leb-true (stacks_end base harts m) highest_end is })
stack_bytes_if base harts m bytes r false is allowed e = cc

allowed_stack_bytes : (base harts : ℕ) (ms : Members) (bytes : ℕ) → stack_bytes_at base harts ms ≡ Ok bytes → AreStackBytes base harts bytes
unfolding stack_bytes_at
allowed_stack_bytes base harts ms bytes e =
    let read = both_pass (number_at key.StackBytes ms) _ bytes e in
    stack_bytes_if base harts read.0 bytes _ (nat_le (stacks_end base harts read.0) highest_end) refl (allowed_at key.StackBytes ms read.0 read.1) read.2

allowed_or : (k : TreeKey) (n : ℕ) (o : Option Data) (m : ℕ) → IsTrue (is_allowed k n) → number_or n k o ≡ Ok m → IsTrue (is_allowed k m)
allowed_or k n None m allowed e = let same : n ≡ m = cc in rw (← same) allowed
allowed_or k n (Some d) m allowed e = allowed_whole k (as_integer d) m e

allowed_item_bytes : (ms : Members) (n : ℕ) → item_bytes_at ms ≡ Ok n → IsTrue (is_allowed key.ItemBytes n)
unfolding item_bytes_at
allowed_item_bytes ms n e = allowed_or key.ItemBytes 16 (get_member (key_name key.ItemBytes) ms) n refl e

-- ---- the tree

table_tree : (ms : Members) (t : TreeValue) → tree_in ms ≡ Ok t → IsFileTree t
unfolding tree_in
table_tree ms t e =
    let levels = both_pass (shape_at ms) _ t e in
    let ways = both_pass (number_at key.Ways ms) _ t levels.2 in
    let sizes = both_pass (sizes_at ms) _ t ways.2 in
    let base = both_pass (number_at key.StackBase ms) _ t sizes.2 in
    let bytes = both_pass (stack_bytes_at base.0 (leaves_of levels.0) ms) _ t base.2 in
    let item_bytes = both_pass (item_bytes_at ms) _ t bytes.2 in
    let stacks = allowed_stack_bytes base.0 (leaves_of levels.0) ms bytes.0 bytes.1 in
    let read : TreeValue = record { levels = levels.0; way_count = ways.0; sizes = sizes.0; stack_base = base.0; stack_bytes = bytes.0; item_bytes = item_bytes.0 } in
    let same : read ≡ t = cc in
    rw (← same) (file-tree read (shape_of_table ms levels.0 levels.1) (record {
      ways = allowed_at key.Ways ms ways.0 ways.1;
      sizes = allowed_sizes ms sizes.0 sizes.1;
      stack_base = allowed_at key.StackBase ms base.0 base.1;
      stack_bytes = stacks.allowed;
      item_bytes = allowed_item_bytes ms item_bytes.0 item_bytes.1;
      stacks = stacks.ends;
    }))

known_tree : (o : Option (List ℕ)) (ms : Members) (t : TreeValue) → unless_unknown o ms ≡ Ok t → IsFileTree t
known_tree None ms t e = table_tree ms t e
known_tree (Some name) ms t e = cc

pub accepted_tree : (file : List ℕ) (t : TreeValue) → tree_of file ≡ Ok t → IsFileTree t
unfolding tree_of
accepted_tree file t e = by_tests (nat_lt 65536 (length file)) refusal.TooLong (is_utf8 file) (parse_document file) refusal.NotToml e where
  by_tests : (long : Bool) (r : TreeRefusal) (text : Bool) (table : Option Members) (q : TreeRefusal) → cond long (Err r) (cond text (tree_of_table table) (Err q)) ≡ Ok t → IsFileTree t
  by_tests true r text table q e = cc
  by_tests false r false table q e = cc
  by_tests false r true None q e = cc
  by_tests false r true (Some ms) q e = known_tree (least_unknown ms) ms t e
