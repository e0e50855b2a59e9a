-- An end is no longer than the clock of its copy: it stands on a bus over the copy's place, or on the one above it.
use Rattle.std.proofs.Common.{◌≡◌, ℕ, ◌+◌, ◌*◌, ◌≤◌, ◌<◌, Bool, true, false, List, [], ◌∷◌, ◌++◌, map, length, Option, Some, None, IfSome, refl, arith}
use Rattle.std.specs.List.{AllByRecursion}
use Rattle.std.proofs.lemmas.List.{length-append}
use Rattle.order_laws.specs.DdmTypes.declared.answers.TxKind.TheVariants.{EraseTx}
use Rattle.order_laws.specs.TreeModel.State.Kinds.{is_kind, brings_copy}
use Rattle.order_laws.specs.TreeModel.State.States.{entry_hold, is_held}
use Rattle.order_laws.specs.TreeModel.State.Values.{DownValue, DirValue, Node, Nodes, leaf_node, dir_node, no_nodes, more_nodes, MachineValue}
use Rattle.order_laws.specs.TreeModel.State.Leaf.{words_of_item, LeafEntry, leaf_entry}
use Rattle.order_laws.specs.TreeModel.State.Directory.{queue_of}
use Rattle.order_laws.specs.TreeModel.State.Child.{child_replies}
use Rattle.order_laws.specs.TreeModel.State.Lists.{first_some}
use Rattle.order_laws.specs.TreeModel.State.Place.{Spot, spot_path, spot_in}
use Rattle.order_laws.specs.TreeModel.State.Shape.{IsShaped}
use Rattle.order_laws.specs.TreeRules.Order.Moments.{moment_at, spot_moment}
use Rattle.order_laws.specs.TreeRules.Order.Places.{dirs_in, placed_dirs, dirs_at}
use Rattle.order_laws.specs.TreeRules.Order.Copies.{CopyAt, cut, first_erase, downs, copies_here, entry_copies, inner, handed, copies_of}
use Rattle.order_lists.proofs.Filters.{each-weaker, each-append, each-left, each-right}
use Rattle.order_lists.proofs.Stamps.{moment_at-length}
use Rattle.order_lists.proofs.Levels.{IsLevelled, all_levelled}

-- its clock has so many numbers, and its end no more than the clock
pub record IsLong (n : ℕ) (k : CopyAt) : Type 0 where
  pub clock : n ≤ length k.clock
  pub end : IfSome k.end (λ e. length e ≤ length k.clock)

long-weaker : (n p : ℕ) → p ≤ n → (k : CopyAt) → IsLong n k → IsLong p k
long-weaker n p l k h =
    let c : n ≤ length k.clock = h.clock in
    record { clock = omega (arith, l, c); end = h.end }

cut-long : (n : ℕ) (f : Option (List ℕ)) → IfSome f (λ e. length e ≤ n) → (ks : List CopyAt) → AllByRecursion (IsLong n) ks → AllByRecursion (IsLong n) (map (cut f) ks)
cut-long n f short [] h = tt
cut-long n f short (k ∷ ks) h = (record { clock = h.0.clock; end = go k.end h.0.end }, cut-long n f short ks h.1) where
  of_cut : (o : Option (List ℕ)) → IfSome o (λ e. length e ≤ n) → IfSome o (λ e. length e ≤ length k.clock)
  of_cut None l = tt
  of_cut (Some e) l = let c : n ≤ length k.clock = h.0.clock in omega (arith, l, c)

  go : (o : Option (List ℕ)) → IfSome o (λ e. length e ≤ length k.clock) → IfSome (first_some o f) (λ e. length e ≤ length k.clock)
  go None l = of_cut f short
  go (Some e) l = l

here-long : (n : ℕ) (place clock : List ℕ) (ws : List (List ℕ)) → n ≤ length clock → AllByRecursion (IsLong n) (copies_here place clock ws)
here-long n place clock [] l = tt
here-long n place clock (w ∷ ws) l = (record { clock = l; end = tt }, here-long n place clock ws l)

entry-long : (n : ℕ) (place clock : List ℕ) (o : Option LeafEntry) → n ≤ length clock → AllByRecursion (IsLong n) (entry_copies place clock o)
entry-long n place clock None l = tt
entry-long n place clock (Some e) l = go (is_held (entry_hold (Some e.state))) refl where
  go : (t : Bool) → is_held (entry_hold (Some e.state)) ≡ t → AllByRecursion (IsLong n) (entry_copies place clock (Some e))
  go true i = rw i (record { clock = l; end = tt }, tt)
  go false i = rw i tt

erase-short : (above : List ℕ) (q : List DownValue) → length above < 4 → IfSome (first_erase above q) (λ e. length e ≤ 2 * length above + 1)
erase-short above [] l = tt
erase-short above (e ∷ es) l = go (is_kind EraseTx e.kind) refl (erase-short above es l) where
  go : (t : Bool) → is_kind EraseTx e.kind ≡ t → IfSome (first_erase above es) (λ f. length f ≤ 2 * length above + 1) → IfSome (first_erase above (e ∷ es)) (λ f. length f ≤ 2 * length above + 1)
  go true i rest =
      let n : length (moment_at above e.stamp) ≡ 2 * length above + 1 = moment_at-length above e.stamp l in
      rw i (omega (arith, n))
  go false i rest = rw i rest

downs-long : (place above : List ℕ) (q : List DownValue) → length above < 4 → AllByRecursion (IsLong (2 * length above + 1)) (downs place above q)
downs-long place above [] l = tt
downs-long place above (e ∷ es) l = go (brings_copy e.kind) refl (downs-long place above es l) where
  clock_length : length (moment_at above e.stamp) ≡ 2 * length above + 1
  clock_length = moment_at-length above e.stamp l

  of_end : (o : Option (List ℕ)) → IfSome o (λ f. length f ≤ 2 * length above + 1) → IfSome o (λ f. length f ≤ length (moment_at above e.stamp))
  of_end None h = tt
  of_end (Some f) h = omega (arith, h, clock_length)

  go : (t : Bool) → brings_copy e.kind ≡ t → AllByRecursion (IsLong (2 * length above + 1)) (downs place above es) → AllByRecursion (IsLong (2 * length above + 1)) (downs place above (e ∷ es))
  go true i rest = rw i (record { clock = omega (arith, clock_length); end = of_end (first_erase above es) (erase-short above es l) }, rest)
  go false i rest = rw i rest

dir-long : (x : ℕ) (c : Spot) (d : DirValue) (ns : Nodes) → length c.above < 4 → AllByRecursion (IsLong (2 * length c.above + 1)) (handed x (spot_path c) (moment_at c.above d.epoch) d 0 ns) → AllByRecursion (IsLong (2 * length c.above + 1)) (inner x c (dir_node d ns))
dir-long x c d ns l h =
    let bound : length (moment_at c.above d.epoch) ≡ 2 * length c.above + 1 = moment_at-length c.above d.epoch l in
    each-append (IsLong (2 * length c.above + 1)) (map (cut (first_erase c.above (queue_of x d.down))) (handed x (spot_path c) (moment_at c.above d.epoch) d 0 ns ++ copies_here (spot_path c) (moment_at c.above d.epoch) (words_of_item x d.parked))) (downs (spot_path c) c.above (queue_of x d.down))
    (cut-long (2 * length c.above + 1) (first_erase c.above (queue_of x d.down)) (erase-short c.above (queue_of x d.down) l) (handed x (spot_path c) (moment_at c.above d.epoch) d 0 ns ++ copies_here (spot_path c) (moment_at c.above d.epoch) (words_of_item x d.parked)) (each-append (IsLong (2 * length c.above + 1)) (handed x (spot_path c) (moment_at c.above d.epoch) d 0 ns) (copies_here (spot_path c) (moment_at c.above d.epoch) (words_of_item x d.parked)) h (here-long (2 * length c.above + 1) (spot_path c) (moment_at c.above d.epoch) (words_of_item x d.parked) (omega (arith, bound)))))
    (downs-long (spot_path c) c.above (queue_of x d.down) l)

mutual
  inner-long : (x : ℕ) (c : Spot) (n : Node) → length c.above < 4 → AllByRecursion IsLevelled (dirs_in c n) → AllByRecursion (IsLong (2 * length c.above + 1)) (inner x c n)
  inner-long x c (leaf_node v) l h = (let clock : length (spot_moment c) ≡ 2 * length c.above + 1 = moment_at-length c.above c.present l in entry-long (2 * length c.above + 1) (spot_path c) (spot_moment c) (leaf_entry x v) (omega (arith, clock)))
  inner-long x c (dir_node d ns) l h = dir-long x c d ns l (handed-long x (2 * length c.above + 1) (spot_path c) (moment_at c.above d.epoch) d 0 ns (let bound : length (moment_at c.above d.epoch) ≡ 2 * length c.above + 1 = moment_at-length c.above d.epoch l in omega (arith, bound)) (let longer : length (spot_path c) ≡ length c.above + 1 = length-append c.above (c.number ∷ []) in omega (arith, longer)) h.0.deep h.1)

  handed-long : (x n : ℕ) (path bound : List ℕ) (d : DirValue) (i : ℕ) (ns : Nodes) → n ≤ length bound → n ≤ 2 * length path + 1 → length path < 4 → AllByRecursion IsLevelled (placed_dirs path d i ns) → AllByRecursion (IsLong n) (handed x path bound d i ns)
  handed-long x n path bound d i no_nodes b p l h = tt
  handed-long x n path bound d i (more_nodes m ns) b p l h =
      each-append (IsLong n) (inner x (spot_in path d i) m ++ copies_here path bound (words_of_item x (child_replies m))) (handed x path bound d (i + 1) ns)
      (each-append (IsLong n) (inner x (spot_in path d i) m) (copies_here path bound (words_of_item x (child_replies m))) (each-weaker (IsLong (2 * length path + 1)) (IsLong n) (long-weaker (2 * length path + 1) n p) (inner x (spot_in path d i) m) (inner-long x (spot_in path d i) m l (each-left IsLevelled (dirs_in (spot_in path d i) m) (placed_dirs path d (i + 1) ns) h))) (here-long n path bound (words_of_item x (child_replies m)) b))
      (handed-long x n path bound d (i + 1) ns b p l (each-right IsLevelled (dirs_in (spot_in path d i) m) (placed_dirs path d (i + 1) ns) h))

pub ends_short : (m : MachineValue) → IsShaped m → (x : ℕ) → AllByRecursion (IsLong 0) (copies_of x m)
unfolding copies_of dirs_at
ends_short m shaped x = each-append (IsLong 0) (handed x [] [] m.top 0 m.kids) (copies_here [] [] (words_of_item x m.top.parked)) (handed-long x 0 [] [] m.top 0 m.kids (omega arith) (omega arith) (omega arith) (all_levelled m shaped)) (here-long 0 [] [] (words_of_item x m.top.parked) (omega arith))
