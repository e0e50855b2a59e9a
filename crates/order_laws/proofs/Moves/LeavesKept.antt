-- What a bus tells a leaf, or takes from it, leaves the leaf its hart, and a reservation only where the leaf keeps its words.
-- Letters: x is the item, y the one that is reserved, v and w the leaf before and after.
use Rattle.std.proofs.Common.{◌≡◌, ◌≢◌, ℕ, suc, ◌+◌, ◌<◌, Bool, true, false, List, [], ◌∷◌, ◌++◌, length, Option, Some, None, option_map, refl, sym, ap, subst, ◌∙◌, arith}
use Rattle.std.specs.Prelude.{nat_eq, if◌then◌else◌}
use native.Mathlib.Decide.{ℕ_discrete}
use Rattle.std.proofs.lemmas.Bool.{eq-eqb}
use Rattle.order_laws.specs.DdmTypes.declared.keys.Stamp.{Stamp}
use Rattle.order_laws.specs.FlatModel.Flat.{has_reserved}
use Rattle.order_laws.specs.TreeModel.declared.BusTurn.{BusTurn}
use Rattle.order_laws.specs.TreeModel.State.Lists.{map_from, rest_of}
use Rattle.order_laws.specs.TreeModel.State.States.{entry_hold, is_held}
use Rattle.order_laws.specs.TreeModel.State.Values.{Note, local, up_read, LeafValue, DirValue, Node, Nodes, leaf_node, dir_node, no_nodes, more_nodes, nodes}
use Rattle.order_laws.specs.TreeModel.State.Leaf.{entry_state, leaf_entry, leaf_hold, unreserved, leaf_lose, leaf_take_data, leaf_take_exclusive, leaf_answer, leaf_take_inject}
use Rattle.order_laws.specs.TreeModel.State.Directory.{is_reader, stamp_of, counted, front_taken, dir_lose, dir_take_data, dir_take_exclusive, dir_answer, dir_take_inject}
use Rattle.order_laws.specs.TreeModel.State.Child.{child_lose, child_take_data, child_take_exclusive, child_answer, child_take_inject, child_give_up, child_request_taken, child_reply_taken, child_given}
use Rattle.order_laws.specs.TreeModel.State.Place.{spot_in}
use Rattle.order_laws.proofs.TreeModel.Children.{map_from-length, child_at-map_from}
use Rattle.order_laws.specs.TreeRules.Order.Moments.{less, moment_at, spot_moment}
use Rattle.order_laws.specs.TreeRules.Order.Places.{LeafAt, leaves_in, placed_leaves}
use Rattle.order_lists.proofs.Moments.{less-irreflexive}
use Rattle.order_laws.specs.Moves.HeldWords.{held_words}
use Rattle.order_laws.specs.Moves.LeavesKept.{LeafKept, KeepsLeaf, LeavesKept}
use Rattle.order_laws.proofs.Moves.Leaves.{exclusive-words, answered-words, data-held, inject-held, lost-other, data-other, exclusive-other, answered-other, inject-other, gone-other}
use Rattle.order_laws.specs.TreeModel.Turns.Grant.{Grant}
use Rattle.order_laws.specs.TreeModel.Turns.Children.{child_at, only, read_from, erased_by, loses, reader_takes, replied_by, passed_on}
use Rattle.order_laws.specs.TreeModel.Turns.RequestRead.{joins, read_of_child, read_of_parked, read_of_parent}
use Rattle.order_laws.specs.TreeModel.Turns.RequestErase.{erase_of_all}
use Rattle.order_laws.specs.TreeModel.Turns.Reply.{reply_to_readers, reply_to_parent}
use Rattle.order_laws.specs.TreeModel.Turns.Down.{exclusive_to, erase_of_children, read_by_child, read_by_parked, data_to_readers, inject_to_reader, inject_to_readers, inject_to_child, inject_parked}
use Rattle.order_laws.specs.TreeModel.Turns.Leave.{out_gone, leave_parked, leave_to}
use Rattle.order_laws.proofs.TreeModel.Rows.{Row, row_joins, row_read_of_child, row_read_of_parked, row_read_of_parent, row_erase_of_all, row_reply_to_readers, row_reply_to_parent, row_exclusive_to, row_erase_of_children, row_read_by_child, row_read_by_parked, row_data_to_readers, row_inject_to_reader, row_inject_to_readers, row_inject_to_child, row_inject_parked, row_out_gone, row_out_parked, row_leave_to, row_inject_up}
use Rattle.order_laws.proofs.Pairs.{pairs-append, pairs-itself}

-- ---- a leaf

keeps : (v w : LeafValue) → w.number ≡ v.number → w.hart ≡ v.hart → w.done ≡ v.done → w.reservation ≡ v.reservation → ((y : ℕ) → is_held (leaf_hold y v) ≡ true → held_words (leaf_entry y w) ≡ held_words (leaf_entry y v)) → KeepsLeaf v w
keeps v w number hart done same words = record { number = number; hart = hart; done = done; reserved = λ y is. (sym same ∙ is, words y) }

pub keeps-same : (v : LeafValue) → KeepsLeaf v v
keeps-same v = keeps v v refl refl refl refl (λ y h. refl)

unreserved-other : (x y : ℕ) (r : Option ℕ) → unreserved x r ≡ Some y → (r ≡ Some y) × (y ≢ x)
unreserved-other x y None e = let wrong : None ≡ Some y = e in absurd (let no : ⊥ = cc in no)
unreserved-other x y (Some z) e = by (has_reserved (Some z) x) refl e where
  by : (b : Bool) → has_reserved (Some z) x ≡ b → (if b then None else Some z) ≡ Some y → (Some z ≡ Some y) × (y ≢ x)
  by true is h = absurd (let no : ⊥ = cc in no)
  by false is h = (h, λ at. differs at) where
    differs : y ≡ x → ⊥
    differs at =
        let same : z ≡ y = cc in
        let there : has_reserved (Some z) x ≡ true = eq-eqb z x (same ∙ at) in
        let wrong : true ≡ false = sym there ∙ is in
        cc

-- a reservation on the item ends
keeps-ended : (x : ℕ) (v w : LeafValue) → w.number ≡ v.number → w.hart ≡ v.hart → w.done ≡ v.done → w.reservation ≡ unreserved x v.reservation → ((y : ℕ) → y ≢ x → leaf_entry y w ≡ leaf_entry y v) → KeepsLeaf v w
keeps-ended x v w number hart done ended others = record {
  number = number;
  hart = hart;
  done = done;
  reserved = λ y is.
      let o = unreserved-other x y v.reservation (sym ended ∙ is) in
      (o.0, λ held. ap held_words (others y o.1));
}

any-words : (x : ℕ) (v w : LeafValue) → (is_held (leaf_hold x v) ≡ true → held_words (leaf_entry x w) ≡ held_words (leaf_entry x v)) → ((y : ℕ) → y ≢ x → leaf_entry y w ≡ leaf_entry y v) → (y : ℕ) → is_held (leaf_hold y v) ≡ true → held_words (leaf_entry y w) ≡ held_words (leaf_entry y v)
any-words x v w own others y held = by (ℕ_discrete y x) where
  by : Dec (y ≡ x) → held_words (leaf_entry y w) ≡ held_words (leaf_entry y v)
  by (no ne) = ap held_words (others y ne)
  by (yes at) = subst (λ z. held_words (leaf_entry z w) ≡ held_words (leaf_entry z v)) (sym at) (own (subst (λ z. is_held (leaf_hold z v) ≡ true) at held))

-- ---- a child

abbrev pub KidKept : Node → Node → Type 0
KidKept (leaf_node v) (leaf_node w) = KeepsLeaf v w
KidKept (dir_node d ns) (dir_node e ms) = (ms ≡ ns) × (stamp_of e ≡ stamp_of d)
KidKept (leaf_node v) (dir_node e ms) = ⊥
KidKept (dir_node d ns) (leaf_node w) = ⊥

same : (n : Node) → KidKept n n
same (leaf_node v) = keeps-same v
same (dir_node d ns) = (refl, refl)

reply-kept : (n : Node) → KidKept n (child_reply_taken n)
reply-kept (leaf_node v) = keeps v _ refl refl refl refl (λ y h. refl)
reply-kept (dir_node d ns) = (refl, refl)

request-kept : (n : Node) → KidKept n (child_request_taken n)
request-kept (leaf_node v) = keeps v _ refl refl refl refl (λ y h. refl)
request-kept (dir_node d ns) = (refl, refl)

module _ (x : ℕ) where
  data-kept : (words : List ℕ) (s : Stamp) (n : Node) → KidKept n (child_take_data x words s n)
  unfolding leaf_take_data dir_take_data
  data-kept words s (leaf_node v) = keeps v (leaf_take_data x words v) refl refl refl refl (any-words x v (leaf_take_data x words v) (λ h. ap held_words (data-held x v words h)) (λ y ne. data-other x v y ne words))
  data-kept words s (dir_node d ns) = (refl, refl)

  inject-kept : (words : List ℕ) (s : Stamp) (n : Node) → KidKept n (child_take_inject x words s n)
  unfolding leaf_take_inject dir_take_inject
  inject-kept words s (leaf_node v) = keeps v (leaf_take_inject x words v) refl refl refl refl (any-words x v (leaf_take_inject x words v) (λ h. ap held_words (inject-held x v words h)) (λ y ne. inject-other x v y ne words))
  inject-kept words s (dir_node d ns) = (refl, refl)

  exclusive-kept : (s : Stamp) (n : Node) → KidKept n (child_take_exclusive x s n)
  unfolding leaf_take_exclusive dir_take_exclusive
  exclusive-kept s (leaf_node v) = keeps v (leaf_take_exclusive x v) refl refl refl refl (any-words x v (leaf_take_exclusive x v) (λ h. exclusive-words x v) (λ y ne. exclusive-other x v y ne))
  exclusive-kept s (dir_node d ns) = (refl, refl)

  answer-kept : (s : Stamp) (n : Node) → KidKept n (child_answer x s n)
  unfolding leaf_answer dir_answer
  answer-kept s (leaf_node v) = keeps v (leaf_answer x v) refl refl refl refl (any-words x v (leaf_answer x v) (λ h. answered-words x v) (λ y ne. answered-other x v y ne))
  answer-kept s (dir_node d ns) = (refl, refl)

  lose-kept : (s : Stamp) (n : Node) → KidKept n (child_lose x s n)
  unfolding leaf_lose dir_lose
  lose-kept s (leaf_node v) = keeps-ended x v (leaf_lose x v) refl refl refl refl (λ y ne. lost-other x v y ne)
  lose-kept s (dir_node d ns) = (refl, refl)

  gone-kept : (n : Node) → KidKept n (child_give_up x n)
  gone-kept (leaf_node v) = keeps-ended x v _ refl refl refl refl (λ y ne. gone-other x v y ne)
  gone-kept (dir_node d ns) = (refl, refl)

keeps-again : (v w u : LeafValue) → KeepsLeaf v w → ((y : ℕ) → leaf_entry y w ≡ leaf_entry y v) → w.reservation ≡ v.reservation → KeepsLeaf w u → KeepsLeaf v u
unfolding leaf_hold
keeps-again v w u f entries reserved g = record {
  number = g.number ∙ f.number;
  hart = g.hart ∙ f.hart;
  done = g.done ∙ f.done;
  reserved = λ y is.
      let r = g.reserved y is in
      (sym reserved ∙ r.0, λ held. r.1 (subst (λ o. is_held (entry_hold (option_map entry_state o)) ≡ true) (sym (entries y)) held) ∙ ap held_words (entries y));
}

replied-kept : (x : ℕ) (words : List ℕ) (s : Stamp) (n : Node) → KidKept n (child_take_data x words s (child_reply_taken n))
replied-kept x words s (leaf_node v) = keeps-again v (record v { replies = rest_of v.replies }) _ (keeps v _ refl refl refl refl (λ y h. refl)) (λ y. refl) refl (data-kept x words s (leaf_node (record v { replies = rest_of v.replies })))
replied-kept x words s (dir_node d ns) = data-kept x words s (dir_node (record d { replies = rest_of d.replies }) ns)

-- ---- lists of leaves

pub kept-same : (xs : List LeafAt) → LeavesKept xs xs
kept-same = pairs-itself LeafKept (λ a. record { above = refl; number = refl; moment = less-irreflexive (spot_moment a.spot); leaf = keeps-same a.leaf })

placed-same : (path : List ℕ) (d e : DirValue) (i : ℕ) (ns : Nodes) → stamp_of e ≡ stamp_of d → placed_leaves path e i ns ≡ placed_leaves path d i ns
placed-same path d e i no_nodes same = refl
placed-same path d e i (more_nodes n ns) same =
    let first : leaves_in (record { above = path; number = i; present = stamp_of e }) n ≡ leaves_in (record { above = path; number = i; present = stamp_of d }) n = ap (λ (s : Stamp). leaves_in (record { above = path; number = i; present = s }) n) same in
    rw (first, placed-same path d e (i + 1) ns same) refl

kid-leaves : (path : List ℕ) (s s' : Stamp) → less (moment_at path s') (moment_at path s) ≡ false → (i : ℕ) (n m : Node) → KidKept n m → LeavesKept (leaves_in (record { above = path; number = i; present = s }) n) (leaves_in (record { above = path; number = i; present = s' }) m)
kid-leaves path s s' rises i (leaf_node v) (leaf_node w) h = (record { above = refl; number = refl; moment = rises; leaf = h }, tt)
kid-leaves path s s' rises i (leaf_node v) (dir_node e ms) h = absurd h
kid-leaves path s s' rises i (dir_node d ns) (leaf_node w) h = absurd h
kid-leaves path s s' rises i (dir_node d ns) (dir_node e ms) h = subst (LeavesKept (placed_leaves (path ++ i ∷ []) d 0 ns)) (sym (ap (placed_leaves (path ++ i ∷ []) e 0) h.0 ∙ placed-same (path ++ i ∷ []) d e 0 ns h.1)) (kept-same (placed_leaves (path ++ i ∷ []) d 0 ns))

pub row-leaves : (path : List ℕ) (p q : DirValue) → less (moment_at path (stamp_of q)) (moment_at path (stamp_of p)) ≡ false → (k : ℕ) (ns ms : List Node) → length ms ≡ length ns → ((i : ℕ) → i < length ns → KidKept (child_at i ns) (child_at i ms)) → LeavesKept (placed_leaves path p k (nodes ns)) (placed_leaves path q k (nodes ms))
row-leaves path p q rises k [] [] many kids = tt
row-leaves path p q rises k [] (m ∷ ms) many kids = absurd (omega (arith, many))
row-leaves path p q rises k (n ∷ ns) [] many kids = absurd (omega (arith, many))
row-leaves path p q rises k (n ∷ ns) (m ∷ ms) many kids = pairs-append LeafKept (leaves_in (spot_in path p k) n) (leaves_in (spot_in path q k) m) (placed_leaves path p (k + 1) (nodes ns)) (placed_leaves path q (k + 1) (nodes ms)) (kid-leaves path (stamp_of p) (stamp_of q) rises k n m (kids 0 (omega arith))) (row-leaves path p q rises (k + 1) ns ms (omega (arith, many)) (λ i l. kids (suc i) (omega (arith, l))))

-- ---- by rows

pub record RowKept (ns ms : List Node) : Type 0 where
  pub many : length ms ≡ length ns
  pub kids : (i : ℕ) → i < length ns → KidKept (child_at i ns) (child_at i ms)

if-kept : (b : Bool) (n m k : Node) → KidKept n m → KidKept n k → KidKept n (if b then m else k)
if-kept true n m k f g = f
if-kept false n m k f g = g

only-kept : (c : ℕ) (f : Node → Node) → ((n : Node) → KidKept n (f n)) → (i : ℕ) (n : Node) → KidKept n (only c f i n)
only-kept c f h i n = if-kept (nat_eq i c) n (f n) n (h n) (same n)

readers-kept : (s : Stamp) (u : Note) (x : ℕ) (words : List ℕ) (i : ℕ) (n : Node) → KidKept n (reader_takes u x words s i n)
readers-kept s u x words i n = if-kept (is_reader u i) n (child_take_data x words s n) n (data-kept x words s n) (same n)

replied-by-kept : (s : Stamp) (c : ℕ) (u : Note) (x : ℕ) (words : List ℕ) (i : ℕ) (n : Node) → KidKept n (replied_by c u x words s i n)
replied-by-kept s c u x words i n = by (nat_eq i c) where
  by : (b : Bool) → KidKept n (reader_takes u x words s i (if b then child_reply_taken n else n))
  by true = if-kept (is_reader u i) n (child_take_data x words s (child_reply_taken n)) (child_reply_taken n) (replied-kept x words s n) (reply-kept n)
  by false = readers-kept s u x words i n

module _ (ns : List Node) where
  all : (g : ℕ → Node → Node) → ((i : ℕ) (n : Node) → KidKept n (g i n)) → RowKept ns (map_from g 0 ns)
  all g h = record { many = map_from-length g 0 ns; kids = λ i l. subst (λ m. KidKept (child_at i ns) m) (sym (child_at-map_from g i ns l)) (h i (child_at i ns)) }

  none : RowKept ns ns
  none = record { many = refl; kids = λ i l. same (child_at i ns) }

  pub row-kept : (above : Stamp) (p : DirValue) (t : BusTurn) (g : Grant) → Row above p ns t g → RowKept ns g.kids
  unfolding joins read_of_child read_of_parked read_of_parent erase_of_all reply_to_readers reply_to_parent exclusive_to erase_of_children read_by_child read_by_parked data_to_readers inject_to_reader inject_to_readers inject_to_child inject_parked out_gone leave_parked leave_to
  row-kept above p t g (row_joins c x _ _) = all (only c child_request_taken) (only-kept c child_request_taken request-kept)
  row-kept above p t g (row_read_of_child c x k _ _ _ _ _) = all (read_from c k x (stamp_of (counted p))) (λ i n. if-kept (nat_eq i c) n (child_request_taken n) _ (request-kept n) (if-kept (nat_eq i k) n _ n (answer-kept x (stamp_of (counted p)) n) (same n)))
  row-kept above p t g (row_read_of_parked c x words _ _ _ _ _ _) = all (only c child_request_taken) (only-kept c child_request_taken request-kept)
  row-kept above p t g (row_read_of_parent c x _ _ _ _) = all (only c child_request_taken) (only-kept c child_request_taken request-kept)
  row-kept above p t g (row_erase_of_all c x _ _ _ _) = all (erased_by c x (stamp_of (counted p))) (λ i n. if-kept (nat_eq i c) n (child_request_taken n) (child_lose x (stamp_of (counted p)) n) (request-kept n) (lose-kept x (stamp_of (counted p)) n))
  row-kept above p t g (row_reply_to_readers c x words first joined _ _ _) = all (replied_by c (local first joined) x words (stamp_of (counted p))) (replied-by-kept (stamp_of (counted p)) c (local first joined) x words)
  row-kept above p t g (row_reply_to_parent c x words _ _ _ _) = all (only c child_reply_taken) (only-kept c child_reply_taken reply-kept)
  row-kept above p t g (row_exclusive_to e rest d _ _ _ _) = all (only d (child_take_exclusive e.item (stamp_of (front_taken e.stamp rest p)))) (only-kept d _ (exclusive-kept e.item (stamp_of (front_taken e.stamp rest p))))
  row-kept above p t g (row_erase_of_children e rest _ _ _ _) = all (loses e.item (stamp_of (front_taken e.stamp rest p))) (λ i n. lose-kept e.item (stamp_of (front_taken e.stamp rest p)) n)
  row-kept above p t g (row_read_by_child e rest k _ _ _ _ _) = all (only k (child_answer e.item (stamp_of (front_taken e.stamp rest p)))) (only-kept k _ (answer-kept e.item (stamp_of (front_taken e.stamp rest p))))
  row-kept above p t g (row_read_by_parked e rest words _ _ _ _ _ _) = none
  row-kept above p t g (row_data_to_readers e rest first joined _ _ _ _) = all (reader_takes (up_read first joined) e.item e.words (stamp_of (front_taken e.stamp rest p))) (readers-kept (stamp_of (front_taken e.stamp rest p)) (up_read first joined) e.item e.words)
  row-kept above p t g (row_inject_to_reader e rest d joined _ _ _ _ _ _) = all (only d (child_take_inject e.item e.words (stamp_of (front_taken e.stamp rest p)))) (only-kept d _ (inject-kept e.item e.words (stamp_of (front_taken e.stamp rest p))))
  row-kept above p t g (row_inject_to_readers e rest first joined _ _ _ _ _) = all (reader_takes (up_read first joined) e.item e.words (stamp_of (front_taken e.stamp rest p))) (readers-kept (stamp_of (front_taken e.stamp rest p)) (up_read first joined) e.item e.words)
  row-kept above p t g (row_inject_to_child e rest k _ _ _ _ _) = all (only k (child_take_inject e.item e.words (stamp_of (front_taken e.stamp rest p)))) (only-kept k _ (inject-kept e.item e.words (stamp_of (front_taken e.stamp rest p))))
  row-kept above p t g (row_inject_parked e rest _ _ _ _ _ _ _) = none
  row-kept above p t g (row_out_gone c choice x _ _ _ _ _) = all (only c (child_give_up x)) (only-kept c _ (gone-kept x))
  row-kept above p t g (row_out_parked c choice x _ _ _ _ _ _ _ _) = all (only c (child_give_up x)) (only-kept c _ (gone-kept x))
  row-kept above p t g (row_leave_to c choice x k _ _ _ _ _) = all (passed_on c k x (child_given x (child_at c ns)) (stamp_of (counted p))) (λ i n. if-kept (nat_eq i c) n (child_give_up x n) _ (gone-kept x n) (if-kept (nat_eq i k) n _ n (inject-kept x (child_given x (child_at c ns)) (stamp_of (counted p)) n) (same n)))
  row-kept above p t g (row_inject_up c choice x _ _ _ _ _ _ _ _) = all (only c (child_give_up x)) (only-kept c _ (gone-kept x))
