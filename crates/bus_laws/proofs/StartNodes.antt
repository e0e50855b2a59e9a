-- A bus of which nothing is under way keeps its rules, where at most one of its children holds an item, and Exclusive.
use Rattle.std.proofs.Common.{◌≡◌, ℕ, zero, suc, ◌+◌, ◌<◌, ◌≤◌, Bool, true, false, List, [], ◌∷◌, map, length, refl, sym, ap, subst, ◌∙◌, arith}
use Rattle.std.specs.Prelude.{◌||◌, slice_index_or, if◌then◌else◌}
use Rattle.std.specs.List.{AllByRecursion, list_any, list_all, range_with_len}
use Rattle.std.specs.Bool.{beq}
use Rattle.std.specs.Cmp.Derive.{both_true}
use Rattle.std.proofs.lemmas.Bool.{eq-eqb, le-leb}
use Rattle.std.proofs.lemmas.List.{length-map}
use Rattle.bus_laws.specs.DdmTypes.declared.sizes.Hold.{Hold}
use Rattle.bus_laws.specs.TreeModel.State.Lists.{all_from}
use Rattle.bus_laws.specs.TreeModel.State.Values.{no_note, DirItem, absent_item, DirSizes, DirValue, Node, nodes}
use Rattle.bus_laws.specs.TreeModel.State.Leaf.{words_of_item}
use Rattle.bus_laws.specs.TreeModel.State.Directory.{queue_of, request_kinds}
use Rattle.bus_laws.specs.TreeModel.State.States.{is_held, is_exclusive}
use Rattle.bus_laws.specs.TreeModel.Start.Nodes.{new_dir, item_is_exclusive, held_by, or_each, held_below, held_if, dir_over}
use Rattle.bus_laws.proofs.TreeModel.Children.{children-nodes}
use Rattle.tree_rules.specs.Bus.Faces.{ChildFace, ParentFace, child_face, parent_face, face_above, faces_of}
use Rattle.tree_rules.specs.Bus.Own.{DirRule, dir_lists, notes_fit, down_entries, dir_requests, dir_replies, parked_fit, parked_once, dir_test, item_fits}
use Rattle.tree_rules.specs.Bus.Item.{holds_it, holds_exclusive, one_holds, gives_none, giver_holds, granted_fits, reader_is_noted, eraser_is_noted, bits_of, ItemRule, answering_held, exclusive_alone, parked_alone, exclusive_covered, queue_in_order, queue_start, inject_covered, erased_shared, hold_follows, local_noted, up_read_noted, data_read, up_erase_noted, erase_end, reads_noted, erases_noted, granted_held, exclusive_noted, giver, givers_held, read_answered, asked_alone, one_request, request_open, request_noted, item_test, ItemRules}
use Rattle.tree_rules.specs.Bus.Rules.{kept_places, IsBusOk, IsTreeOk, AreTreesOk}
use Rattle.tree_rules.proofs.Implying.{implies-by, implies-false}
use Rattle.bus_laws.proofs.StartSums.{one_if, among}
use Rattle.bus_laws.proofs.StartLeaves.{idle_face}

-- ---- the faces

-- a parent that holds an item Exclusive, or doesn't hold it, and with nothing under way
abbrev pub idle_parent : Bool → ParentFace
idle_parent b = record { hold = if b then Hold.Exclusive else Hold.Invalid; note = no_note; answering = false; queue = []; requests = []; parked = false }

abbrev idle_faces : List Bool → List ChildFace
idle_faces bs = map idle_face bs

abbrev pub some_of : List Bool → Bool
some_of bs = list_any (λ b. b) bs

pub any-idle : (t : ChildFace → Bool) → t (idle_face true) ≡ true → t (idle_face false) ≡ false → (bs : List Bool) → list_any t (idle_faces bs) ≡ some_of bs
any-idle t passes fails [] = refl
any-idle t passes fails (true ∷ bs) = rw passes refl
any-idle t passes fails (false ∷ bs) = rw fails (any-idle t passes fails bs)

all-idle : (t : ChildFace → Bool) → ((b : Bool) → t (idle_face b) ≡ true) → (bs : List Bool) → list_all t (idle_faces bs) ≡ true
all-idle t passes [] = refl
all-idle t passes (b ∷ bs) = both_true (passes b) (all-idle t passes bs)

all_from-idle : (t : ℕ → ChildFace → Bool) → ((i : ℕ) (b : Bool) → t i (idle_face b) ≡ true) → (i : ℕ) (bs : List Bool) → all_from t i (idle_faces bs) ≡ true
all_from-idle t passes i [] = refl
all_from-idle t passes i (b ∷ bs) = both_true (passes i b) (all_from-idle t passes (i + 1) bs)

none-some_of : (bs : List Bool) → among one_if bs ≡ 0 → some_of bs ≡ false
none-some_of [] h = refl
none-some_of (true ∷ bs) h = absurd (omega arith)
none-some_of (false ∷ bs) h = none-some_of bs (omega arith)

one-idle : (bs : List Bool) → among one_if bs ≤ 1 → some_of bs ≡ true → one_holds (idle_faces bs) ≡ true
one-idle [] few some = cc
one-idle (true ∷ bs) few some =
    let rest : some_of bs ≡ false = none-some_of bs (omega arith) in
    let none : list_any holds_it (idle_faces bs) ≡ false = any-idle holds_it refl refl bs ∙ rest in
    rw none refl
one-idle (false ∷ bs) few some = one-idle bs (omega arith) some

-- ---- the rules of an item

idle-rules : (bs : List Bool) (b : Bool) → b ≡ some_of bs → among one_if bs ≤ 1 → ItemRules (idle_parent b) (idle_faces bs)
idle-rules bs b same few = record { each = each } where
  held : list_any holds_it (idle_faces bs) ≡ b
  held = any-idle holds_it refl refl bs ∙ sym same

  exclusive : list_any holds_exclusive (idle_faces bs) ≡ b
  exclusive = any-idle holds_exclusive refl refl bs ∙ sym same

  held-is : (c : Bool) → is_held (if c then Hold.Exclusive else Hold.Invalid) ≡ c
  held-is true = refl
  held-is false = refl

  beq-same : (c : Bool) → beq c c ≡ true
  beq-same true = refl
  beq-same false = refl

  covered : (c : Bool) → c ≡ true → is_exclusive (if c then Hold.Exclusive else Hold.Invalid) ≡ true
  covered c is = rw is refl

  each : (r : ItemRule) → item_test r (idle_parent b) (bits_of (idle_parent b) (idle_faces bs)) ≡ true
  each answering_held = implies-false _
  each exclusive_alone = implies-by _ _ (λ some. one-idle bs few (sym same ∙ sym exclusive ∙ some))
  each parked_alone = implies-false _
  each exclusive_covered = implies-by _ _ (λ some. covered b (sym exclusive ∙ some))
  each queue_in_order = refl
  each queue_start = refl
  each inject_covered = implies-false _
  each erased_shared = implies-false _
  each hold_follows = rw (held, held-is b) (beq-same b)
  each local_noted = implies-false _
  each up_read_noted = implies-false _
  each data_read = implies-false _
  each up_erase_noted = implies-false _
  each erase_end = implies-false _
  each reads_noted = all_from-idle (reader_is_noted no_note) (λ i c. implies-false _) 0 bs
  each erases_noted = all_from-idle (eraser_is_noted no_note) (λ i c. implies-false _) 0 bs
  each granted_held = all-idle granted_fits (λ c. both_true (implies-false _) (implies-false _)) bs
  each exclusive_noted = implies-false _
  each giver = all-idle gives_none (λ c. refl) bs
  each givers_held = all-idle giver_holds (λ c. both_true (implies-false _) (implies-false _)) bs
  each read_answered = implies-false _
  each asked_alone = implies-false _
  each one_request = refl
  each request_open = implies-false _
  each request_noted = implies-false _

-- ---- a node with nothing under way

-- the node holds the item
abbrev pub has_held : ℕ → Node → Bool
has_held x m = slice_index_or (held_by m) x false

pub record IsIdle (n : ℕ) (m : Node) : Type 0 where
  pub tree : IsTreeOk n m
  pub count : length (held_by m) ≡ n
  pub face : (x : ℕ) → child_face x m ≡ idle_face (has_held x m)

abbrev pub AreIdle : ℕ → List Node → Type 0
AreIdle n ms = AllByRecursion (IsIdle n) ms

-- how many of them hold the item
abbrev pub holding : ℕ → List Node → ℕ
holding x ms = among (λ m. one_if (has_held x m)) ms

-- ---- where one of two lists holds

pub or_each-at : (bs cs : List Bool) (x : ℕ) → slice_index_or (or_each bs cs) x false ≡ (slice_index_or bs x false || slice_index_or cs x false)
or_each-at [] cs x = refl
or_each-at (b ∷ bs) [] x = sym (or-false (slice_index_or (b ∷ bs) x false)) where
  or-false : (c : Bool) → (c || false) ≡ c
  or-false true = refl
  or-false false = refl
or_each-at (b ∷ bs) (c ∷ cs) zero = refl
or_each-at (b ∷ bs) (c ∷ cs) (suc x) = or_each-at bs cs x

pub or_each-length : (bs cs : List Bool) → length bs ≡ length cs → length (or_each bs cs) ≡ length bs
or_each-length [] [] same = refl
or_each-length [] (c ∷ cs) same = absurd (omega arith)
or_each-length (b ∷ bs) [] same = refl
or_each-length (b ∷ bs) (c ∷ cs) same = ap suc (or_each-length bs cs (omega arith))

module _ (n : ℕ) where
  -- ---- what is held below

  held_below-at : (ms : List Node) (x : ℕ) → slice_index_or (held_below ms) x false ≡ some_of (map (has_held x) ms)
  held_below-at [] x = refl
  held_below-at (m ∷ ms) x = or_each-at (held_by m) (held_below ms) x ∙ ap (λ b. has_held x m || b) (held_below-at ms x)

  held_below-length : (ms : List Node) → AreIdle n ms → 1 ≤ length ms → length (held_below ms) ≡ n
  held_below-length [] idle some = absurd (omega arith)
  held_below-length (m ∷ []) idle some = alone (held_by m) ∙ idle.0.count where
    alone : (bs : List Bool) → length (or_each bs []) ≡ length bs
    alone [] = refl
    alone (b ∷ bs) = refl
  held_below-length (m ∷ k ∷ ms) idle some =
      let rest = held_below-length (k ∷ ms) idle.1 (omega arith) in
      or_each-length (held_by m) (held_below (k ∷ ms)) (idle.0.count ∙ sym rest) ∙ idle.0.count

  pub faces-idle : (ms : List Node) → AreIdle n ms → (x : ℕ) → faces_of x ms ≡ idle_faces (map (has_held x) ms)
  faces-idle [] idle x = refl
  faces-idle (m ∷ ms) idle x = rw (idle.0.face x) (ap (λ fs. idle_face (has_held x m) ∷ fs) (faces-idle ms idle.1 x))

  pub holding-is : (ms : List Node) (x : ℕ) → holding x ms ≡ among one_if (map (has_held x) ms)
  holding-is [] x = refl
  holding-is (m ∷ ms) x = ap (λ k. one_if (has_held x m) + k) (holding-is ms x)

  pub trees-of : (ms : List Node) → AreIdle n ms → AreTreesOk n (nodes ms)
  trees-of [] idle = tt
  trees-of (m ∷ ms) idle = (idle.0.tree, trees-of ms idle.1)

  -- ---- a directory over them

  pub parent-idle : (sizes : DirSizes) (level bus : ℕ) (items : List DirItem) (x : ℕ) (b : Bool) → slice_index_or items x absent_item ≡ held_if b → parent_face x (new_dir sizes level bus items) ≡ idle_parent b
  unfolding queue_of request_kinds words_of_item
  parent-idle sizes level bus items x true at = rw at refl
  parent-idle sizes level bus items x false at = rw at refl

  no_places : (d : DirValue) → d.down ≡ [] → (xs : List ℕ) → kept_places d xs ≡ 0
  unfolding queue_of
  no_places d empty [] = refl
  no_places d empty (x ∷ xs) =
      let rest = no_places d empty xs in
      rw empty (omega arith)

  -- an item of which nothing is under way
  pub record IsQuiet (ks : List Node) (items : List DirItem) (x : ℕ) : Type 0 where
    pub held : Bool
    pub at : slice_index_or items x absent_item ≡ held_if held
    pub below : held ≡ some_of (map (has_held x) ks)

  pub bus-idle : (sizes : DirSizes) (level bus : ℕ) (items : List DirItem) (ks : List Node) → AreIdle n ks → length items ≡ n → ((kids : ℕ) → list_all (item_fits kids) items ≡ true) → ((x : ℕ) → x < n → IsQuiet ks items x) → ((x : ℕ) → x < n → holding x ks ≤ 1)
      → IsBusOk n (new_dir sizes level bus items) ks
  bus-idle sizes level bus items ks idle count fits quiet few = record {
    own = record { each = own };
    rules = λ x l.
        let q = quiet x l in
        let at_most : among one_if (map (has_held x) ks) ≤ 1 = subst (λ k. k ≤ 1) (holding-is ks x) (few x l) in
        subst (λ p. ItemRules p (faces_of x ks)) (sym (parent-idle sizes level bus items x q.held q.at)) (subst (λ fs. ItemRules (idle_parent q.held) fs) (sym (faces-idle ks idle x)) (idle-rules (map (has_held x) ks) q.held q.below at_most));
    reserved = sym (no_places (new_dir sizes level bus items) refl (range_with_len 0 n));
  } where
    own : (r : DirRule) → dir_test r n (length ks) (new_dir sizes level bus items) ≡ true
    own dir_lists = both_true (eq-eqb _ _ count) (both_true (le-leb 0 sizes.down_room (omega arith)) (both_true (le-leb 0 sizes.request_room (omega arith)) (both_true (le-leb 0 sizes.reply_room (omega arith)) (le-leb (0 + 0) sizes.parking_room (omega arith)))))
    own notes_fit = fits (length ks)
    own down_entries = refl
    own dir_requests = refl
    own dir_replies = refl
    own parked_fit = refl
    own parked_once = refl

  -- a directory that holds what is held below it
  module _ (sizes : DirSizes) (level bus : ℕ) (ks : List Node) (idle : AreIdle n ks) (some : 1 ≤ length ks) (few : (x : ℕ) → x < n → holding x ks ≤ 1) where
    item-at : (bs : List Bool) (x : ℕ) → slice_index_or (map held_if bs) x absent_item ≡ held_if (slice_index_or bs x false)
    item-at [] x = refl
    item-at (b ∷ bs) zero = refl
    item-at (b ∷ bs) (suc x) = item-at bs x

    held-at : (bs : List Bool) (x : ℕ) → slice_index_or (map item_is_exclusive (map held_if bs)) x false ≡ slice_index_or bs x false
    held-at [] x = refl
    held-at (true ∷ bs) zero = refl
    held-at (false ∷ bs) zero = refl
    held-at (b ∷ bs) (suc x) = held-at bs x

    fits-items : (kids : ℕ) (bs : List Bool) → list_all (item_fits kids) (map held_if bs) ≡ true
    fits-items kids [] = refl
    fits-items kids (true ∷ bs) = fits-items kids bs
    fits-items kids (false ∷ bs) = fits-items kids bs

    items-count : length (map held_if (held_below ks)) ≡ n
    items-count = length-map (held_below ks) held_if ∙ held_below-length ks idle some

    pub dir-holds : (x : ℕ) → has_held x (dir_over sizes level bus ks) ≡ some_of (map (has_held x) ks)
    dir-holds x = held-at (held_below ks) x ∙ held_below-at ks x

    pub dir-idle : IsIdle n (dir_over sizes level bus ks)
    unfolding words_of_item
    dir-idle = record {
      tree = (subst (λ ms. IsBusOk n (new_dir sizes level bus (map held_if (held_below ks))) ms) (sym (children-nodes ks)) (bus-idle sizes level bus (map held_if (held_below ks)) ks idle items-count (λ kids. fits-items kids (held_below ks)) (λ x l. record { held = slice_index_or (held_below ks) x false; at = item-at (held_below ks) x; below = held_below-at ks x }) few), trees-of ks idle);
      count = length-map (map held_if (held_below ks)) item_is_exclusive ∙ items-count;
      face = λ x. ap (λ p. face_above p 0) (parent-idle sizes level bus (map held_if (held_below ks)) x (slice_index_or (held_below ks) x false) (item-at (held_below ks) x)) ∙ above-idle (slice_index_or (held_below ks) x false) ∙ ap idle_face (sym (held-at (held_below ks) x));
    } where
      above-idle : (b : Bool) → face_above (idle_parent b) 0 ≡ idle_face b
      above-idle true = refl
      above-idle false = refl
