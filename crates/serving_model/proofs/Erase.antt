-- An erase that a leaf asks for is served: it goes up to the lowest bus whose parent holds the item Exclusive, all
-- other copies are gone then, and exclusive comes down to the leaf.
-- Letters: n is how many items there are, x the item, h the leaf, m a part, d a directory over the children ns, w a
-- place, c the child that is over the leaf.
use Rattle.std.proofs.Common.{◌≡◌, ◌≢◌, ℕ, zero, suc, ◌<◌, Bool, true, false, List, [], ◌∷◌, ◌++◌, length, Some, None, refl, sym, ap, subst, ◌∙◌, arith, get_or-set_same, get_or-set_other}
use Rattle.std.specs.Prelude.{◌&&◌, nat_lt, slice_set, if◌then◌else◌}
use Rattle.std.specs.Bool.{beq}
use Rattle.std.proofs.lemmas.Bool.{true≢false, and_parts}
use Rattle.std.proofs.lemmas.List.{length-set, append-nil}
use Rattle.serving_model.specs.DdmTypes.declared.answers.TxKind.TheVariants.{EraseTx, ExclusiveTx}
use Rattle.serving_model.specs.DdmTypes.declared.sizes.LeafState.{LeafState}
use Rattle.serving_model.specs.DdmTypes.declared.turns.Turn.{Turn}
use Rattle.bus_laws.specs.FlatModel.Flat.{FlatHart}
use Rattle.serving_model.specs.TreeModel.State.Lists.{first_of, rest_of}
use Rattle.serving_model.specs.TreeModel.State.States.{is_exclusive}
use Rattle.serving_model.specs.TreeModel.State.Values.{DownValue, LeafValue, DirSizes, no_note, up_erase, DirValue, Node, Nodes, leaf_node, dir_node, no_nodes, more_nodes, nodes, children, MachineValue, root_of}
use Rattle.serving_model.specs.TreeModel.State.Leaf.{blank, entry_at, leaf_hold}
use Rattle.serving_model.specs.TreeModel.State.Directory.{dir_item, dir_hold, dir_note, is_answering, stamp_of, front_taken, with_note}
use Rattle.serving_model.specs.TreeModel.State.Child.{child_hold, child_full_for, child_request_taken, child_take_exclusive}
use Rattle.serving_model.specs.TreeModel.State.Blank.{no_node}
use Rattle.serving_model.specs.TreeModel.State.Place.{Where, at_top, at_child, stamp_above, where_path, spot_in}
use Rattle.serving_model.specs.TreeModel.State.Shape.{IsShaped}
use Rattle.serving_model.specs.TreeModel.Turns.Children.{child_at}
use Rattle.serving_model.specs.TreeModel.Turns.Down.{exclusive_to}
use Rattle.serving_model.specs.TreeModel.Turns.RequestErase.{erase_noted, erase_list_full}
use Rattle.serving_model.specs.TreeRules.Bus.Faces.{parent_face, child_face, faces_of}
use Rattle.serving_model.specs.TreeRules.Bus.Item.{implies, holds_exclusive, bits_of}
use Rattle.serving_model.specs.TreeRules.Bus.Own.{top_items}
use Rattle.serving_model.specs.TreeRules.Bus.Rules.{IsBusOk, IsTreeOk, AreTreesOk, IsMachineOk, items_of_machine}
use Rattle.serving_model.specs.Rest.{dir_rests, dir_has_room}
use Rattle.serving_model.specs.Parts.{FlatView, MayEnd, Runs, stays, turned, below, Settled, Calm}
use Rattle.serving_model.specs.OneLeaf.{LeafIs, Spine, at_leaf, over, RootSpine, IsServed}
use Rattle.serving_model.specs.Walk.{child_over, turns_by, turns_of_child, turns_of_others, take_turns, takes, loses, clear_turns, clears, erase_turns, erases}
use Rattle.bus_laws.proofs.Answering.{child-hold}
use Rattle.serving_model.proofs.TreeModel.Children.{nodes-children, children-nodes, only-set}
use Rattle.serving_model.proofs.Dirs.{ItemsAre, ListsAre, items-set, DirRests, dir-rests, rests-dir, dir-room, not-full}
use Rattle.serving_model.proofs.Settled.{resting}
use Rattle.serving_model.proofs.Give.{dir-knows}
use Rattle.serving_model.proofs.Take.{takes-at}
use Rattle.serving_model.proofs.Steps.{runs-skeleton, runs-on, runs-machine}
use Rattle.serving_model.proofs.Spine.{same-over, dir-bones, tree-at, any-none, turns-same, taken-turns}
use Rattle.serving_model.proofs.Read.{dir-sizes, pass-in}
use Rattle.serving_model.proofs.Exclusive.{Erases, erases_leaf, erases_over, Owns, free-for_exclusive, own, down-exclusive}
use Rattle.serving_model.proofs.EraseBus.{erase, Clears, swept, run, many3, others3, here3, over3}

-- where the parent at rest doesn't hold the item Exclusive, no child does
none-exclusive : (n x : ℕ) → x < n → (d : DirValue) (ns : List Node) → IsBusOk n d ns → dir_note x d ≡ no_note → is_answering x d ≡ false → ListsAre [] [] [] d → is_exclusive (dir_hold x d) ≡ false → (k : ℕ) → k < length ns → is_exclusive (child_hold x (child_at k ns)) ≡ false
unfolding implies
none-exclusive n x within d ns bus note answers lists none k l =
    let bits = bits_of (parent_face x d) (faces_of x ns) in
    let both = and_parts (beq _ bits.held) _ (resting n x within d ns bus note answers lists) in
    ap is_exclusive (child-hold x (child_at k ns)) ∙ any-none holds_exclusive (child_face x) ns (by bits.exclusive bits.sole (is_exclusive (dir_hold x d)) none both.1) k l
  where
    by : (a s b : Bool) → b ≡ false → implies a (s && b) ≡ true → a ≡ false
    by false s b none h = refl
    by true true true none h = cc
    by true true false none h = cc
    by true false b none h = cc

erases-at : (h x k : ℕ) (ns : Nodes) → k < length (children ns) → turns_of_child k (erases h x ns) ≡ erase_turns h x (child_at k (children ns))
erases-at h x k no_nodes l = absurd (omega (arith, l))
erases-at h x zero (more_nodes m ns) l = refl
erases-at h x (suc k) (more_nodes m ns) l = erases-at h x k ns (omega (arith, l))

module _ (n : ℕ) (flat : FlatView) (g : FlatHart) (h x : ℕ) (within : x < n) (ends : MayEnd flat x) where
  abbrev Before : Node → Type 0
  Before m = Spine n flat h (LeafIs n flat g x LeafState.Waiting (Some (erase n flat g h x within ends))) m

  abbrev After : Node → Type 0
  After m = Spine n flat h (LeafIs n flat g x LeafState.Exclusive None) m

  -- ---- up

  module _ (w : Where) (d : DirValue) (ns : Nodes) (c : ℕ) (is : child_over h ns ≡ Some c) (there : c < length (children ns)) (r : DirRests x d) (room : dir_has_room d.sizes ≡ true) (calm : (j : ℕ) → j < length (children ns) → j ≢ c → Calm n flat (child_at j (children ns))) (none : is_exclusive (dir_hold x d) ≡ false)
      (one : Clears n flat g h x within ends (at_child (spot_in (where_path w) d c)) (child_at c (children ns)) (clear_turns h x (child_at c (children ns)))) where
    free : erase_list_full (stamp_above w) c x d (slice_set (children ns) c one.after) false ≡ None
    free =
        let full = not-full d.sizes.request_room d.requests (dir-room d.sizes room).requests r.lists.requests in
        rw full refl

    abbrev p : DirValue
    p = erase_noted (stamp_above w) c x d (slice_set (children ns) c one.after) false

    abbrev kids : List Node
    kids = (swept n flat g h x within ends w d ns c is there r calm one false none free).after

    p-items : ItemsAre x (dir_hold x d) (up_erase c) false p.items
    p-items = items-set x (record (dir_item x d) { note = up_erase c }) _ _ _ (dir_hold x d) (up_erase c) false d.items r.items refl refl r.items.answers

    q-lists : ListsAre [] [] [] (record p { requests = rest_of p.requests })
    q-lists = record { down = r.lists.down; requests = ap rest_of (ap (λ l. l ++ erase n flat g h x within ends ∷ []) r.lists.requests); replies = r.lists.replies; parked = r.lists.parked; places = r.lists.places }

    clears-so : Clears n flat g h x within ends w (dir_node d ns) (turns_by (λ c. turns_of_child c (clears h x ns) ++ Turn.Request d.bus c ∷ turns_of_others c (loses x ns)) (child_over h ns))
    clears-so = subst (λ o. Clears n flat g h x within ends w (dir_node d ns) (turns_by (λ c. turns_of_child c (clears h x ns) ++ Turn.Request d.bus c ∷ turns_of_others c (loses x ns)) o)) (sym is) (record {
      after = dir_node p (nodes kids);
      run = run n flat g h x within ends w d ns c is there r calm one false none free;
      request = ap (λ l. first_of (l ++ erase n flat g h x within ends ∷ [])) r.lists.requests;
      erases =
          let same = children-nodes kids in
          let many = many3 n flat g h x within ends w d ns c is there r calm one false none free in
          erases_over c (dir_hold x d) (over3 n flat g h x within ends w d ns c is there r calm one false none free) (subst (λ l. c < length l) (sym same) (subst (λ k. c < k) (sym many) there)) p-items q-lists room (subst (λ l. (j : ℕ) → j < length l → j ≢ c → Settled n flat (child_at j l)) (sym same) (others3 n flat g h x within ends w d ns c is there r calm one false none free))
          (subst (λ l. Erases n flat g h x within (child_at c l)) (sym same) (subst (Erases n flat g h x within) (sym (here3 n flat g h x within ends w d ns c is there r calm one false none free)) one.erases));
    })

  pub clear : (m : Node) → Before m → IsTreeOk n m → is_exclusive (child_hold x m) ≡ false → (w : Where) → Clears n flat g h x within ends w m (clear_turns h x m)
  clear (leaf_node v) (at_leaf number is) ok none w = record {
    after = leaf_node v;
    run = stays;
    request = is.slot;
    erases = erases_leaf number (record { entry = is.entry; here = is.here; in_state = is.in_state; others = is.others; buffer = is.buffer; slot = refl; replies = is.replies; copies = is.copies; room = is.room; hart = is.hart; reserved = is.reserved });
  }
  clear (dir_node d ns) (over c is there rests room others deeper) ok none w =
      let r = dir-rests x d (dir-knows n x within d (children ns) ok.0) rests in
      let lacks = none-exclusive n x within d (children ns) ok.0 r.items.note r.items.answers r.lists none c there in
      clears-so w d ns c is there r room (λ j l ne. record { settled = others j l ne; rules = tree-at n ns ok.1 j l }) none (clear (child_at c (children ns)) deeper (tree-at n ns ok.1 c there) lacks (at_child (spot_in (where_path w) d c)))

  -- ---- the bus where it turns

  -- these turns are granted on a bus and below it, the leaf has the item Exclusive, and all is at rest
  pub record Owned (w : Where) (d : DirValue) (ns : Nodes) (ts : List Turn) : Type 0 where
    pub parent : DirValue
    pub kids : List Node
    pub run : Runs w (dir_node d ns) ts (dir_node parent (nodes kids))
    pub rests : dir_rests parent ≡ true
    pub child : ℕ
    pub is : child_over h (nodes kids) ≡ Some child
    pub there : child < length kids
    pub others : (j : ℕ) → j < length kids → j ≢ child → Settled n flat (child_at j kids)
    pub spine : After (child_at child kids)

  module _ (w : Where) (d : DirValue) (ns : Nodes) (c : ℕ) (is : child_over h ns ≡ Some c) (there : c < length (children ns)) (r : DirRests x d) (place : nat_lt 0 d.sizes.down_room ≡ true) (calm : (j : ℕ) → j < length (children ns) → j ≢ c → Calm n flat (child_at j (children ns))) (holds : is_exclusive (dir_hold x d) ≡ true)
      (one : Clears n flat g h x within ends (at_child (spot_in (where_path w) d c)) (child_at c (children ns)) (clear_turns h x (child_at c (children ns)))) where
    free-down : erase_list_full (stamp_above w) c x d (slice_set (children ns) c one.after) true ≡ None
    free-down =
        let full = not-full d.sizes.down_room d.down place r.lists.down in
        rw full refl

    -- the directory with exclusive in its own list, then without it, and after the grant
    abbrev e1 : DirValue
    e1 = erase_noted (stamp_above w) c x d (slice_set (children ns) c one.after) true

    abbrev e2 : DirValue
    e2 = front_taken (stamp_above w) [] e1

    abbrev e3 : DirValue
    e3 = with_note x no_note e2

    abbrev k1 : List Node
    k1 = (swept n flat g h x within ends w d ns c is there r calm one true holds free-down).after

    many-k1 : length k1 ≡ length (children ns)
    many-k1 = many3 n flat g h x within ends w d ns c is there r calm one true holds free-down

    here-k1 : child_at c k1 ≡ child_request_taken one.after
    here-k1 = here3 n flat g h x within ends w d ns c is there r calm one true holds free-down

    e2-items : ItemsAre x (dir_hold x d) (up_erase c) false e2.items
    e2-items = items-set x (record (dir_item x d) { note = up_erase c }) _ _ _ (dir_hold x d) (up_erase c) false d.items r.items refl refl r.items.answers

    e3-items : ItemsAre x (dir_hold x d) no_note false e3.items
    e3-items = items-set x (record (dir_item x e2) { note = no_note }) _ _ _ (dir_hold x d) no_note false e2.items e2-items e2-items.hold refl e2-items.answers

    e3-lists : ListsAre [] [] [] e3
    e3-lists = record { down = refl; requests = r.lists.requests; replies = r.lists.replies; parked = r.lists.parked; places = r.lists.places }

    owns : Owns n flat g h x within (at_child (spot_in (where_path w) e3 c)) (child_take_exclusive x (stamp_of e2) (child_at c k1)) (take_turns h (child_at c (children ns)))
    owns = subst (λ ts. Owns n flat g h x within (at_child (spot_in (where_path w) e3 c)) (child_take_exclusive x (stamp_of e2) (child_at c k1)) ts) same-turns
        (subst (λ m. Owns n flat g h x within (at_child (spot_in (where_path w) e3 c)) (child_take_exclusive x (stamp_of e2) m) (take_turns h (child_request_taken one.after))) (sym here-k1) (own n flat g h x within (child_request_taken one.after) one.erases (at_child (spot_in (where_path w) e3 c)) (stamp_of e2)))
      where
        same-turns : take_turns h (child_request_taken one.after) ≡ take_turns h (child_at c (children ns))
        same-turns = taken-turns h one.after ∙ turns-same h one.after (child_at c (children ns)) (runs-skeleton one.run)

    -- the children when child c was told, and when it has had its turns
    abbrev k2 : List Node
    k2 = slice_set k1 c (child_take_exclusive x (stamp_of e2) (child_at c k1))

    abbrev k3 : List Node
    k3 = slice_set k2 c owns.after

    there-k1 : c < length k1
    there-k1 = subst (λ k. c < k) (sym many-k1) there

    there-k2 : c < length k2
    there-k2 = subst (λ k. c < k) (sym (length-set k1 c _)) there-k1

    many-k3 : length k3 ≡ length (children ns)
    many-k3 = length-set k2 c owns.after ∙ length-set k1 c _ ∙ many-k1

    down-run : Runs w (dir_node e1 (nodes k1)) (Turn.Down d.bus ∷ turns_of_child c (takes h ns)) (dir_node e3 (nodes k3))
    unfolding exclusive_to
    down-run =
        let entry : DownValue = record { kind = ExclusiveTx; item = x; words = blank d.sizes.width; stamp = stamp_above w } in
        let front : e1.down ≡ entry ∷ [] = ap (λ l. l ++ entry ∷ []) r.lists.down in
        let room : child_full_for ExclusiveTx x (child_at c k1) ≡ None = subst (λ m. child_full_for ExclusiveTx x m ≡ None) (sym here-k1) (free-for_exclusive n flat g h x within (child_request_taken one.after) one.erases) in
        let down = down-exclusive (stamp_above w) x c (blank d.sizes.width) (stamp_above w) e1 k1 front e2-items.note room in
        let inner : Runs (at_child (spot_in (where_path w) e3 c)) (child_at c k2) (take_turns h (child_at c (children ns))) owns.after = subst (λ m. Runs (at_child (spot_in (where_path w) e3 c)) m (take_turns h (child_at c (children ns))) owns.after) (sym (get_or-set_same k1 c _ no_node there-k1)) owns.run in
        let deeper : Runs w (dir_node e3 (nodes k2)) (take_turns h (child_at c (children ns)) ++ []) (dir_node e3 (nodes k3)) = below k2 c (take_turns h (child_at c (children ns))) owns.after there-k2 inner stays in
        let ended : Runs w (dir_node e3 (nodes k2)) (take_turns h (child_at c (children ns))) (dir_node e3 (nodes k3)) = subst (λ ts. Runs w (dir_node e3 (nodes k2)) ts (dir_node e3 (nodes k3))) (append-nil (take_turns h (child_at c (children ns)))) deeper in
        rw (takes-at h c ns there) (turned k1 (exclusive_to x e2 k1 c) refl down (subst (λ l. Runs w (dir_node e3 (nodes l)) (take_turns h (child_at c (children ns))) (dir_node e3 (nodes k3))) (sym (only-set c (child_take_exclusive x (stamp_of e2)) k1)) ended))

    owned : Owned w d ns ((turns_of_child c (clears h x ns) ++ Turn.Request d.bus c ∷ turns_of_others c (loses x ns)) ++ Turn.Down d.bus ∷ turns_of_child c (takes h ns))
    owned =
        let whole = runs-on (run n flat g h x within ends w d ns c is there r calm one true holds free-down) down-run in
        record {
          parent = e3;
          kids = k3;
          run = whole;
          rests = rests-dir x (dir_hold x d) e3 e3-items e3-lists;
          child = c;
          is = same-over h 0 (nodes k3) ns (dir-bones e3 d (nodes k3) ns (runs-skeleton whole)) ∙ is;
          there = subst (λ k. c < k) (sym many-k3) there;
          others = λ j l ne. subst (Settled n flat) (sym (get_or-set_other k2 c j owns.after no_node ne ∙ get_or-set_other k1 c j _ no_node ne)) (others3 n flat g h x within ends w d ns c is there r calm one true holds free-down j (subst (λ k. j < k) (many-k3 ∙ sym many-k1) l) ne);
          spine = subst After (sym (get_or-set_same k2 c owns.after no_node there-k2)) owns.spine;
        }

  -- these turns of a part are granted, the leaf has the item Exclusive, and all is at rest
  pub record Erased (w : Where) (m : Node) (ts : List Turn) : Type 0 where
    pub after : Node
    pub run : Runs w m ts after
    pub spine : After after

  module _ (w : Where) (d : DirValue) (ns : Nodes) (c : ℕ) (is : child_over h ns ≡ Some c) (there : c < length (children ns)) (rests : dir_rests d ≡ true) (others : (j : ℕ) → j < length (children ns) → j ≢ c → Settled n flat (child_at j (children ns))) (bus : IsBusOk n d (children ns)) (trees : AreTreesOk n ns) where
    -- the erase turns below child c
    module _ (one : Erased (at_child (spot_in (where_path w) d c)) (child_at c (children ns)) (erase_turns h x (child_at c (children ns)))) where
      abbrev last : List Node
      last = slice_set (children ns) c one.after

      many : length last ≡ length (children ns)
      many = length-set (children ns) c one.after

      went : Runs w (dir_node d ns) (erase_turns h x (child_at c (children ns))) (dir_node d (nodes last))
      went = subst (λ l. Runs w (dir_node d l) (erase_turns h x (child_at c (children ns))) (dir_node d (nodes last))) (nodes-children ns)
          (subst (λ ts. Runs w (dir_node d (nodes (children ns))) ts (dir_node d (nodes last))) (append-nil (erase_turns h x (child_at c (children ns)))) (below (children ns) c (erase_turns h x (child_at c (children ns))) one.after there one.run stays))

      through : Owned w d ns (turns_of_child c (erases h x ns))
      through = record {
        parent = d;
        kids = last;
        run = rw (erases-at h x c ns there) went;
        rests = rests;
        child = c;
        is = same-over h 0 (nodes last) ns (dir-bones d d (nodes last) ns (runs-skeleton went)) ∙ is;
        there = subst (λ k. c < k) (sym many) there;
        others = λ j l ne. subst (Settled n flat) (sym (get_or-set_other (children ns) c j one.after no_node ne)) (others j (subst (λ k. j < k) many l) ne);
        spine = subst After (sym (get_or-set_same (children ns) c one.after no_node there)) one.spine;
      }

    -- on this bus or below child c
    bus-erase : nat_lt 0 d.sizes.down_room ≡ true → is_exclusive (dir_hold x d) ≡ true → (is_exclusive (child_hold x (child_at c (children ns))) ≡ true → Erased (at_child (spot_in (where_path w) d c)) (child_at c (children ns)) (erase_turns h x (child_at c (children ns)))) → (is_exclusive (child_hold x (child_at c (children ns))) ≡ false → Clears n flat g h x within ends (at_child (spot_in (where_path w) d c)) (child_at c (children ns)) (clear_turns h x (child_at c (children ns)))) → Owned w d ns (erase_turns h x (dir_node d ns))
    bus-erase place holds deeper up =
        subst (λ o. Owned w d ns (turns_by (λ c. if is_exclusive (child_hold x (child_at c (children ns))) then turns_of_child c (erases h x ns) else turns_by (λ c. turns_of_child c (clears h x ns) ++ Turn.Request d.bus c ∷ turns_of_others c (loses x ns)) o ++ Turn.Down d.bus ∷ turns_of_child c (takes h ns)) o)) (sym is) (at (is_exclusive (child_hold x (child_at c (children ns)))) refl)
      where
        at : (b : Bool) → is_exclusive (child_hold x (child_at c (children ns))) ≡ b → Owned w d ns (if b then turns_of_child c (erases h x ns) else (turns_of_child c (clears h x ns) ++ Turn.Request d.bus c ∷ turns_of_others c (loses x ns)) ++ Turn.Down d.bus ∷ turns_of_child c (takes h ns))
        at true is-exclusive = through (deeper is-exclusive)
        at false shared = owned w d ns c is there (dir-rests x d (dir-knows n x within d (children ns) bus) rests) place (λ j l ne. record { settled = others j l ne; rules = tree-at n ns trees j l }) holds (up shared)

  waiting-shared : (v : LeafValue) → LeafIs n flat g x LeafState.Waiting (Some (erase n flat g h x within ends)) v → is_exclusive (child_hold x (leaf_node v)) ≡ false
  unfolding leaf_hold entry_at
  waiting-shared v is = rw (is.here, is.in_state) refl

  owned-part : (w : Where) (d : DirValue) (ns : Nodes) (ts : List Turn) → dir_has_room d.sizes ≡ true → Owned w d ns ts → Erased w (dir_node d ns) ts
  owned-part w d ns ts room s = record {
    after = dir_node s.parent (nodes s.kids);
    run = s.run;
    spine =
        let same = children-nodes s.kids in
        over s.child s.is (subst (λ l. s.child < length l) (sym same) s.there) s.rests (subst (λ (z : DirSizes). dir_has_room z ≡ true) (sym (dir-sizes s.parent d (nodes s.kids) ns (runs-skeleton s.run))) room) (subst (λ l. (j : ℕ) → j < length l → j ≢ s.child → Settled n flat (child_at j l)) (sym same) s.others) (subst (λ l. After (child_at s.child l)) (sym same) s.spine);
  }

  pub erase-part : (m : Node) → Before m → IsTreeOk n m → is_exclusive (child_hold x m) ≡ true → (w : Where) → Erased w m (erase_turns h x m)
  erase-part (leaf_node v) (at_leaf number is) ok holds w = absurd (true≢false (sym holds ∙ waiting-shared v is))
  erase-part (dir_node d ns) (over c is there rests room others deeper) ok holds w =
      owned-part w d ns (erase_turns h x (dir_node d ns)) room (bus-erase w d ns c is there rests others ok.0 ok.1 (dir-room d.sizes room).down holds
      (λ exclusive. erase-part (child_at c (children ns)) deeper (tree-at n ns ok.1 c there) exclusive (at_child (spot_in (where_path w) d c)))
      (λ shared. clear (child_at c (children ns)) deeper (tree-at n ns ok.1 c there) shared (at_child (spot_in (where_path w) d c))))

-- ---- in a machine

-- the top holds every item Exclusive
top-owns : (m : MachineValue) → IsMachineOk m → (x : ℕ) → x < items_of_machine m → is_exclusive (dir_hold x m.top) ≡ true
top-owns m ok x within = (and_parts (is_exclusive (dir_hold x m.top)) _ (pass-in m.top.items (ok.top.each top_items) x (dir-knows (items_of_machine m) x within m.top (children m.kids) ok.tree.0))).0

pub erase-served : (m : MachineValue) (flat : FlatView) (g : FlatHart) (h x : ℕ) → x < items_of_machine m → MayEnd flat x → IsShaped m → IsMachineOk m → RootSpine (items_of_machine m) flat h (LeafIs (items_of_machine m) flat g x LeafState.Waiting (Some (record { kind = EraseTx; item = x }))) m.top m.kids
    → IsServed m (erase_turns h x (root_of m)) flat h (LeafIs (items_of_machine m) flat g x LeafState.Exclusive None)
erase-served m flat g h x within ends shaped ok root =
    let n = items_of_machine m in
    let inside = tree-at n m.kids ok.tree.1 root.child root.there in
    let s = bus-erase n flat g h x within ends at_top m.top m.kids root.child root.is root.there root.rests root.others ok.tree.0 ok.tree.1 root.down (top-owns m ok x within)
    (λ exclusive. erase-part n flat g h x within ends (child_at root.child (children m.kids)) root.spine inside exclusive (at_child (spot_in [] m.top root.child)))
    (λ shared. clear n flat g h x within ends (child_at root.child (children m.kids)) root.spine inside shared (at_child (spot_in [] m.top root.child))) in
    let same = children-nodes s.kids in
    record {
      top = s.parent;
      kids = nodes s.kids;
      brings = runs-machine m (erase_turns h x (root_of m)) (dir_node s.parent (nodes s.kids)) shaped s.run;
      rests = record {
        child = s.child;
        is = s.is;
        there = subst (λ l. s.child < length l) (sym same) s.there;
        rests = s.rests;
        down = subst (λ (z : DirSizes). nat_lt 0 z.down_room ≡ true) (sym (dir-sizes s.parent m.top (nodes s.kids) m.kids (runs-skeleton s.run))) root.down;
        others = subst (λ l. (j : ℕ) → j < length l → j ≢ s.child → Settled n flat (child_at j l)) (sym same) s.others;
        spine = subst (λ l. Spine n flat h (LeafIs n flat g x LeafState.Exclusive None) (child_at s.child l)) (sym same) s.spine;
      };
    }
