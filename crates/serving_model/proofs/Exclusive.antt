-- Exclusive comes down to the leaf that erases: each bus over the leaf gives it to the child that is over the leaf.
-- Letters: n is how many items there are, x the item, h the leaf, m a part, d a directory over the children ns, w a
-- place, s a stamp, c the child that is over the leaf.
use Rattle.std.proofs.Common.{◌≡◌, ◌≢◌, ℕ, ◌<◌, true, false, List, [], ◌∷◌, ◌++◌, length, Some, None, refl, sym, ap, subst, ◌∙◌, get_or-set_same, get_or-set_other}
use Rattle.std.specs.Prelude.{nat_eq, slice_set}
use Rattle.std.proofs.lemmas.List.{length-set, append-nil}
use Rattle.serving_model.specs.DdmTypes.declared.answers.TxKind.TheVariants.{ExclusiveTx}
use Rattle.serving_model.specs.DdmTypes.declared.sizes.Hold.{Hold}
use Rattle.serving_model.specs.DdmTypes.declared.sizes.LeafState.{LeafState}
use Rattle.serving_model.specs.DdmTypes.declared.keys.Stamp.{Stamp}
use Rattle.serving_model.specs.DdmTypes.declared.turns.Turn.{Turn}
use Rattle.bus_laws.specs.FlatModel.Flat.{FlatHart}
use Rattle.serving_model.specs.TreeModel.declared.BusTurn.{BusTurn}
use Rattle.serving_model.specs.TreeModel.State.States.{is_reading}
use Rattle.serving_model.specs.TreeModel.State.Values.{WayValue, DownValue, LeafValue, no_note, up_erase, DirValue, Node, Nodes, leaf_node, dir_node, nodes, children}
use Rattle.serving_model.specs.TreeModel.State.Leaf.{blank, way_at, entry_at, leaf_take_exclusive}
use Rattle.serving_model.specs.TreeModel.State.Directory.{dir_item, dir_note, stamp_of, front_taken, pushed_down, with_hold, with_note, dir_take_exclusive}
use Rattle.serving_model.specs.TreeModel.State.Child.{child_full_for, child_take_exclusive}
use Rattle.serving_model.specs.TreeModel.State.Blank.{no_node}
use Rattle.serving_model.specs.TreeModel.State.Place.{Where, at_child, stamp_above, where_path, spot_in}
use Rattle.serving_model.specs.TreeModel.Turns.Grant.{granted, unless_full}
use Rattle.serving_model.specs.TreeModel.Turns.Children.{child_at}
use Rattle.serving_model.specs.TreeModel.Turns.Down.{exclusive_to}
use Rattle.serving_model.specs.TreeModel.Turns.Bus.{bus_judged}
use Rattle.serving_model.specs.Rest.{way_rests, dir_has_room}
use Rattle.serving_model.specs.Parts.{FlatView, Runs, stays, turned, below, Settled}
use Rattle.serving_model.specs.OneLeaf.{LeafIs, Spine, at_leaf, over}
use Rattle.serving_model.specs.Walk.{child_over, turns_by, turns_of_child, take_turns, takes}
use Rattle.bus_laws.proofs.HartFacts.{way-within}
use Rattle.serving_model.proofs.TreeModel.Children.{nodes-children, children-nodes, only-set}
use Rattle.serving_model.proofs.Dirs.{ItemsAre, ListsAre, items-set, rests-dir, dir-room, not-full}
use Rattle.serving_model.proofs.Give.{have-set}
use Rattle.serving_model.proofs.Take.{takes-at}
use Rattle.serving_model.proofs.Steps.{runs-skeleton}
use Rattle.serving_model.proofs.Spine.{same-over, dir-bones}

-- exclusive comes down to child c
pub down-exclusive : (above : Stamp) (x c : ℕ) (words : List ℕ) (s : Stamp) (p : DirValue) (ns : List Node) → p.down ≡ record { kind = ExclusiveTx; item = x; words = words; stamp = s } ∷ [] → dir_note x p ≡ up_erase c → child_full_for ExclusiveTx x (child_at c ns) ≡ None → bus_judged above p ns BusTurn.Down ≡ granted (exclusive_to x (front_taken s [] p) ns c)
unfolding unless_full
down-exclusive above x c words s p ns front note free = rw (front, note, note, free) refl

-- ---- a leaf

abbrev exclusive : ℕ → WayValue → LeafValue → LeafValue
exclusive x e v = record v { ways = slice_set v.ways x (Some (record e { state = LeafState.Exclusive })); buffer = [] }

exclusive-is : (x : ℕ) (e : WayValue) (v : LeafValue) → way_at x v.ways ≡ Some e → v.buffer ≡ [] → e.state ≡ LeafState.Waiting → leaf_take_exclusive x v ≡ exclusive x e v
unfolding leaf_take_exclusive entry_at
exclusive-is x e v here buffer is = rw (here, buffer, is, here) refl

module _ (n : ℕ) (flat : FlatView) (g : FlatHart) (h x : ℕ) (within : x < n) where
  -- the erase of the leaf was granted on each bus of the part, and exclusive hasn't come yet; all else is at rest
  pub data Erases : Node → Type 0 where
    erases_leaf : {v : LeafValue} → nat_eq v.number h ≡ true → LeafIs n flat g x LeafState.Waiting None v → Erases (leaf_node v)
    erases_over : {d : DirValue} {ns : Nodes} → (c : ℕ) (hold : Hold) → child_over h ns ≡ Some c → c < length (children ns) → ItemsAre x hold (up_erase c) false d.items → ListsAre [] [] [] d → dir_has_room d.sizes ≡ true
        → ((j : ℕ) → j < length (children ns) → j ≢ c → Settled n flat (child_at j (children ns))) → Erases (child_at c (children ns)) → Erases (dir_node d ns)

  -- these turns of a part are granted, the leaf has the item Exclusive, and all is at rest
  pub record Owns (w : Where) (m : Node) (ts : List Turn) : Type 0 where
    pub after : Node
    pub run : Runs w m ts after
    pub spine : Spine n flat h (LeafIs n flat g x LeafState.Exclusive None) after

  pub free-for_exclusive : (m : Node) → Erases m → child_full_for ExclusiveTx x m ≡ None
  free-for_exclusive (leaf_node v) erases = refl
  free-for_exclusive (dir_node d ns) (erases_over c hold is there items lists room others deeper) =
      let full = not-full d.sizes.down_room d.down (dir-room d.sizes room).down lists.down in
      rw full refl

  module _ (d : DirValue) (ns : Nodes) (c : ℕ) (hold : Hold) (is : child_over h ns ≡ Some c) (there : c < length (children ns)) (items : ItemsAre x hold (up_erase c) false d.items) (lists : ListsAre [] [] [] d) (room : dir_has_room d.sizes ≡ true)
      (others : (j : ℕ) → j < length (children ns) → j ≢ c → Settled n flat (child_at j (children ns))) (has-room : child_full_for ExclusiveTx x (child_at c (children ns)) ≡ None)
      (deeper : (w : Where) (s : Stamp) → Owns w (child_take_exclusive x s (child_at c (children ns))) (take_turns h (child_at c (children ns)))) (w : Where) (s : Stamp) where
    abbrev entry : DownValue
    entry = record { kind = ExclusiveTx; item = x; words = blank d.sizes.width; stamp = s }

    -- the directory that was told exclusive, then without what came down, and after the grant
    abbrev told : DirValue
    told = pushed_down ExclusiveTx x (blank d.sizes.width) s (with_hold x Hold.Exclusive d)

    abbrev q : DirValue
    q = front_taken s [] told

    abbrev last : DirValue
    last = with_note x no_note q

    told-is : dir_take_exclusive x s d ≡ told
    unfolding dir_take_exclusive
    told-is = refl

    q-items : ItemsAre x Hold.Exclusive (up_erase c) false q.items
    q-items = items-set x (record (dir_item x d) { hold = Hold.Exclusive }) _ _ _ Hold.Exclusive (up_erase c) false d.items items refl items.note items.answers

    last-items : ItemsAre x Hold.Exclusive no_note false last.items
    last-items = items-set x (record (dir_item x q) { note = no_note }) _ _ _ Hold.Exclusive no_note false q.items q-items q-items.hold refl q-items.answers

    last-lists : ListsAre [] [] [] last
    last-lists = record { down = refl; requests = lists.requests; replies = lists.replies; parked = lists.parked; places = lists.places }

    -- the children when child c was told
    abbrev first : List Node
    first = slice_set (children ns) c (child_take_exclusive x (stamp_of q) (child_at c (children ns)))

    one : Owns (at_child (spot_in (where_path w) last c)) (child_take_exclusive x (stamp_of q) (child_at c (children ns))) (take_turns h (child_at c (children ns)))
    one = deeper (at_child (spot_in (where_path w) last c)) (stamp_of q)

    abbrev second : List Node
    second = slice_set first c one.after

    in-first : c < length first
    in-first = subst (λ l. c < l) (sym (length-set (children ns) c _)) there

    many : length second ≡ length (children ns)
    many = length-set first c one.after ∙ length-set (children ns) c _

    run : Runs w (dir_node told ns) (Turn.Down d.bus ∷ take_turns h (child_at c (children ns))) (dir_node last (nodes second))
    unfolding exclusive_to
    run =
        let front : told.down ≡ entry ∷ [] = ap (λ l. l ++ entry ∷ []) lists.down in
        let down = down-exclusive (stamp_above w) x c (blank d.sizes.width) s told (children ns) front q-items.note has-room in
        let at-first : child_at c first ≡ child_take_exclusive x (stamp_of q) (child_at c (children ns)) = get_or-set_same (children ns) c _ no_node there in
        let inner : Runs (at_child (spot_in (where_path w) last c)) (child_at c first) (take_turns h (child_at c (children ns))) one.after = subst (λ m. Runs (at_child (spot_in (where_path w) last c)) m (take_turns h (child_at c (children ns))) one.after) (sym at-first) one.run in
        let deeper-run : Runs w (dir_node last (nodes first)) (take_turns h (child_at c (children ns)) ++ []) (dir_node last (nodes second)) = below first c (take_turns h (child_at c (children ns))) one.after in-first inner stays in
        let ended : Runs w (dir_node last (nodes first)) (take_turns h (child_at c (children ns))) (dir_node last (nodes second)) = subst (λ ts. Runs w (dir_node last (nodes first)) ts (dir_node last (nodes second))) (append-nil (take_turns h (child_at c (children ns)))) deeper-run in
        subst (λ l. Runs w (dir_node told l) (Turn.Down d.bus ∷ take_turns h (child_at c (children ns))) (dir_node last (nodes second))) (nodes-children ns)
        (turned (children ns) (exclusive_to x q (children ns) c) refl down (subst (λ l. Runs w (dir_node last (nodes l)) (take_turns h (child_at c (children ns))) (dir_node last (nodes second))) (sym (only-set c (child_take_exclusive x (stamp_of q)) (children ns))) ended))

    spine : Spine n flat h (LeafIs n flat g x LeafState.Exclusive None) (dir_node last (nodes second))
    spine =
        let same = children-nodes second in
        over c over-second (subst (λ l. c < length l) (sym same) (subst (λ k. c < k) (sym many) there)) (rests-dir x Hold.Exclusive last last-items last-lists) room (subst (λ l. (j : ℕ) → j < length l → j ≢ c → Settled n flat (child_at j l)) (sym same) listed) (subst (λ l. Spine n flat h (LeafIs n flat g x LeafState.Exclusive None) (child_at c l)) (sym same) here)
      where
        over-second : child_over h (nodes second) ≡ Some c
        over-second = same-over h 0 (nodes second) ns (dir-bones last told (nodes second) ns (runs-skeleton run)) ∙ is

        listed : (j : ℕ) → j < length second → j ≢ c → Settled n flat (child_at j second)
        listed j l ne = subst (Settled n flat) (sym (get_or-set_other first c j one.after no_node ne ∙ get_or-set_other (children ns) c j _ no_node ne)) (others j (subst (λ k. j < k) many l) ne)

        here : Spine n flat h (LeafIs n flat g x LeafState.Exclusive None) (child_at c second)
        here = subst (Spine n flat h (LeafIs n flat g x LeafState.Exclusive None)) (sym (get_or-set_same first c one.after no_node in-first)) one.spine

    owns-so : Owns w (dir_node (dir_take_exclusive x s d) ns) (Turn.Down d.bus ∷ turns_by (λ c. turns_of_child c (takes h ns)) (child_over h ns))
    owns-so = subst (λ e. Owns w (dir_node e ns) (Turn.Down d.bus ∷ turns_by (λ c. turns_of_child c (takes h ns)) (child_over h ns))) (sym told-is)
        (subst (λ o. Owns w (dir_node told ns) (Turn.Down d.bus ∷ turns_by (λ c. turns_of_child c (takes h ns)) o)) (sym is)
        (subst (λ ts. Owns w (dir_node told ns) (Turn.Down d.bus ∷ ts)) (sym (takes-at h c ns there)) (record { after = dir_node last (nodes second); run = run; spine = spine })))

  pub own : (m : Node) → Erases m → (w : Where) (s : Stamp) → Owns w (child_take_exclusive x s m) (take_turns h m)
  own (leaf_node v) (erases_leaf number is) w s =
      let there : x < length v.ways = way-within x v.ways is.entry is.here in
      let e : WayValue = record is.entry { state = LeafState.Exclusive } in
      let right : e.words ≡ flat.words x = is.copies.each x is.entry is.here (ap is_reading is.in_state) in
      let so : LeafIs n flat g x LeafState.Exclusive None (exclusive x is.entry v) = record {
        entry = e;
        here = get_or-set_same v.ways x (Some e) None there;
        in_state = refl;
        others = λ y ne. ap way_rests (get_or-set_other v.ways x y (Some e) None ne) ∙ is.others y ne;
        buffer = refl;
        slot = is.slot;
        replies = is.replies;
        copies = have-set flat v.ways x e is.copies there (λ r. right);
        room = is.room;
        hart = is.hart;
        reserved = is.reserved;
      } in
      subst (λ u. Owns w (leaf_node u) []) (sym (exclusive-is x is.entry v is.here is.buffer is.in_state)) (record { after = leaf_node (exclusive x is.entry v); run = stays; spine = at_leaf number so })
  own (dir_node d ns) (erases_over c hold is there items lists room others deeper) w s = owns-so d ns c hold is there items lists room others (free-for_exclusive (child_at c (children ns)) deeper) (λ w s. own (child_at c (children ns)) deeper w s) w s
