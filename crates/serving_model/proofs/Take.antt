-- Data comes down to the leaf that waits for it: each bus over the leaf gives it to the child that is over the leaf.
-- Letters: n is how many items there are, x the item, h the leaf, m a part, d a directory over the children ns, w a
-- place, s a stamp, c the child that is over the leaf.
use Rattle.std.proofs.Common.{◌≡◌, ◌≢◌, ℕ, zero, suc, ◌+◌, ◌<◌, Bool, true, false, List, [], ◌∷◌, ◌++◌, length, Some, None, refl, sym, ap, subst, ◌∙◌, arith, get_or-set_same, get_or-set_other}
use Rattle.std.specs.Prelude.{◌||◌, nat_eq, slice_set}
use native.Mathlib.Decide.{ℕ_discrete}
use Rattle.std.proofs.lemmas.Bool.{eq-eqb, ne_eqb}
use Rattle.std.proofs.lemmas.List.{length-set, append-nil}
use Rattle.serving_model.specs.DdmTypes.declared.answers.TxKind.TheVariants.{DataTx}
use Rattle.serving_model.specs.DdmTypes.declared.sizes.Hold.{Hold}
use Rattle.serving_model.specs.DdmTypes.declared.sizes.LeafState.{LeafState}
use Rattle.serving_model.specs.DdmTypes.declared.keys.Stamp.{Stamp}
use Rattle.serving_model.specs.DdmTypes.declared.turns.Turn.{Turn}
use Rattle.bus_laws.specs.FlatModel.Flat.{FlatHart}
use Rattle.serving_model.specs.TreeModel.declared.BusTurn.{BusTurn}
use Rattle.serving_model.specs.TreeModel.State.Lists.{map_from, first_given}
use Rattle.serving_model.specs.TreeModel.State.States.{is_reading}
use Rattle.serving_model.specs.TreeModel.State.Values.{WayValue, DownValue, LeafValue, no_note, up_read, DirValue, Node, Nodes, leaf_node, dir_node, no_nodes, more_nodes, nodes, children}
use Rattle.serving_model.specs.TreeModel.State.Leaf.{way_at, entry_at, leaf_take_data}
use Rattle.serving_model.specs.TreeModel.State.Directory.{is_reader, dir_item, dir_note, stamp_of, front_taken, pushed_down, with_hold, with_note, dir_take_data}
use Rattle.serving_model.specs.TreeModel.State.Child.{child_full_for, child_take_data}
use Rattle.serving_model.specs.TreeModel.State.Blank.{no_node}
use Rattle.serving_model.specs.TreeModel.State.Place.{Where, at_child, stamp_above, where_path, spot_in}
use Rattle.serving_model.specs.TreeModel.Turns.Grant.{granted, unless_full}
use Rattle.serving_model.specs.TreeModel.Turns.Children.{child_at, reader_full, only, reader_takes}
use Rattle.serving_model.specs.TreeModel.Turns.Down.{data_to_readers}
use Rattle.serving_model.specs.TreeModel.Turns.Bus.{bus_judged}
use Rattle.serving_model.specs.Rest.{way_rests, dir_has_room}
use Rattle.serving_model.specs.Parts.{FlatView, Runs, stays, turned, below, Settled}
use Rattle.serving_model.specs.OneLeaf.{LeafIs, Spine, at_leaf, over, got, asks_then}
use Rattle.serving_model.specs.Walk.{child_over, turns_by, turns_of_child, take_turns, takes}
use Rattle.bus_laws.proofs.HartFacts.{way-within}
use Rattle.bus_laws.proofs.TreeModel.Sets.{in_set-empty}
use Rattle.serving_model.proofs.TreeModel.Children.{nodes-children, children-nodes, only-set}
use Rattle.serving_model.proofs.Dirs.{ItemsAre, ListsAre, items-set, rests-dir, dir-room, not-full}
use Rattle.serving_model.proofs.Give.{have-set}
use Rattle.serving_model.proofs.Sweep.{none-given}
use Rattle.serving_model.proofs.Steps.{runs-skeleton}
use Rattle.serving_model.proofs.Spine.{same-over, dir-bones}
use Rattle.serving_model.proofs.Ask.{Waits, waits_leaf, waits_over}

-- ---- turns

-- data comes down to the only reader
down-data : (above : Stamp) (x c : ℕ) (words : List ℕ) (s : Stamp) (p : DirValue) (ns : List Node) → p.down ≡ record { kind = DataTx; item = x; words = words; stamp = s } ∷ [] → dir_note x p ≡ up_read c 0 → first_given (reader_full (up_read c 0) x) 0 ns ≡ None → bus_judged above p ns BusTurn.Down ≡ granted (data_to_readers x (front_taken s [] p) ns words c 0)
unfolding unless_full
down-data above x c words s p ns front note free = rw (front, note, note, free) refl

pub only-reader : (c i : ℕ) → is_reader (up_read c 0) i ≡ nat_eq i c
only-reader c i = rw (in_set-empty i) (or-none (nat_eq i c)) where
  or-none : (b : Bool) → (b || false) ≡ b
  or-none true = refl
  or-none false = refl

map-same : (f g : ℕ → Node → Node) → ((i : ℕ) (m : Node) → f i m ≡ g i m) → (i : ℕ) (ns : List Node) → map_from f i ns ≡ map_from g i ns
map-same f g same i [] = refl
map-same f g same i (m ∷ ns) = rw (same i m) (ap (λ ms. g i m ∷ ms) (map-same f g same (i + 1) ns))

-- the only reader alone is told
pub one-takes : (c x : ℕ) (words : List ℕ) (s : Stamp) (ns : List Node) → map_from (reader_takes (up_read c 0) x words s) 0 ns ≡ map_from (only c (child_take_data x words s)) 0 ns
one-takes c x words s ns = map-same _ _ (λ i m. rw (only-reader c i) refl) 0 ns

-- ---- a leaf

abbrev taken : ℕ → WayValue → LeafState → List ℕ → LeafValue → LeafValue
taken x e state words v = record v { ways = slice_set v.ways x (Some (record e { state = got state; words = words })); buffer = []; slot = asks_then x state }

taken-is : (x : ℕ) (e : WayValue) (v : LeafValue) (state : LeafState) (words : List ℕ) → way_at x v.ways ≡ Some e → v.buffer ≡ [] → v.slot ≡ None → e.state ≡ state → is_reading state ≡ true → leaf_take_data x words v ≡ taken x e state words v
unfolding leaf_take_data entry_at
taken-is x e v LeafState.Reading words here buffer slot is reads = rw (here, buffer, slot, is, here) refl
taken-is x e v LeafState.ReadingWaiting words here buffer slot is reads = rw (here, buffer, slot, is, here) refl
taken-is x e v LeafState.Shared words here buffer slot is reads = cc
taken-is x e v LeafState.Exclusive words here buffer slot is reads = cc
taken-is x e v LeafState.Waiting words here buffer slot is reads = cc

pub takes-at : (h k : ℕ) (ns : Nodes) → k < length (children ns) → turns_of_child k (takes h ns) ≡ take_turns h (child_at k (children ns))
takes-at h k no_nodes l = absurd (omega (arith, l))
takes-at h zero (more_nodes m ns) l = refl
takes-at h (suc k) (more_nodes m ns) l = takes-at h k ns (omega (arith, l))

module _ (n : ℕ) (flat : FlatView) (g : FlatHart) (h x : ℕ) (within : x < n) (state : LeafState) (reads : is_reading state ≡ true) where
  -- these turns of a part are granted, the leaf has got the item, and all else is at rest
  pub record Takes (w : Where) (m : Node) (ts : List Turn) : Type 0 where
    pub after : Node
    pub run : Runs w m ts after
    pub spine : Spine n flat h (LeafIs n flat g x (got state) (asks_then x state)) after

  -- a child that waits has room for data
  pub free : (m : Node) → Waits n flat g h x within state m → child_full_for DataTx x m ≡ None
  free (leaf_node v) waits = refl
  free (dir_node d ns) (waits_over c is there items lists room others deeper) =
      let full = not-full d.sizes.down_room d.down (dir-room d.sizes room).down lists.down in
      rw full refl

  module _ (d : DirValue) (ns : Nodes) (c : ℕ) (is : child_over h ns ≡ Some c) (there : c < length (children ns)) (items : ItemsAre x Hold.Invalid (up_read c 0) false d.items) (lists : ListsAre [] [] [] d) (room : dir_has_room d.sizes ≡ true)
      (others : (j : ℕ) → j < length (children ns) → j ≢ c → Settled n flat (child_at j (children ns))) (has-room : child_full_for DataTx x (child_at c (children ns)) ≡ None)
      (deeper : (w : Where) (s : Stamp) → Takes w (child_take_data x (flat.words x) s (child_at c (children ns))) (take_turns h (child_at c (children ns)))) (w : Where) (s : Stamp) where
    abbrev entry : DownValue
    entry = record { kind = DataTx; item = x; words = flat.words x; stamp = s }

    -- the directory that was told data, then without what came down, and after the grant
    abbrev told : DirValue
    told = pushed_down DataTx x (flat.words x) s (with_hold x Hold.Shared d)

    abbrev q : DirValue
    q = front_taken s [] told

    abbrev last : DirValue
    last = with_note x no_note q

    told-is : dir_take_data x (flat.words x) s d ≡ told
    unfolding dir_take_data
    told-is = refl

    q-items : ItemsAre x Hold.Shared (up_read c 0) false q.items
    q-items = items-set x (record (dir_item x d) { hold = Hold.Shared }) _ _ _ Hold.Shared (up_read c 0) false d.items items refl items.note items.answers

    last-items : ItemsAre x Hold.Shared no_note false last.items
    last-items = items-set x (record (dir_item x q) { note = no_note }) _ _ _ Hold.Shared no_note false q.items q-items q-items.hold refl q-items.answers

    last-lists : ListsAre [] [] [] last
    last-lists = record { down = refl; requests = lists.requests; replies = lists.replies; parked = lists.parked; places = lists.places }

    -- the children when child c was told
    abbrev first : List Node
    first = slice_set (children ns) c (child_take_data x (flat.words x) (stamp_of q) (child_at c (children ns)))

    one : Takes (at_child (spot_in (where_path w) last c)) (child_take_data x (flat.words x) (stamp_of q) (child_at c (children ns))) (take_turns h (child_at c (children ns)))
    one = deeper (at_child (spot_in (where_path w) last c)) (stamp_of q)

    abbrev second : List Node
    second = slice_set first c one.after

    in-first : c < length first
    in-first = subst (λ l. c < l) (sym (length-set (children ns) c _)) there

    many : length second ≡ length (children ns)
    many = length-set first c one.after ∙ length-set (children ns) c _

    none-full : first_given (reader_full (up_read c 0) x) 0 (children ns) ≡ None
    none-full = none-given (reader_full (up_read c 0) x) 0 (children ns) (λ k l. at k (ℕ_discrete k c)) where
      at : (k : ℕ) → Dec (k ≡ c) → reader_full (up_read c 0) x (0 + k) (child_at k (children ns)) ≡ None
      at k (yes same) =
          let zero_more : 0 + k ≡ k = omega arith in
          let here : nat_eq k c ≡ true = eq-eqb k c same in
          let room : child_full_for DataTx x (child_at k (children ns)) ≡ None = subst (λ j. child_full_for DataTx x (child_at j (children ns)) ≡ None) (sym same) has-room in
          rw (zero_more, only-reader c k, here) room
      at k (no other) =
          let zero_more : 0 + k ≡ k = omega arith in
          let apart : nat_eq k c ≡ false = ne_eqb k c other in
          rw (zero_more, only-reader c k, apart) refl

    run : Runs w (dir_node told ns) (Turn.Down d.bus ∷ take_turns h (child_at c (children ns))) (dir_node last (nodes second))
    unfolding data_to_readers
    run =
        let front : told.down ≡ entry ∷ [] = ap (λ l. l ++ entry ∷ []) lists.down in
        let down = down-data (stamp_above w) x c (flat.words x) s told (children ns) front q-items.note none-full in
        let at-first : child_at c first ≡ child_take_data x (flat.words x) (stamp_of q) (child_at c (children ns)) = get_or-set_same (children ns) c _ no_node there in
        let inner : Runs (at_child (spot_in (where_path w) last c)) (child_at c first) (take_turns h (child_at c (children ns))) one.after = subst (λ m. Runs (at_child (spot_in (where_path w) last c)) m (take_turns h (child_at c (children ns))) one.after) (sym at-first) one.run in
        let deeper-run : Runs w (dir_node last (nodes first)) (take_turns h (child_at c (children ns)) ++ []) (dir_node last (nodes second)) = below first c (take_turns h (child_at c (children ns))) one.after in-first inner stays in
        let ended : Runs w (dir_node last (nodes first)) (take_turns h (child_at c (children ns))) (dir_node last (nodes second)) = subst (λ ts. Runs w (dir_node last (nodes first)) ts (dir_node last (nodes second))) (append-nil (take_turns h (child_at c (children ns)))) deeper-run in
        let kids : map_from (reader_takes (up_read c 0) x (flat.words x) (stamp_of q)) 0 (children ns) ≡ first = one-takes c x (flat.words x) (stamp_of q) (children ns) ∙ only-set c (child_take_data x (flat.words x) (stamp_of q)) (children ns) in
        subst (λ l. Runs w (dir_node told l) (Turn.Down d.bus ∷ take_turns h (child_at c (children ns))) (dir_node last (nodes second))) (nodes-children ns)
        (turned (children ns) (data_to_readers x q (children ns) (flat.words x) c 0) refl down (subst (λ l. Runs w (dir_node last (nodes l)) (take_turns h (child_at c (children ns))) (dir_node last (nodes second))) (sym kids) ended))

    over-second : child_over h (nodes second) ≡ Some c
    over-second = same-over h 0 (nodes second) ns (dir-bones last told (nodes second) ns (runs-skeleton run)) ∙ is

    listed : (j : ℕ) → j < length second → j ≢ c → Settled n flat (child_at j second)
    listed j l ne = subst (Settled n flat) (sym (get_or-set_other first c j one.after no_node ne ∙ get_or-set_other (children ns) c j _ no_node ne)) (others j (subst (λ k. j < k) many l) ne)

    here : Spine n flat h (LeafIs n flat g x (got state) (asks_then x state)) (child_at c second)
    here = subst (Spine n flat h (LeafIs n flat g x (got state) (asks_then x state))) (sym (get_or-set_same first c one.after no_node in-first)) one.spine

    spine : Spine n flat h (LeafIs n flat g x (got state) (asks_then x state)) (dir_node last (nodes second))
    spine =
        let same = children-nodes second in
        over c over-second (subst (λ l. c < length l) (sym same) (subst (λ k. c < k) (sym many) there)) (rests-dir x Hold.Shared last last-items last-lists) room (subst (λ l. (j : ℕ) → j < length l → j ≢ c → Settled n flat (child_at j l)) (sym same) listed) (subst (λ l. Spine n flat h (LeafIs n flat g x (got state) (asks_then x state)) (child_at c l)) (sym same) here)

    takes-so : Takes w (dir_node (dir_take_data x (flat.words x) s d) ns) (Turn.Down d.bus ∷ turns_by (λ c. turns_of_child c (takes h ns)) (child_over h ns))
    takes-so = subst (λ e. Takes w (dir_node e ns) (Turn.Down d.bus ∷ turns_by (λ c. turns_of_child c (takes h ns)) (child_over h ns))) (sym told-is)
        (subst (λ o. Takes w (dir_node told ns) (Turn.Down d.bus ∷ turns_by (λ c. turns_of_child c (takes h ns)) o)) (sym is)
        (subst (λ ts. Takes w (dir_node told ns) (Turn.Down d.bus ∷ ts)) (sym (takes-at h c ns there)) (record { after = dir_node last (nodes second); run = run; spine = spine })))

  pub take : (m : Node) → Waits n flat g h x within state m → (w : Where) (s : Stamp) → Takes w (child_take_data x (flat.words x) s m) (take_turns h m)
  take (leaf_node v) (waits_leaf number is) w s =
      let there : x < length v.ways = way-within x v.ways is.entry is.here in
      let e : WayValue = record is.entry { state = got state; words = flat.words x } in
      let so : LeafIs n flat g x (got state) (asks_then x state) (taken x is.entry state (flat.words x) v) = record {
        entry = e;
        here = get_or-set_same v.ways x (Some e) None there;
        in_state = refl;
        others = λ y ne. ap way_rests (get_or-set_other v.ways x y (Some e) None ne) ∙ is.others y ne;
        buffer = refl;
        slot = refl;
        replies = is.replies;
        copies = have-set flat v.ways x e is.copies there (λ r. refl);
        room = is.room;
        hart = is.hart;
        reserved = is.reserved;
      } in
      subst (λ u. Takes w (leaf_node u) []) (sym (taken-is x is.entry v state (flat.words x) is.here is.buffer is.slot is.in_state reads)) (record { after = leaf_node (taken x is.entry state (flat.words x) v); run = stays; spine = at_leaf number so })
  take (dir_node d ns) (waits_over c is there items lists room others deeper) w s = takes-so d ns c is there items lists room others (free (child_at c (children ns)) deeper) (λ w s. take (child_at c (children ns)) deeper w s) w s
